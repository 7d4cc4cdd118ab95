-- The machine that reads fields of expressions: one terminal a step, with a stack of what is open.
use Rattle.std.specs.Prelude.{ℕ, Bool, true, false, nat_le, List, [], ◌∷◌, Option, Some, None, is_some, option_map, option_and_then}
use Rattle.std.specs.Prelude.{if◌then◌else◌}
use Rattle.f95_tree.specs.declared.expression.Expression.{Expression, out-Expression}
use Rattle.f95_tree.specs.declared.expression.Expression.TheVariants as e
use Rattle.f95_tree.specs.declared.expression.Reference.{Reference, out-Reference}
use Rattle.f95_tree.specs.declared.expression.Reference.TheVariants as r
use Rattle.f95_tree.specs.declared.expression.Item.{Item}
use Rattle.f95_tree.specs.declared.expression.Item.TheVariants as i
use Rattle.f95_tree.specs.declared.expression.Value.{Value, out-Value}
use Rattle.f95_tree.specs.declared.expression.Value.TheVariants as v
use Rattle.f95_tree.specs.declared.expression.Expression.TheOpen.{Expression-F, Reference-F, Value-F}
use Rattle.f95_tree.specs.declared.expression.Expression.TheOpen as layer
use Rattle.f95_tree.specs.declared.terminal.Terminal.{Terminal}
use Rattle.f95_tree.specs.declared.terminal.Terminal.TheVariants as terminal
use Rattle.f95_tree.specs.declared.terminal.Operator.{Operator}
use Rattle.f95_tree.specs.declared.terminal.Operator.TheVariants as operator
use Rattle.f95_tree.specs.declared.terminal.Sign.{Sign}
use Rattle.f95_tree.specs.declared.terminal.Sign.TheVariants as sign
use Rattle.f95_tree.specs.declared.terminal.Punctuation.{Punctuation}
use Rattle.f95_tree.specs.declared.terminal.Punctuation.TheVariants as mark
use Rattle.f95_tree.specs.Forms.{Word}
use Rattle.f95_tree.specs.Levels.{level, left_of, right_of, sign_level, under_sign}
use Rattle.f95_expressions.specs.declared.pending.Field.{Field}
use Rattle.f95_expressions.specs.declared.pending.Spread.{Spread}
use Rattle.f95_expressions.specs.declared.pending.Spread.TheVariants as spread
use Rattle.f95_expressions.specs.declared.pending.Bracket.{Bracket}
use Rattle.f95_expressions.specs.declared.pending.Bracket.TheVariants as kind
use Rattle.f95_expressions.specs.declared.pending.Stage.{Stage}
use Rattle.f95_expressions.specs.declared.pending.Stage.TheVariants as stage
use Rattle.f95_expressions.specs.declared.pending.Pending.{Pending}
use Rattle.f95_expressions.specs.declared.pending.Pending.TheVariants as pending
use Rattle.f95_expressions.specs.declared.pending.Held.{Held}
use Rattle.f95_expressions.specs.declared.pending.Ending.{Ending}
use Rattle.f95_expressions.specs.declared.pending.Machine.{Machine}
use Rattle.f95_expressions.specs.declared.pending.Machine.TheVariants as machine

abbrev pub Stack : Type 0
Stack = List Pending

-- Operators.

-- the least level that the operand on top must have
abbrev pub asked : Stack → ℕ
asked [] = 0
asked (pending.Left _ op ∷ _) = right_of op
asked (pending.Before sg ∷ _) = under_sign sg
asked (pending.Open _ _ _ _ ∷ _) = 0

abbrev pub held : Stack → Expression → Held
held s x = record { stack = s; expression = x }

-- all pending operations of at least this level are made
abbrev pub reduce : ℕ → Stack → Expression → Held
reduce l [] x = held [] x
reduce l (pending.Left a op ∷ s) x = if nat_le l (level op) then reduce l s (e.Binary op a x) else held (pending.Left a op ∷ s) x
reduce l (pending.Before sg ∷ s) x = if nat_le l (sign_level sg) then reduce l s (e.Signed sg x) else held (pending.Before sg ∷ s) x
reduce l (pending.Open k fs left g ∷ s) x = held (pending.Open k fs left g ∷ s) x

-- whether what waits on top has at least this level
abbrev pub can_make : ℕ → Stack → Bool
can_make l [] = false
can_make l (pending.Left _ op ∷ _) = nat_le l (level op)
can_make l (pending.Before sg ∷ _) = nat_le l (sign_level sg)
can_make l (pending.Open _ _ _ _ ∷ _) = false

-- the operation that waited for an operand
abbrev pub made_of : Pending → Expression → Expression
made_of (pending.Left a op) x = e.Binary op a x
made_of (pending.Before sg) x = e.Signed sg x
made_of (pending.Open _ _ _ _) x = x

abbrev pub operated : Operator → Held → Machine
operated op h = if nat_le (asked h.stack) (level op) then machine.Waits (pending.Left h.expression op ∷ h.stack) else machine.Stops

abbrev pub signed : Sign → Stack → Machine
signed sg s = if nat_le (asked s) (sign_level sg) then machine.Waits (pending.Before sg ∷ s) else machine.Stops

-- Fields.

-- one layer of each type
abbrev pub ExpressionLayer : Type 0
ExpressionLayer = Expression-F Expression Item Reference Value

abbrev pub ReferenceLayer : Type 0
ReferenceLayer = Reference-F Expression Item Reference Value

abbrev pub ValueLayer : Type 0
ValueLayer = Value-F Expression Item Reference Value

-- an expression that is a value
abbrev pub expression_in : ValueLayer → Option Expression
expression_in (layer.One x) = Some x
expression_in (layer.ImpliedDo _ _ _ _ _) = None

abbrev pub lone : Value → Option Expression
lone w = expression_in (out-Value w)

-- what may be absent, unless it is an implied DO
abbrev pub plain : Option Value → Option (Option Expression)
plain None = Some None
plain (Some w) = option_map Some (lone w)

abbrev pub one_or_empty : Option Value → Spread
one_or_empty None = spread.Empty
one_or_empty (Some w) = spread.One w

-- the spread that ends here, with what was read last
abbrev pub spread_of : Stage → Option Value → Option Spread
spread_of stage.Start last = Some (one_or_empty last)
spread_of (stage.Upper lower) last = option_map (λ upper. spread.Triplet lower upper None) (plain last)
spread_of (stage.Stride lower upper) last = option_map (λ step. spread.Triplet lower upper (Some step)) (option_and_then lone last)

-- what a colon makes of a spread
abbrev pub coloned : Stage → Option Value → Option Stage
coloned stage.Start last = option_map stage.Upper (plain last)
coloned (stage.Upper lower) last = option_map (stage.Stride lower) (plain last)
coloned (stage.Stride _ _) last = None

-- what = makes of a field: its left side
abbrev pub assigned : Option Expression → Stage → Option Value → Option Expression
assigned None stage.Start last = option_and_then lone last
assigned _ _ _ = None

abbrev pub field : Option Expression → Spread → Field
field left s = record { left = left; spread = s }

abbrev pub field_of : Option Expression → Stage → Option Value → Option Field
field_of left g last = option_map (field left) (spread_of g last)

-- Lists of fields, the newest one first.

-- each field made into something, the first one first, before what is there
abbrev pub collected : {A : Type 0} → (Field → Option A) → List A → List Field → Option (List A)
collected make done [] = Some done
collected make done (f ∷ fs) = option_and_then (λ a. collected make (a ∷ done) fs) (make f)

-- the name of a variable that is named alone

abbrev pub name_in_reference : ReferenceLayer → Option Word
name_in_reference (layer.Whole n) = Some n
name_in_reference _ = None

abbrev pub name_in : ExpressionLayer → Option Word
name_in (layer.Reference x) = name_in_reference (out-Reference x)
name_in _ = None

abbrev pub whole : Expression → Option Word
whole x = name_in (out-Expression x)

-- what stands in brackets behind a name

abbrev pub item_from : Option Expression → Spread → Option Item
item_from None spread.Empty = None
item_from None (spread.One w) = option_map i.Plain (lone w)
item_from None (spread.Triplet lower upper stride) = Some (i.Triplet lower upper stride)
item_from (Some x) (spread.One w) = option_and_then (λ n. option_map (i.Keyword n) (lone w)) (whole x)
item_from (Some x) _ = None

abbrev pub item_of : Field → Option Item
item_of f = item_from f.left f.spread

abbrev pub is_nothing_from : Option Expression → Spread → Bool
is_nothing_from None spread.Empty = true
is_nothing_from _ _ = false

abbrev pub is_nothing : Field → Bool
is_nothing f = is_nothing_from f.left f.spread

-- the fields between brackets, none where nothing stands there
abbrev pub within : List Field → List Field
within [] = []
within (f ∷ []) = if is_nothing f then [] else f ∷ []
within (f ∷ g ∷ fs) = f ∷ g ∷ fs

abbrev pub items_of : List Field → Option (List Item)
items_of fs = collected item_of [] (within fs)

abbrev pub value_from : Option Expression → Spread → Option Value
value_from None (spread.One w) = Some w
value_from _ _ = None

abbrev pub value_of : Field → Option Value
value_of f = value_from f.left f.spread

-- a field that is an expression
abbrev pub expression_of : Field → Option Expression
expression_of f = option_and_then lone (value_of f)

abbrev pub has_left : Field → Bool
has_left f = is_some f.left

-- the name in name = first
abbrev pub index_of : Field → Option Word
index_of f = option_and_then whole f.left

abbrev pub first_in : Spread → Option Expression
first_in (spread.One w) = lone w
first_in _ = None

abbrev pub maybe_expression_of : Option Field → Option (Option Expression)
maybe_expression_of None = Some None
maybe_expression_of (Some f) = option_map Some (expression_of f)

-- at least one value
abbrev pub filled : List Value → Option (List Value)
filled [] = None
filled (w ∷ ws) = Some (w ∷ ws)

abbrev pub values_of : List Field → Option (List Value)
values_of fs = option_and_then filled (collected value_of [] fs)

-- an implied DO over these fields, with an index, its last value and its step
abbrev pub looped : List Field → Field → Field → Option Field → Option Value
looped fs index last step =
    option_and_then
    (λ values. option_and_then
    (λ n. option_and_then (λ from. option_and_then (λ to. option_map (λ by. v.ImpliedDo values n from to by)
    (maybe_expression_of step)) (expression_of last)) (first_in index.spread)) (index_of index)) (values_of fs)

abbrev pub looped_with_step : List Field → Field → Field → Option Value
looped_with_step [] last step = None
looped_with_step (index ∷ fs) last step = looped fs index last (Some step)

abbrev pub implied : List Field → Option Value
implied (z ∷ y ∷ fs) = if has_left y then looped fs y z None else looped_with_step fs y z
implied _ = None

-- Brackets.

abbrev pub holds : Stack → Option Expression → Machine
holds s None = machine.Stops
holds s (Some x) = machine.Holds s x

abbrev pub did : Stack → Option Value → Machine
did s None = machine.Stops
did s (Some w) = machine.Did s w

abbrev pub made_plain : List Field → Stack → Machine
made_plain (f ∷ []) s = holds s (option_map e.Bracketed (expression_of f))
made_plain fs s = did s (implied fs)

-- the bounds of a substring
abbrev pub range_from : Option Expression → Spread → Option (Option Expression × Option Expression)
range_from None (spread.Triplet lower upper None) = Some (lower, upper)
range_from _ _ = None

abbrev pub part_of : Word → List Item → Option Expression → Spread → Option Expression
part_of n items left s = option_map (λ range. e.Reference (r.Substring n items range)) (range_from left s)

abbrev pub made_part : Word → List Item → List Field → Option Expression
made_part n items (f ∷ []) = part_of n items f.left f.spread
made_part n items _ = None

abbrev pub alone : List Field → Stack → Machine
alone fs [] = machine.Closed fs
alone fs (_ ∷ _) = machine.Stops

-- what closed brackets make of their fields
abbrev pub made : Bracket → List Field → Stack → Machine
made kind.Plain fs s = made_plain fs s
made (kind.Behind n) fs s = holds s (option_map (λ items. e.Reference (r.Items n items)) (items_of fs))
made (kind.Part n items) fs s = holds s (made_part n items fs)
made kind.Array fs s = holds s (option_map e.Constructor (values_of fs))
made kind.Alone fs s = alone fs s
made kind.Row fs s = machine.Stops

-- whether a closer is that of a bracket
abbrev pub is_closed_by : Bracket → Punctuation → Bool
is_closed_by kind.Array mark.CloseArray = true
is_closed_by kind.Plain mark.Close = true
is_closed_by (kind.Behind _) mark.Close = true
is_closed_by (kind.Part _ _) mark.Close = true
is_closed_by kind.Alone mark.Close = true
is_closed_by _ _ = false

abbrev pub fresh : Bracket → List Field → Stack → Machine
fresh k fs s = machine.Waits (pending.Open k fs None stage.Start ∷ s)

abbrev pub parted : Bracket → List Field → Stack → Option Field → Machine
parted k fs s None = machine.Stops
parted k fs s (Some f) = fresh k (f ∷ fs) s

abbrev pub closed : Bracket → List Field → Stack → Option Field → Machine
closed k fs s None = machine.Stops
closed k fs s (Some f) = made k (f ∷ fs) s

abbrev pub with_stage : Bracket → List Field → Option Expression → Stack → Option Stage → Machine
with_stage k fs left s None = machine.Stops
with_stage k fs left s (Some g) = machine.Waits (pending.Open k fs left g ∷ s)

abbrev pub with_left : Bracket → List Field → Stack → Option Expression → Machine
with_left k fs s None = machine.Stops
with_left k fs s (Some x) = machine.Waits (pending.Open k fs (Some x) stage.Start ∷ s)

-- a separator or a closer in a bracket, behind what was read last, if anything was
abbrev pub separated_in : Bracket → List Field → Option Expression → Stage → Stack → Option Value → Punctuation → Machine
separated_in k fs left g s last mark.Comma = parted k fs s (field_of left g last)
separated_in k fs left g s last mark.Colon = with_stage k fs left s (coloned g last)
separated_in k fs left g s last mark.Assign = with_left k fs s (assigned left g last)
separated_in k fs left g s last mark.Close = if is_closed_by k mark.Close then closed k fs s (field_of left g last) else
    machine.Stops
separated_in k fs left g s last mark.CloseArray = if is_closed_by k mark.CloseArray then closed k fs s (field_of left g last) else
    machine.Stops
separated_in k fs left g s last _ = machine.Stops

abbrev pub separated : Stack → Option Value → Punctuation → Machine
separated (pending.Open k fs left g ∷ s) last p = separated_in k fs left g s last p
separated _ last p = machine.Stops

-- One step.

abbrev pub first_mark : Stack → Punctuation → Machine
first_mark s mark.Open = fresh kind.Plain [] s
first_mark s mark.OpenArray = fresh kind.Array [] s
first_mark s p = separated s None p

abbrev pub first_operator : Stack → Operator → Machine
first_operator s operator.Add = signed sign.Plus s
first_operator s operator.Subtract = signed sign.Minus s
first_operator s _ = machine.Stops

-- where an operand may begin
abbrev pub first_step : Stack → Terminal → Machine
first_step s (terminal.Literal l) = machine.Holds s (e.Literal l)
first_step s (terminal.Name n) = machine.Holds s (e.Reference (r.Whole n))
first_step s (terminal.Operator op) = first_operator s op
first_step s terminal.Not = signed sign.Not s
first_step s (terminal.Punctuation p) = first_mark s p
first_step s _ = machine.Stops

abbrev pub opened_reference : Stack → ReferenceLayer → Machine
opened_reference s (layer.Whole n) = fresh (kind.Behind n) [] s
opened_reference s (layer.Items n items) = fresh (kind.Part n items) [] s
opened_reference s (layer.Substring _ _ _) = machine.Stops

-- an opening bracket behind an operand
abbrev pub opened : Stack → ExpressionLayer → Machine
opened s (layer.Reference x) = opened_reference s (out-Reference x)
opened s _ = machine.Stops

abbrev pub ended_by : Held → Punctuation → Machine
ended_by h p = separated h.stack (Some (v.One h.expression)) p

abbrev pub next_mark : Stack → Expression → Punctuation → Machine
next_mark s x mark.Open = opened s (out-Expression x)
next_mark s x p = ended_by (reduce 0 s x) p

-- behind an operand
abbrev pub next_step : Stack → Expression → Terminal → Machine
next_step s x (terminal.Operator op) = operated op (reduce (left_of op) s x)
next_step s x (terminal.Punctuation p) = next_mark s x p
next_step s x _ = machine.Stops

-- behind an implied DO
abbrev pub did_step : Stack → Value → Terminal → Machine
did_step s w (terminal.Punctuation p) = separated s (Some w) p
did_step s w _ = machine.Stops

abbrev pub step : Machine → Terminal → Machine
step (machine.Waits s) t = first_step s t
step (machine.Holds s x) t = next_step s x t
step (machine.Did s w) t = did_step s w t
step (machine.Closed _) t = machine.Stops
step machine.Stops t = machine.Stops

-- Runs.

-- fields, the newest one first, and what stands behind the bracket that closed them, if one did
abbrev pub Found : Type 0
Found = List Field × Option (List Terminal)

-- a row that ends here
abbrev pub row_of : Stack → Option Value → Option Found
row_of (pending.Open kind.Row fs left g ∷ []) last = option_map (λ f. (f ∷ fs, None)) (field_of left g last)
row_of _ last = None

-- what a bracket on top of a stack has read
abbrev pub ending_of : Option Pending → Option Value → Option Ending
ending_of (Some (pending.Open k fs left g)) last = Some record { bracket = k; fields = fs; left = left; stage = g; last = last }
ending_of _ last = None

abbrev pub is_row : Bracket → Bool
is_row kind.Row = true
is_row _ = false

-- the fields of a row that ends here, if it is one
abbrev pub row_ending : Ending → Option (List Field)
row_ending ending = if is_row ending.bracket then option_map (λ f. f ∷ ending.fields)
    (field_of ending.left ending.stage ending.last) else None

abbrev pub ended_held : Held → Option Found
ended_held h = row_of h.stack (Some (v.One h.expression))

abbrev pub ended : Machine → Option Found
ended (machine.Waits s) = row_of s None
ended (machine.Holds s x) = ended_held (reduce 0 s x)
ended (machine.Did s w) = row_of s (Some w)
ended (machine.Closed fs) = Some (fs, Some [])
ended machine.Stops = None

abbrev pub run : Machine → List Terminal → Option Found
run m [] = ended m
run (machine.Closed fs) (t ∷ ts) = Some (fs, Some (t ∷ ts))
run m (t ∷ ts) = run (step m t) ts

abbrev pub is_closed : Machine → Bool
is_closed (machine.Closed _) = true
is_closed _ = false

-- what a closed bracket has, and what stands behind it
abbrev pub closed_at : Machine → List Terminal → Option (List Field × List Terminal)
closed_at (machine.Closed fs) ts = Some (fs, ts)
closed_at _ ts = None

abbrev pub closed_found : Found → Option (List Field × List Terminal)
closed_found (fs, None) = None
closed_found (fs, Some rest) = Some (fs, rest)

abbrev pub row_found : Found → Option (List Field)
row_found (fs, None) = Some fs
row_found (fs, Some rest) = None

-- the fields up to the bracket that closes, and what stands behind it
abbrev pub bracket : List Terminal → Option (List Field × List Terminal)
bracket ts = option_and_then closed_found (run (fresh kind.Alone [] []) ts)

-- the fields of all that is left
abbrev pub row : List Terminal → Option (List Field)
row ts = option_and_then row_found (run (fresh kind.Row [] []) ts)
