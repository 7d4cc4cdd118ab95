-- What a field leaves the machine in, and what a separator makes of it.
use Rattle.std.proofs.Common.{◌≡◌, Bool, true, false, List, [], ◌∷◌, ◌++◌, Option, Some, None, sym, ◌∙◌, ap, refl}
use Rattle.std.specs.Prelude.{option_map, if◌then◌else◌}
use Rattle.f95_tree.specs.declared.expression.Expression.{Expression, roll-Expression, out-Expression}
use Rattle.f95_tree.specs.declared.expression.Expression.TheVariants as e
use Rattle.f95_tree.specs.declared.expression.Reference.{roll-Reference, out-Reference}
use Rattle.f95_tree.specs.declared.expression.Reference.TheVariants as r
use Rattle.f95_tree.specs.declared.expression.Value.{Value, roll-Value, out-Value}
use Rattle.f95_tree.specs.declared.expression.Value.TheVariants as v
use Rattle.f95_tree.specs.declared.expression.Item.{Item, roll-Item, out-Item}
use Rattle.f95_tree.specs.declared.expression.Item.TheVariants as i
use Rattle.f95_tree.specs.declared.expression.Expression.TheViews.{out-roll-Item}
use Rattle.f95_tree.specs.declared.expression.Expression.TheOpen.{Item-F}
use Rattle.f95_tree.specs.declared.expression.Expression.TheOpen as layer
use Rattle.f95_tree.specs.declared.expression.Reference.{Reference}
use Rattle.f95_tree.specs.declared.terminal.Terminal.{Terminal}
use Rattle.f95_tree.specs.declared.terminal.Terminal.TheVariants as terminal
use Rattle.f95_tree.specs.declared.terminal.Punctuation.{Punctuation}
use Rattle.f95_tree.specs.declared.terminal.Punctuation.TheVariants as mark
use Rattle.f95_tree.specs.Spelling.{punctuated, item, value}
use Rattle.f95_tree.specs.Forms.{Word}
use Rattle.f95_tree.proofs.Nodes.{expression-Reference, reference-Whole, item-Plain, item-Keyword, item-Triplet, value-One}
use Rattle.f95_tree.proofs.Views.{seen-Triplet}
use Rattle.f95_tree.proofs.Induction.{value_cases, item_cases}
use Rattle.f95_expressions.specs.declared.pending.Field.{Field}
use Rattle.f95_expressions.specs.declared.pending.Spread.{Spread}
use Rattle.f95_expressions.specs.declared.pending.Spread.TheVariants as spread
use Rattle.f95_expressions.specs.declared.pending.Bracket.{Bracket}
use Rattle.f95_expressions.specs.declared.pending.Bracket.TheVariants as kind
use Rattle.f95_expressions.specs.declared.pending.Stage.{Stage}
use Rattle.f95_expressions.specs.declared.pending.Stage.TheVariants as stage
use Rattle.f95_expressions.specs.declared.pending.Pending.TheVariants as pending
use Rattle.f95_expressions.specs.declared.pending.Machine.{Machine}
use Rattle.f95_expressions.specs.declared.pending.Machine.TheVariants as machine
use Rattle.f95_expressions.specs.Fields.{field_text}
use Rattle.f95_expressions.specs.Machine.{Stack, lone, field, fresh, made, is_closed_by, separated_in, parted, closed, step, run}
use Rattle.f95_expressions.specs.Machine.{ended, row_of, item_of, value_of, spread_of, field_of}

-- the machine behind a value
abbrev behind_lone : Stack → Value → Option Expression → Machine
behind_lone s w None = machine.Did s w
behind_lone s w (Some x) = machine.Holds s x

abbrev pub behind : Stack → Option Value → Machine
behind s None = machine.Waits s
behind s (Some w) = behind_lone s w (lone w)

-- how far a spread has been read before its last part, and that part
abbrev pub stage_in : Spread → Stage
stage_in spread.Empty = stage.Start
stage_in (spread.One _) = stage.Start
stage_in (spread.Triplet lower _ None) = stage.Upper lower
stage_in (spread.Triplet lower upper (Some _)) = stage.Stride lower upper

abbrev pub last_in : Spread → Option Value
last_in spread.Empty = None
last_in (spread.One w) = Some w
last_in (spread.Triplet _ upper None) = option_map v.One upper
last_in (spread.Triplet _ _ (Some step)) = Some (v.One step)

abbrev pub in_field : Bracket → List Field → Stack → Field → Stack
in_field k d s f = pending.Open k d f.left (stage_in f.spread) ∷ s

-- the machine behind a field
abbrev pub behind_field : Bracket → List Field → Stack → Field → Machine
behind_field k d s f = behind (in_field k d s f) (last_in f.spread)

-- a separator or a closer
abbrev pub parts : Punctuation → Bool
parts mark.Open = false
parts mark.OpenArray = false
parts _ = true

step_one : (k : Bracket) (d : List Field) (left : Option Expression) (g : Stage) (s : Stack) (p : Punctuation) (x : Expression) →
    parts p ≡ true →
    step (behind (pending.Open k d left g ∷ s) (Some (v.One x))) (terminal.Punctuation p)
    ≡ separated_in k d left g s (Some (v.One x)) p
unfolding roll-Value denote.Hole.Carrier.roll out-Value denote.Hole.Carrier.out
step_one k d left g s mark.Open x h = absurd (cc)
step_one k d left g s mark.OpenArray x h = absurd (cc)
step_one k d left g s p x h = refl

step_none : (k : Bracket) (d : List Field) (left : Option Expression) (g : Stage) (s : Stack) (p : Punctuation) → parts p ≡ true →
    step (machine.Waits (pending.Open k d left g ∷ s)) (terminal.Punctuation p) ≡ separated_in k d left g s None p
step_none k d left g s mark.Open h = absurd (cc)
step_none k d left g s mark.OpenArray h = absurd (cc)
step_none k d left g s p h = refl

step_did : (k : Bracket) (d : List Field) (left : Option Expression) (g : Stage) (s : Stack) (p : Punctuation)
    (vs : List Value) (n : Word) (a b : Expression) (c : Option Expression) → parts p ≡ true →
    step (behind (pending.Open k d left g ∷ s) (Some (v.ImpliedDo vs n a b c))) (terminal.Punctuation p)
    ≡ separated_in k d left g s (Some (v.ImpliedDo vs n a b c)) p
unfolding roll-Value denote.Hole.Carrier.roll out-Value denote.Hole.Carrier.out
step_did k d left g s p vs n a b None h = refl
step_did k d left g s p vs n a b (Some c) h = refl

-- a separator behind what was read last
pub step_behind : (k : Bracket) (d : List Field) (left : Option Expression) (g : Stage) (s : Stack) (p : Punctuation)
    (last : Option Value) → parts p ≡ true →
    step (behind (pending.Open k d left g ∷ s) last) (terminal.Punctuation p) ≡ separated_in k d left g s last p
step_behind k d left g s p None h = step_none k d left g s p h
step_behind k d left g s p (Some w) h =
    value_cases
    (λ w. step (behind (pending.Open k d left g ∷ s) (Some w)) (terminal.Punctuation p) ≡ separated_in k d left g s (Some w) p)
    (λ x. step_one k d left g s p x h) (λ vs n a b c. step_did k d left g s p vs n a b c h) w

ended_one : (k : Bracket) (d : List Field) (left : Option Expression) (g : Stage) (s : Stack) (x : Expression) →
    ended (behind (pending.Open k d left g ∷ s) (Some (v.One x))) ≡ row_of (pending.Open k d left g ∷ s) (Some (v.One x))
unfolding roll-Value denote.Hole.Carrier.roll out-Value denote.Hole.Carrier.out
ended_one k d left g s x = refl

ended_did : (k : Bracket) (d : List Field) (left : Option Expression) (g : Stage) (s : Stack)
    (vs : List Value) (n : Word) (a b : Expression) (c : Option Expression) →
    ended (behind (pending.Open k d left g ∷ s) (Some (v.ImpliedDo vs n a b c)))
    ≡ row_of (pending.Open k d left g ∷ s) (Some (v.ImpliedDo vs n a b c))
unfolding roll-Value denote.Hole.Carrier.roll out-Value denote.Hole.Carrier.out
ended_did k d left g s vs n a b None = refl
ended_did k d left g s vs n a b (Some c) = refl

-- the end behind what was read last
pub ended_behind : (k : Bracket) (d : List Field) (left : Option Expression) (g : Stage) (s : Stack) (last : Option Value) →
    ended (behind (pending.Open k d left g ∷ s) last) ≡ row_of (pending.Open k d left g ∷ s) last
ended_behind k d left g s None = refl
ended_behind k d left g s (Some w) =
    value_cases (λ w. ended (behind (pending.Open k d left g ∷ s) (Some w)) ≡ row_of (pending.Open k d left g ∷ s) (Some w))
    (λ x. ended_one k d left g s x) (λ vs n a b c. ended_did k d left g s vs n a b c) w

-- what was read is the field
spread_again : (sp : Spread) → spread_of (stage_in sp) (last_in sp) ≡ Some sp
unfolding roll-Value denote.Hole.Carrier.roll out-Value denote.Hole.Carrier.out
spread_again spread.Empty = refl
spread_again (spread.One w) = refl
spread_again (spread.Triplet a None None) = refl
spread_again (spread.Triplet a (Some b) None) = refl
spread_again (spread.Triplet a b (Some c)) = refl

pub field_again : (f : Field) → field_of f.left (stage_in f.spread) (last_in f.spread) ≡ Some f
field_again f = ap (option_map (field f.left)) (spread_again f.spread)

-- ---- steps behind a whole field

run_did : (s : Stack) (vs : List Value) (n : Word) (a b : Expression) (c : Option Expression) (t : Terminal) (rest : List Terminal)
    →
    run (behind s (Some (v.ImpliedDo vs n a b c))) (t ∷ rest) ≡ run (step (behind s (Some (v.ImpliedDo vs n a b c))) t) rest
unfolding roll-Value denote.Hole.Carrier.roll out-Value denote.Hole.Carrier.out
run_did s vs n a b None t rest = refl
run_did s vs n a b (Some c) t rest = refl

run_one : (s : Stack) (x : Expression) (t : Terminal) (rest : List Terminal) →
    run (behind s (Some (v.One x))) (t ∷ rest) ≡ run (step (behind s (Some (v.One x))) t) rest
unfolding roll-Value denote.Hole.Carrier.roll out-Value denote.Hole.Carrier.out
run_one s x t rest = refl

pub run_behind : (s : Stack) (last : Option Value) (t : Terminal) (rest : List Terminal) → run (behind s last) (t ∷ rest)
    ≡ run (step (behind s last) t) rest
run_behind s None t rest = refl
run_behind s (Some w) t rest = value_cases (λ w. run (behind s (Some w)) (t ∷ rest) ≡ run (step (behind s (Some w)) t) rest)
    (λ x. run_one s x t rest) (λ vs n a b c. run_did s vs n a b c t rest) w

-- a separator behind a field
abbrev pub parted_by : Bracket → List Field → Field → Stack → Punctuation → Machine
parted_by k d f s mark.Comma = fresh k (f ∷ d) s
parted_by k d f s mark.Close = if is_closed_by k mark.Close then made k (f ∷ d) s else machine.Stops
parted_by k d f s mark.CloseArray = if is_closed_by k mark.CloseArray then made k (f ∷ d) s else machine.Stops
parted_by k d f s _ = machine.Stops

-- what ends a field
abbrev pub is_end : Punctuation → Bool
is_end mark.Comma = true
is_end mark.Close = true
is_end mark.CloseArray = true
is_end _ = false

part_field : (k : Bracket) (d : List Field) (f : Field) (g : Stage) (last : Option Value) (s : Stack) (p : Punctuation) →
    is_end p ≡ true →
    field_of f.left g last ≡ Some f → separated_in k d f.left g s last p ≡ parted_by k d f s p
part_field k d f g last s mark.Comma h is = ap (parted k d s) is
part_field k d f g last s mark.Close h is = ap (λ o. if is_closed_by k mark.Close then closed k d s o else machine.Stops) is
part_field k d f g last s mark.CloseArray h is = ap (λ o. if is_closed_by k mark.CloseArray then closed k d s o else machine.Stops)
    is
part_field k d f g last s mark.Open h is = absurd (cc)
part_field k d f g last s p h is = absurd (cc)

end_parts : (p : Punctuation) → is_end p ≡ true → parts p ≡ true
end_parts mark.Open h = h
end_parts mark.OpenArray h = h
end_parts p h = refl

pub end_behind : (k : Bracket) (d : List Field) (s : Stack) (f : Field) (p : Punctuation) (rest : List Terminal) → is_end p ≡ true →
    run (behind_field k d s f) (terminal.Punctuation p ∷ rest) ≡ run (parted_by k d f s p) rest
end_behind k d s f p rest h =
    run_behind (in_field k d s f) (last_in f.spread) (terminal.Punctuation p) rest
    ∙ ap (λ m. run m rest) (step_behind k d f.left (stage_in f.spread) s p (last_in f.spread) (end_parts p h)
    ∙ part_field k d f (stage_in f.spread) (last_in f.spread) s p h (field_again f))

-- the end of a row behind its last field
pub row_behind : (d : List Field) (f : Field) → run (behind_field kind.Row d [] f) [] ≡ Some (f ∷ d, None)
row_behind d f = ended_behind kind.Row d f.left (stage_in f.spread) [] (last_in f.spread)
    ∙ ap (option_map (λ (f : Field). (f ∷ d, None))) (field_again f)

-- ---- what stands in brackets, as fields

abbrev pub value_field : Value → Field
value_field w = field None (spread.One w)

abbrev pub expression_field : Expression → Field
expression_field x = value_field (v.One x)

abbrev pub item_field_at : Item-F Expression Item Reference Value → Field
item_field_at (layer.Plain x) = expression_field x
item_field_at (layer.Keyword n x) = field (Some (e.Reference (r.Whole n))) (spread.One (v.One x))
item_field_at (layer.Triplet a b c) = field None (spread.Triplet a b c)

abbrev pub item_field : Item → Field
item_field x = item_field_at (out-Item x)

pub value_back : (w : Value) → value_of (value_field w) ≡ Some w
value_back w = refl

back_plain : (x : Expression) → item_of (item_field (i.Plain x)) ≡ Some (i.Plain x)
unfolding roll-Value denote.Hole.Carrier.roll out-Value denote.Hole.Carrier.out roll-Item out-Item
back_plain x = refl

back_keyword : (n : Word) (x : Expression) → item_of (item_field (i.Keyword n x)) ≡ Some (i.Keyword n x)
unfolding roll-Value denote.Hole.Carrier.roll out-Value denote.Hole.Carrier.out roll-Item out-Item roll-Expression out-Expression
    roll-Reference out-Reference
back_keyword n x = refl

back_triplet : (a b c : Option Expression) → item_of (item_field (i.Triplet a b c)) ≡ Some (i.Triplet a b c)
back_triplet a b c = ap (λ y. item_of (item_field_at y)) (seen-Triplet a b c)

pub item_back : (x : Item) → item_of (item_field x) ≡ Some x
item_back = item_cases (λ x. item_of (item_field x) ≡ Some x) back_plain back_keyword back_triplet

text_plain : (x : Expression) → field_text (item_field (i.Plain x)) ≡ item (i.Plain x)
unfolding denote.Hole.Carrier.roll denote.Hole.Carrier.out roll-Item out-Item
text_plain x = value-One x ∙ sym (item-Plain x)

text_keyword : (n : Word) (x : Expression) → field_text (item_field (i.Keyword n x)) ≡ item (i.Keyword n x)
unfolding denote.Hole.Carrier.roll denote.Hole.Carrier.out roll-Item out-Item
text_keyword n x = ap (λ t. t ++ punctuated mark.Assign [] ++ value (v.One x))
    (expression-Reference (r.Whole n) ∙ reference-Whole n)
    ∙ ap (λ t. terminal.Name n ∷ punctuated mark.Assign t) (value-One x) ∙ sym (item-Keyword n x)

text_triplet : (a b c : Option Expression) → field_text (item_field (i.Triplet a b c)) ≡ item (i.Triplet a b c)
text_triplet a b c = ap (λ y. field_text (item_field_at y)) (seen-Triplet a b c) ∙ sym (item-Triplet a b c)

pub item_text : (x : Item) → field_text (item_field x) ≡ item x
item_text = item_cases (λ x. field_text (item_field x) ≡ item x) text_plain text_keyword text_triplet
