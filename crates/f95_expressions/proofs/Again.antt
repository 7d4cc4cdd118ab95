-- What is printed is read again: the machine reads the spelling of a well-formed expression as that expression.
use Rattle.std.proofs.Common.{◌≡◌, ◌≤◌, true, false, ◌&&◌, List, [], ◌∷◌, ◌++◌, map, Option, Some, None, sym, ◌∙◌, ap, subst, refl}
use Rattle.std.proofs.Common.{append_assoc, append-nil, arith}
use Rattle.std.specs.Prelude.{option_map, option_and_then, if◌then◌else◌}
use Rattle.std.proofs.lemmas.Bool.{leb-true, le-leb, and_parts}
use Rattle.a95_base.specs.Lists.{Every}
use Rattle.f95_tree.specs.declared.expression.Expression.{Expression, roll-Expression, out-Expression}
use Rattle.f95_tree.specs.declared.expression.Expression.TheVariants as e
use Rattle.f95_tree.specs.declared.expression.Expression.TheOpen as layer
use Rattle.f95_tree.specs.declared.expression.Reference.{Reference, roll-Reference, out-Reference}
use Rattle.f95_tree.specs.declared.expression.Reference.TheVariants as r
use Rattle.f95_tree.specs.declared.expression.Item.{Item, roll-Item, out-Item}
use Rattle.f95_tree.specs.declared.expression.Item.TheVariants as i
use Rattle.f95_tree.specs.declared.expression.Value.{Value, roll-Value, out-Value}
use Rattle.f95_tree.specs.declared.expression.Value.TheVariants as v
use Rattle.f95_tree.specs.declared.expression.Literal.{Literal}
use Rattle.f95_tree.specs.declared.terminal.Terminal.TheVariants as terminal
use Rattle.f95_tree.specs.declared.terminal.Operator.{Operator}
use Rattle.f95_tree.specs.declared.terminal.Sign.{Sign}
use Rattle.f95_tree.specs.declared.terminal.Sign.TheVariants as sign
use Rattle.f95_tree.specs.declared.terminal.Punctuation.{Punctuation}
use Rattle.f95_tree.specs.declared.terminal.Punctuation.TheVariants as mark
use Rattle.f95_tree.specs.Levels.{level, left_of, right_of, sign_level, under_sign}
use Rattle.f95_tree.specs.Spelling.{Text, punctuated, commas, in_brackets, maybe, maybe_behind, sign_terminal, expression, item}
use Rattle.f95_tree.specs.Spelling.{reference, value}
use Rattle.f95_tree.specs.Grades.{Grade, all, maybe_well, grade, well, well_item, well_reference, well_value}
use Rattle.f95_tree.specs.Forms.{Word}
use Rattle.f95_tree.proofs.Nodes.{expression-Literal, expression-Reference, expression-Bracketed, expression-Constructor}
use Rattle.f95_tree.proofs.Nodes.{expression-Signed, expression-Binary, reference-Whole, reference-Items, reference-Substring}
use Rattle.f95_tree.proofs.Nodes.{value-One, value-ImpliedDo, grade-Literal, grade-Reference, grade-Bracketed, grade-Constructor}
use Rattle.f95_tree.proofs.Nodes.{grade-Signed, grade-Binary, well_item-Plain, well_item-Keyword, well_item-Triplet}
use Rattle.f95_tree.proofs.Nodes.{well_reference-Whole, well_reference-Items, well_reference-Substring, well_value-One}
use Rattle.f95_tree.proofs.Nodes.{well_value-ImpliedDo}
use Rattle.f95_tree.proofs.Views.{seen-Reference, seen-Items, seen-Triplet}
use Rattle.f95_tree.proofs.Induction.{Maybe, item_cases, ByNode, each_expression, each_item, each_reference, each_value}
use Rattle.f95_expressions.specs.declared.pending.Field.{Field}
use Rattle.f95_expressions.specs.declared.pending.Spread.{Spread}
use Rattle.f95_expressions.specs.declared.pending.Spread.TheVariants as spread
use Rattle.f95_expressions.specs.declared.pending.Bracket.{Bracket}
use Rattle.f95_expressions.specs.declared.pending.Bracket.TheVariants as kind
use Rattle.f95_expressions.specs.declared.pending.Stage.{Stage}
use Rattle.f95_expressions.specs.declared.pending.Stage.TheVariants as stage
use Rattle.f95_expressions.specs.declared.pending.Pending.TheVariants as pending
use Rattle.f95_expressions.specs.declared.pending.Machine.TheVariants as machine
use Rattle.f95_expressions.specs.Fields.{field_text, spread_text}
use Rattle.f95_expressions.specs.Machine.{Stack, Found, holds, did, collected, opened, opened_reference, values_of, implied}
use Rattle.f95_expressions.specs.Machine.{with_stage, within, is_nothing, items_of, filled, asked, operated, plain, field, fresh}
use Rattle.f95_expressions.specs.Machine.{made, is_closed_by, step, run, item_of, value_of}
use Rattle.f95_expressions.proofs.Table.{above, beyond, above_sign, stays, lets, lets_more, made_left, made_sign}
use Rattle.f95_expressions.proofs.Lists.{onto, collected_all}
use Rattle.f95_expressions.proofs.Fields.{behind, behind_field, stage_in, last_in, run_behind, step_behind, item_field_at}
use Rattle.f95_expressions.proofs.Fields.{item_back, value_field, value_back, expression_field, item_field, parted_by, is_end}
use Rattle.f95_expressions.proofs.Fields.{end_behind, item_text}

-- a text is read as an expression of this grade
abbrev pub Reads : Expression → Grade → Text → Type 0
Reads x g t = (s : Stack) (rest : Text) → g.1 ≡ true → asked s ≤ g.0 → lets g.0 rest ≡ true →
    run (machine.Waits s) (t ++ rest) ≡ run (machine.Holds s x) rest

-- an expression is read again
abbrev pub Again : Expression → Type 0
Again x = Reads x (grade x) (expression x)

-- so is a reference, whatever follows
abbrev pub ReferenceAgain : Reference → Type 0
ReferenceAgain x = (s : Stack) (rest : Text) → well_reference x ≡ true → run (machine.Waits s) (reference x ++ rest)
    ≡ run (machine.Holds s (e.Reference x)) rest

-- and a value in a bracket
abbrev pub ValueAgain : Value → Type 0
ValueAgain w = (k : Bracket) (d : List Field) (left : Option Expression) (g : Stage) (s : Stack) (rest : Text) →
    well_value w ≡ true → lets 0 rest ≡ true →
    run (machine.Waits (pending.Open k d left g ∷ s)) (value w ++ rest) ≡ run (behind (pending.Open k d left g ∷ s) (Some w)) rest

-- and a field
abbrev pub FieldAgain : Field → Type 0
FieldAgain f = (k : Bracket) (d : List Field) (s : Stack) (rest : Text) → lets 0 rest ≡ true →
    run (fresh k d s) (field_text f ++ rest) ≡ run (behind_field k d s f) rest

abbrev pub ItemAgain : Item → Type 0
ItemAgain x = well_item x ≡ true → FieldAgain (item_field x)

as_node : (x : Expression) (g : Grade) (t : Text) → grade x ≡ g → expression x ≡ t → Reads x g t → Again x
as_node x g t eg et h = subst (λ g. Reads x g (expression x)) (sym eg) (subst (λ t. Reads x g t) (sym et) h)

-- ---- operators

on_literal : (l : Literal) → Again (e.Literal l)
on_literal l = as_node (e.Literal l) _ _ (grade-Literal l) (expression-Literal l) (λ s rest w a h. refl)

on_reference : (x : Reference) → ReferenceAgain x → Again (e.Reference x)
on_reference x h = as_node (e.Reference x) _ _ (grade-Reference x) (expression-Reference x) (λ s rest w a l. h s rest w)

on_binary : (op : Operator) (a b : Expression) → Again a → Again b → Again (e.Binary op a b)
on_binary op a b ha hb = as_node (e.Binary op a b) _ _ (grade-Binary op a b) (expression-Binary op a b) (λ s rest w h l.
    let ws = and_parts _ _ w in
    let wa = and_parts _ _ ws.0 in
    let wb = and_parts _ _ ws.1 in
    let left : left_of op ≤ (grade a).0 = leb-true _ _ wa.0 in
    let right : right_of op ≤ (grade b).0 = leb-true _ _ wb.0 in
    ap (run (machine.Waits s)) (append_assoc (expression a) (terminal.Operator op ∷ expression b) rest)
    ∙ ha s (terminal.Operator op ∷ (expression b ++ rest)) wa.1 (omega (arith, above op)) wa.0
    ∙ ap (λ h. run (operated op h) (expression b ++ rest)) (stays s a op h)
    ∙ ap (λ c. run (if c then machine.Waits (pending.Left a op ∷ s) else machine.Stops) (expression b ++ rest)) (le-leb _ _ h)
    ∙ hb (pending.Left a op ∷ s) rest wb.1 right (lets_more (level op) (grade b).0 rest (omega (arith, beyond op)) l)
    ∙ made_left s a op b rest l)

signed_step : (g : Sign) (s : Stack) (rest : Text) → asked s ≤ sign_level g → run (machine.Waits s) (sign_terminal g ∷ rest)
    ≡ run (machine.Waits (pending.Before g ∷ s)) rest
signed_step sign.Plus s rest h = ap (λ c. run (if c then machine.Waits (pending.Before sign.Plus ∷ s) else machine.Stops) rest)
    (le-leb _ _ h)
signed_step sign.Minus s rest h = ap (λ c. run (if c then machine.Waits (pending.Before sign.Minus ∷ s) else machine.Stops) rest)
    (le-leb _ _ h)
signed_step sign.Not s rest h = ap (λ c. run (if c then machine.Waits (pending.Before sign.Not ∷ s) else machine.Stops) rest)
    (le-leb _ _ h)

on_signed : (g : Sign) (x : Expression) → Again x → Again (e.Signed g x)
on_signed g x hx = as_node (e.Signed g x) _ _ (grade-Signed g x) (expression-Signed g x) (λ s rest w h l.
    let wx = and_parts _ _ w in
    let under : under_sign g ≤ (grade x).0 = leb-true _ _ wx.0 in
    signed_step g s (expression x ++ rest) h
    ∙ hx (pending.Before g ∷ s) rest wx.1 under (lets_more (sign_level g) (grade x).0 rest (omega (arith, above_sign g)) l)
    ∙ made_sign s g x rest l)

-- ---- fields

on_one : (x : Expression) → Again x → ValueAgain (v.One x)
unfolding roll-Value denote.Hole.Carrier.roll out-Value denote.Hole.Carrier.out
on_one x hx k d left g s rest w l =
    ap (λ t. run (machine.Waits (pending.Open k d left g ∷ s)) (t ++ rest)) (value-One x)
    ∙ hx (pending.Open k d left g ∷ s) rest (sym (well_value-One x) ∙ w) (omega arith)
    (lets_more 0 (grade x).0 rest (omega arith) l)

-- fields in a row, the first one first, each as it is spelled
abbrev pub FieldsAgain : {A : Type 0} → (A → Field) → List A → Type 0
FieldsAgain g xs = Every (λ x. FieldAgain (g x)) xs

-- a list of fields, and what ends the last one
pub list_again : {A : Type 0} (g : A → Field) (text : A → Text) → ((x : A) → field_text (g x) ≡ text x) → (x : A) (xs : List A) →
    FieldsAgain g (x ∷ xs) → (k : Bracket) (s : Stack) (tail : Text) (end : List Field → Option Found) → lets 0 tail ≡ true →
    ((d : List Field) (f : Field) → run (behind_field k d s f) tail ≡ end (f ∷ d)) → (d : List Field) →
    run (fresh k d s) (commas (map text (x ∷ xs)) ++ tail) ≡ end (onto (map g (x ∷ xs)) d)
list_again g text same x [] again k s tail end l h d =
    ap (λ t. run (fresh k d s) (t ++ tail)) (append-nil (text x) ∙ sym (same x)) ∙ again.0 k d s tail l ∙ h d (g x)
list_again g text same x (y ∷ ys) again k s tail end l h d =
    let more = terminal.Punctuation mark.Comma ∷ commas (map text (y ∷ ys)) in
    ap (run (fresh k d s)) (append_assoc (text x) more tail)
    ∙ ap (λ t. run (fresh k d s) (t ++ (more ++ tail))) (sym (same x))
    ∙ again.0 k d s (more ++ tail) refl
    ∙ end_behind k d s (g x) mark.Comma (commas (map text (y ∷ ys)) ++ tail) refl
    ∙ list_again g text same y ys again.1 k s tail end l h (g x ∷ d)

closed_part : (k : Bracket) (d : List Field) (f : Field) (s : Stack) (p : Punctuation) → is_closed_by k p ≡ true →
    (is_end p ≡ true) × (parted_by k d f s p ≡ made k (f ∷ d) s)
closed_part kind.Array d f s mark.CloseArray c = (refl, refl)
closed_part kind.Array d f s p c = absurd (cc)
closed_part kind.Plain d f s mark.Close c = (refl, refl)
closed_part kind.Plain d f s p c = absurd (cc)
closed_part (kind.Behind n) d f s mark.Close c = (refl, refl)
closed_part (kind.Behind n) d f s p c = absurd (cc)
closed_part (kind.Part n items) d f s mark.Close c = (refl, refl)
closed_part (kind.Part n items) d f s p c = absurd (cc)
closed_part kind.Alone d f s mark.Close c = (refl, refl)
closed_part kind.Alone d f s p c = absurd (cc)
closed_part kind.Row d f s p c = absurd (cc)

end_lets : (p : Punctuation) (rest : Text) → is_end p ≡ true → lets 0 (terminal.Punctuation p ∷ rest) ≡ true
end_lets mark.Open rest h = absurd (cc)
end_lets p rest h = refl

-- a closer behind the last field
pub closer_behind : (k : Bracket) (s : Stack) (p : Punctuation) (rest : Text) → is_closed_by k p ≡ true →
    (d : List Field) (f : Field) →
    run (behind_field k d s f) (terminal.Punctuation p ∷ rest) ≡ run (made k (f ∷ d) s) rest
closer_behind k s p rest c d f = let part = closed_part k d f s p c in end_behind k d s f p rest part.0
    ∙ ap (λ m. run m rest) part.1

-- a list of fields in brackets
pub closed_list : {A : Type 0} (g : A → Field) (text : A → Text) → ((x : A) → field_text (g x) ≡ text x) → (x : A) (xs : List A) →
    FieldsAgain g (x ∷ xs) → (k : Bracket) (s : Stack) (p : Punctuation) (rest : Text) → is_closed_by k p ≡ true →
    (d : List Field) →
    run (fresh k d s) (commas (map text (x ∷ xs)) ++ terminal.Punctuation p ∷ rest) ≡ run (made k (onto (map g (x ∷ xs)) d) s) rest
closed_list g text same x xs again k s p rest c d =
    list_again g text same x xs again k s (terminal.Punctuation p ∷ rest) (λ fs. run (made k fs s) rest)
    (end_lets p rest (closed_part k d (g x) s p c).0)
    (closer_behind k s p rest c) d

-- a list of fields and a comma
pub comma_list : {A : Type 0} (g : A → Field) (text : A → Text) → ((x : A) → field_text (g x) ≡ text x) → (x : A) (xs : List A) →
    FieldsAgain g (x ∷ xs) → (k : Bracket) (s : Stack) (rest : Text) (d : List Field) →
    run (fresh k d s) (commas (map text (x ∷ xs)) ++ terminal.Punctuation mark.Comma ∷ rest)
    ≡ run (fresh k (onto (map g (x ∷ xs)) d) s) rest
comma_list g text same x xs again k s rest d =
    list_again g text same x xs again k s (terminal.Punctuation mark.Comma ∷ rest) (λ fs. run (fresh k fs s) rest) refl
    (λ d f. end_behind k d s f mark.Comma rest refl) d

-- ---- nodes with fields

bracket_text : (inside rest : Text) (p : Punctuation) → (inside ++ punctuated p []) ++ rest ≡ inside ++ terminal.Punctuation p
    ∷ rest
bracket_text inside rest p = append_assoc inside (punctuated p []) rest

bracketed_made : (x : Expression) (s : Stack) → made kind.Plain (expression_field x ∷ []) s ≡ machine.Holds s (e.Bracketed x)
unfolding roll-Value denote.Hole.Carrier.roll out-Value denote.Hole.Carrier.out
bracketed_made x s = refl

-- an expression as a field
pub expression_again : (x : Expression) → Again x → well x ≡ true → FieldAgain (expression_field x)
expression_again x hx w k d s rest l = on_one x hx k d None stage.Start s rest (well_value-One x ∙ w) l

on_bracketed : (x : Expression) → Again x → Again (e.Bracketed x)
on_bracketed x hx = as_node (e.Bracketed x) _ _ (grade-Bracketed x) (expression-Bracketed x) (λ s rest w h l.
    ap (run (fresh kind.Plain [] s)) (bracket_text (expression x) rest mark.Close)
    ∙ ap (λ t. run (fresh kind.Plain [] s) (t ++ terminal.Punctuation mark.Close ∷ rest)) (sym (value-One x))
    ∙ expression_again x hx w kind.Plain [] s (terminal.Punctuation mark.Close ∷ rest) refl
    ∙ closer_behind kind.Plain s mark.Close rest refl [] (expression_field x)
    ∙ ap (λ m. run m rest) (bracketed_made x s))

every_value : (vs : List Value) → Every ValueAgain vs → all (map well_value vs) ≡ true → FieldsAgain value_field vs
every_value [] h w = tt
every_value (x ∷ vs) h w =
    let ws = and_parts _ _ w in ((λ k d s rest l. h.0 k d None stage.Start s rest ws.0 l), every_value vs h.1 ws.1)

every_item : (xs : List Item) → Every ItemAgain xs → all (map well_item xs) ≡ true → FieldsAgain item_field xs
every_item [] h w = tt
every_item (x ∷ xs) h w = let ws = and_parts _ _ w in (h.0 ws.0, every_item xs h.1 ws.1)

constructor_made : (x : Value) (vs : List Value) (s : Stack) → made kind.Array (onto (map value_field (x ∷ vs)) []) s
    ≡ machine.Holds s (e.Constructor (x ∷ vs))
constructor_made x vs s = ap (λ o. holds s (option_map e.Constructor (option_and_then filled o)))
    (collected_all value_of value_field value_back (x ∷ vs))

on_constructor : (vs : List Value) → Every ValueAgain vs → Again (e.Constructor vs)
on_constructor [] h = as_node (e.Constructor []) _ _ (grade-Constructor []) (expression-Constructor [])
    (λ s rest w a l. absurd (cc))
on_constructor (x ∷ vs) h = as_node (e.Constructor (x ∷ vs)) _ _ (grade-Constructor (x ∷ vs)) (expression-Constructor (x ∷ vs))
    (λ s rest w a l.
    ap (run (fresh kind.Array [] s)) (bracket_text (commas (map value (x ∷ vs))) rest mark.CloseArray)
    ∙ closed_list value_field value (λ w. refl) x vs (every_value (x ∷ vs) h w) kind.Array s mark.CloseArray rest refl []
    ∙ ap (λ m. run m rest) (constructor_made x vs s))

-- ---- spreads and left sides

-- a spread behind whatever left side
abbrev pub SpreadAgain : Spread → Type 0
SpreadAgain sp = (k : Bracket) (d : List Field) (left : Option Expression) (s : Stack) (rest : Text) → lets 0 rest ≡ true →
    run (machine.Waits (pending.Open k d left stage.Start ∷ s)) (spread_text sp ++ rest)
    ≡ run (behind (pending.Open k d left (stage_in sp) ∷ s) (last_in sp)) rest

pub value_spread : (w : Value) → ValueAgain w → well_value w ≡ true → SpreadAgain (spread.One w)
value_spread w h q k d left s rest l = h k d left stage.Start s rest q l

pub one_spread : (x : Expression) → Again x → well x ≡ true → SpreadAgain (spread.One (v.One x))
one_spread x hx w = value_spread (v.One x) (on_one x hx) (well_value-One x ∙ w)

maybe_again : (o : Option Expression) → Maybe Again o → maybe_well (option_map grade o) ≡ true →
    (k : Bracket) (d : List Field) (left : Option Expression) (g : Stage) (s : Stack) (rest : Text) → lets 0 rest ≡ true →
    run (machine.Waits (pending.Open k d left g ∷ s)) (maybe (option_map expression o) ++ rest)
    ≡ run (behind (pending.Open k d left g ∷ s) (option_map v.One o)) rest
maybe_again None h w k d left g s rest l = refl
maybe_again (Some x) h w k d left g s rest l =
    ap (λ t. run (machine.Waits (pending.Open k d left g ∷ s)) (t ++ rest)) (sym (value-One x))
    ∙ on_one x h k d left g s rest (well_value-One x ∙ w) l

plain_again : (o : Option Expression) → plain (option_map v.One o) ≡ Some o
unfolding roll-Value denote.Hole.Carrier.roll out-Value denote.Hole.Carrier.out
plain_again None = refl
plain_again (Some x) = refl

colon_lower : (k : Bracket) (d : List Field) (left : Option Expression) (s : Stack) (o : Option Expression) (rest : Text) →
    run (behind (pending.Open k d left stage.Start ∷ s) (option_map v.One o)) (terminal.Punctuation mark.Colon ∷ rest)
    ≡ run (machine.Waits (pending.Open k d left (stage.Upper o) ∷ s)) rest
colon_lower k d left s o rest =
    run_behind (pending.Open k d left stage.Start ∷ s) (option_map v.One o) (terminal.Punctuation mark.Colon) rest
    ∙ ap (λ m. run m rest) (step_behind k d left stage.Start s mark.Colon (option_map v.One o) refl
    ∙ ap (λ q. with_stage k d left s (option_map stage.Upper q)) (plain_again o))

colon_upper : (k : Bracket) (d : List Field) (left : Option Expression) (a : Option Expression) (s : Stack) (o : Option Expression)
    (rest : Text) →
    run (behind (pending.Open k d left (stage.Upper a) ∷ s) (option_map v.One o)) (terminal.Punctuation mark.Colon ∷ rest)
    ≡ run (machine.Waits (pending.Open k d left (stage.Stride a o) ∷ s)) rest
colon_upper k d left a s o rest =
    run_behind (pending.Open k d left (stage.Upper a) ∷ s) (option_map v.One o) (terminal.Punctuation mark.Colon) rest
    ∙ ap (λ m. run m rest) (step_behind k d left (stage.Upper a) s mark.Colon (option_map v.One o) refl
    ∙ ap (λ q. with_stage k d left s (option_map (stage.Stride a) q)) (plain_again o))

triplet_text : (a b c : Option Expression) (rest : Text) →
    spread_text (spread.Triplet a b c) ++ rest
    ≡ maybe (option_map expression a) ++ terminal.Punctuation mark.Colon
    ∷ (maybe (option_map expression b) ++ (maybe_behind mark.Colon (option_map expression c) ++ rest))
triplet_text a b c rest =
    append_assoc (maybe (option_map expression a))
    (punctuated mark.Colon (maybe (option_map expression b) ++ maybe_behind mark.Colon (option_map expression c))) rest
    ∙ ap (λ t. maybe (option_map expression a) ++ terminal.Punctuation mark.Colon ∷ t)
    (append_assoc (maybe (option_map expression b)) (maybe_behind mark.Colon (option_map expression c)) rest)

pub triplet_spread : (a b c : Option Expression) → Maybe Again a → Maybe Again b → Maybe Again c →
    maybe_well (option_map grade a) ≡ true → maybe_well (option_map grade b) ≡ true → maybe_well (option_map grade c) ≡ true →
    SpreadAgain (spread.Triplet a b c)
triplet_spread a b None ha hb hc wa wb wc k d left s rest l =
    ap (run (machine.Waits (pending.Open k d left stage.Start ∷ s))) (triplet_text a b None rest)
    ∙ maybe_again a ha wa k d left stage.Start s (terminal.Punctuation mark.Colon ∷ (maybe (option_map expression b) ++ rest)) refl
    ∙ colon_lower k d left s a (maybe (option_map expression b) ++ rest)
    ∙ maybe_again b hb wb k d left (stage.Upper a) s rest l
triplet_spread a b (Some c) ha hb hc wa wb wc k d left s rest l =
    ap (run (machine.Waits (pending.Open k d left stage.Start ∷ s))) (triplet_text a b (Some c) rest)
    ∙ maybe_again a ha wa k d left stage.Start s
    (terminal.Punctuation mark.Colon
    ∷ (maybe (option_map expression b) ++ terminal.Punctuation mark.Colon ∷ (expression c ++ rest))) refl
    ∙ colon_lower k d left s a (maybe (option_map expression b) ++ terminal.Punctuation mark.Colon ∷ (expression c ++ rest))
    ∙ maybe_again b hb wb k d left (stage.Upper a) s (terminal.Punctuation mark.Colon ∷ (expression c ++ rest)) refl
    ∙ colon_upper k d left a s b (expression c ++ rest)
    ∙ maybe_again (Some c) hc wc k d left (stage.Stride a b) s rest l

left_step : (k : Bracket) (d : List Field) (s : Stack) (x : Expression) (rest : Text) →
    run (machine.Holds (pending.Open k d None stage.Start ∷ s) x) (terminal.Punctuation mark.Assign ∷ rest)
    ≡ run (machine.Waits (pending.Open k d (Some x) stage.Start ∷ s)) rest
unfolding roll-Value denote.Hole.Carrier.roll out-Value denote.Hole.Carrier.out
left_step k d s x rest = refl

pub field_reads : (left : Option Expression) (sp : Spread) → Maybe Again left → maybe_well (option_map grade left) ≡ true →
    SpreadAgain sp → FieldAgain (field left sp)
field_reads None sp h w hs k d s rest l = hs k d None s rest l
field_reads (Some x) sp h w hs k d s rest l =
    ap (run (fresh k d s))
    (append_assoc (expression x ++ punctuated mark.Assign []) (spread_text sp) rest
    ∙ append_assoc (expression x) (punctuated mark.Assign []) (spread_text sp ++ rest))
    ∙ h (pending.Open k d None stage.Start ∷ s) (terminal.Punctuation mark.Assign ∷ (spread_text sp ++ rest)) w (omega arith) refl
    ∙ left_step k d s x (spread_text sp ++ rest)
    ∙ hs k d (Some x) s rest l

-- ---- items

on_plain : (x : Expression) → Again x → ItemAgain (i.Plain x)
unfolding denote.Hole.Carrier.roll denote.Hole.Carrier.out roll-Item out-Item
on_plain x hx w = expression_again x hx (sym (well_item-Plain x) ∙ w)

on_whole : (n : Word) → ReferenceAgain (r.Whole n)
on_whole n s rest w = ap (λ t. run (machine.Waits s) (t ++ rest)) (reference-Whole n)

on_keyword : (n : Word) (x : Expression) → Again x → ItemAgain (i.Keyword n x)
unfolding denote.Hole.Carrier.roll denote.Hole.Carrier.out roll-Item out-Item
on_keyword n x hx w =
    field_reads (Some (e.Reference (r.Whole n))) (spread.One (v.One x)) (on_reference (r.Whole n) (on_whole n))
    (ap (λ (g : Grade). g.1) (grade-Reference (r.Whole n)) ∙ well_reference-Whole n)
    (one_spread x hx (sym (well_item-Keyword n x) ∙ w))

on_triplet : (a b c : Option Expression) → Maybe Again a → Maybe Again b → Maybe Again c → ItemAgain (i.Triplet a b c)
on_triplet a b c ha hb hc w =
    let ws = and_parts _ _ (sym (well_item-Triplet a b c) ∙ w) in
    let vs = and_parts _ _ ws.1 in
    subst FieldAgain (sym (ap item_field_at (seen-Triplet a b c)))
    (field_reads None (spread.Triplet a b c) tt refl (triplet_spread a b c ha hb hc ws.0 vs.0 vs.1))

-- ---- references

open_whole : (s : Stack) (n : Word) (rest : Text) →
    run (machine.Waits s) (terminal.Name n ∷ terminal.Punctuation mark.Open ∷ rest) ≡ run (fresh (kind.Behind n) [] s) rest
unfolding denote.Hole.Carrier.roll denote.Hole.Carrier.out roll-Expression out-Expression roll-Reference out-Reference
open_whole s n rest = refl

open_items : (s : Stack) (n : Word) (xs : List Item) (rest : Text) →
    run (machine.Holds s (e.Reference (r.Items n xs))) (terminal.Punctuation mark.Open ∷ rest)
    ≡ run (fresh (kind.Part n xs) [] s) rest
open_items s n xs rest =
    ap (λ y. run (opened s y) rest) (seen-Reference (r.Items n xs)) ∙ ap (λ y. run (opened_reference s y) rest) (seen-Items n xs)

pub within_long : (fs : List Field) (f g : Field) (d : List Field) → within (onto fs (f ∷ g ∷ d)) ≡ onto fs (f ∷ g ∷ d)
within_long [] f g d = refl
within_long (h ∷ fs) f g d = within_long fs h f (g ∷ d)

something : (x : Item) → is_nothing (item_field x) ≡ false
unfolding denote.Hole.Carrier.roll denote.Hole.Carrier.out roll-Item out-Item
something = item_cases (λ x. is_nothing (item_field x) ≡ false) (λ x. refl) (λ n x. refl)
    (λ a b c. ap (λ y. is_nothing (item_field_at y)) (seen-Triplet a b c))

within_items : (x : Item) (xs : List Item) → within (onto (map item_field (x ∷ xs)) []) ≡ onto (map item_field (x ∷ xs)) []
within_items x [] = ap (λ b. if b then [] else item_field x ∷ []) (something x)
within_items x (y ∷ ys) = within_long (map item_field ys) (item_field y) (item_field x) []

items_again : (x : Item) (xs : List Item) → items_of (onto (map item_field (x ∷ xs)) []) ≡ Some (x ∷ xs)
items_again x xs = ap (collected item_of []) (within_items x xs) ∙ collected_all item_of item_field item_back (x ∷ xs)

items_read : (n : Word) (xs : List Item) → Every ItemAgain xs → all (map well_item xs) ≡ true → (s : Stack) (rest : Text) →
    run (machine.Waits s) (terminal.Name n ∷ (in_brackets (commas (map item xs)) ++ rest))
    ≡ run (machine.Holds s (e.Reference (r.Items n xs))) rest
items_read n [] h w s rest = open_whole s n (terminal.Punctuation mark.Close ∷ rest)
items_read n (x ∷ xs) h w s rest =
    ap (λ t. run (machine.Waits s) (terminal.Name n ∷ terminal.Punctuation mark.Open ∷ t))
    (bracket_text (commas (map item (x ∷ xs))) rest mark.Close)
    ∙ open_whole s n (commas (map item (x ∷ xs)) ++ terminal.Punctuation mark.Close ∷ rest)
    ∙ closed_list item_field item item_text x xs (every_item (x ∷ xs) h w) (kind.Behind n) s mark.Close rest refl []
    ∙ ap (λ o. run (holds s (option_map (λ items. e.Reference (r.Items n items)) o)) rest) (items_again x xs)

on_items : (n : Word) (xs : List Item) → Every ItemAgain xs → ReferenceAgain (r.Items n xs)
on_items n xs h s rest w =
    ap (λ t. run (machine.Waits s) (t ++ rest)) (reference-Items n xs)
    ∙ items_read n xs h (sym (well_reference-Items n xs) ∙ w) s rest

range_text : (a b : Option Expression) (rest : Text) →
    ((maybe (option_map expression a) ++ punctuated mark.Colon (maybe (option_map expression b))) ++ punctuated mark.Close [])
    ++ rest
    ≡ spread_text (spread.Triplet a b None) ++ terminal.Punctuation mark.Close ∷ rest
range_text a b rest =
    bracket_text (maybe (option_map expression a) ++ punctuated mark.Colon (maybe (option_map expression b))) rest mark.Close
    ∙ ap (λ t. (maybe (option_map expression a) ++ punctuated mark.Colon t) ++ terminal.Punctuation mark.Close ∷ rest)
    (sym (append-nil (maybe (option_map expression b))))

on_substring : (n : Word) (xs : List Item) (a b : Option Expression) → Every ItemAgain xs → Maybe Again a → Maybe Again b →
    ReferenceAgain (r.Substring n xs (a, b))
on_substring n xs a b h ha hb s rest w =
    let ws = and_parts (all (map well_item xs)) (maybe_well (option_map grade a) && maybe_well (option_map grade b))
    (sym (well_reference-Substring n xs a b) ∙ w) in
    let vs = and_parts (maybe_well (option_map grade a)) (maybe_well (option_map grade b)) ws.1 in
    let range = maybe (option_map expression a) ++ punctuated mark.Colon (maybe (option_map expression b)) in
    ap (λ t. run (machine.Waits s) (t ++ rest)) (reference-Substring n xs a b)
    ∙ ap (λ t. run (machine.Waits s) (terminal.Name n ∷ t))
    (append_assoc (in_brackets (commas (map item xs))) (in_brackets range) rest)
    ∙ items_read n xs h ws.0 s (in_brackets range ++ rest)
    ∙ open_items s n xs ((range ++ punctuated mark.Close []) ++ rest)
    ∙ ap (run (fresh (kind.Part n xs) [] s)) (range_text a b rest)
    ∙ field_reads None (spread.Triplet a b None) tt refl (triplet_spread a b None ha hb tt vs.0 vs.1 refl) (kind.Part n xs) [] s
    (terminal.Punctuation mark.Close ∷ rest) refl
    ∙ closer_behind (kind.Part n xs) s mark.Close rest refl [] (field None (spread.Triplet a b None))

-- ---- implied DO

abbrev pub index_field : Word → Expression → Field
index_field n x = field (Some (e.Reference (r.Whole n))) (spread.One (v.One x))

pub index_again : (n : Word) (x : Expression) → Again x → well x ≡ true → FieldAgain (index_field n x)
index_again n x hx w =
    field_reads (Some (e.Reference (r.Whole n))) (spread.One (v.One x)) (on_reference (r.Whole n) (on_whole n))
    (ap (λ (g : Grade). g.1) (grade-Reference (r.Whole n)) ∙ well_reference-Whole n) (one_spread x hx w)

pub index_text : (n : Word) (x : Expression) → field_text (index_field n x) ≡ terminal.Name n
    ∷ punctuated mark.Assign (expression x)
index_text n x = ap (λ t. (t ++ punctuated mark.Assign []) ++ value (v.One x))
    (expression-Reference (r.Whole n) ∙ reference-Whole n)
    ∙ ap (λ t. terminal.Name n ∷ punctuated mark.Assign t) (value-One x)

values_again : (x : Value) (vs : List Value) → values_of (onto (map value_field (x ∷ vs)) []) ≡ Some (x ∷ vs)
values_again x vs = ap (option_and_then filled) (collected_all value_of value_field value_back (x ∷ vs))

looped_again : (x : Value) (vs : List Value) (n : Word) (a b : Expression) →
    implied (expression_field b ∷ index_field n a ∷ onto (map value_field (x ∷ vs)) []) ≡ Some (v.ImpliedDo (x ∷ vs) n a b None)
unfolding denote.Hole.Carrier.roll denote.Hole.Carrier.out roll-Expression out-Expression roll-Reference out-Reference roll-Value
    out-Value
looped_again x vs n a b = ap (option_and_then (λ values. Some (v.ImpliedDo values n a b None))) (values_again x vs)

stepped_again : (x : Value) (vs : List Value) (n : Word) (a b c : Expression) →
    implied (expression_field c ∷ expression_field b ∷ index_field n a ∷ onto (map value_field (x ∷ vs)) [])
    ≡ Some (v.ImpliedDo (x ∷ vs) n a b (Some c))
unfolding denote.Hole.Carrier.roll denote.Hole.Carrier.out roll-Expression out-Expression roll-Reference out-Reference roll-Value
    out-Value
stepped_again x vs n a b c = ap (option_and_then (λ values. Some (v.ImpliedDo values n a b (Some c)))) (values_again x vs)

did_behind : (s : Stack) (vs : List Value) (n : Word) (a b : Expression) (c : Option Expression) →
    machine.Did s (v.ImpliedDo vs n a b c) ≡ behind s (Some (v.ImpliedDo vs n a b c))
unfolding denote.Hole.Carrier.roll denote.Hole.Carrier.out roll-Value out-Value
did_behind s vs n a b None = refl
did_behind s vs n a b (Some c) = refl

-- the last value and the step of an implied DO, and its closing bracket
bounds_read : (x : Value) (vs : List Value) (n : Word) (a b : Expression) (c : Option Expression) → Again b → Maybe Again c →
    well b ≡ true → maybe_well (option_map grade c) ≡ true → (s : Stack) (rest : Text) →
    run (fresh kind.Plain (index_field n a ∷ onto (map value_field (x ∷ vs)) []) s)
    (expression b ++ (maybe_behind mark.Comma (option_map expression c) ++ terminal.Punctuation mark.Close ∷ rest))
    ≡ run (machine.Did s (v.ImpliedDo (x ∷ vs) n a b c)) rest
bounds_read x vs n a b None hb hc wb wc s rest =
    let done = index_field n a ∷ onto (map value_field (x ∷ vs)) [] in
    ap (λ t. run (fresh kind.Plain done s) (t ++ terminal.Punctuation mark.Close ∷ rest)) (sym (value-One b))
    ∙ expression_again b hb wb kind.Plain done s (terminal.Punctuation mark.Close ∷ rest) refl
    ∙ closer_behind kind.Plain s mark.Close rest refl done (expression_field b)
    ∙ ap (λ o. run (did s o) rest) (looped_again x vs n a b)
bounds_read x vs n a b (Some c) hb hc wb wc s rest =
    let done = index_field n a ∷ onto (map value_field (x ∷ vs)) [] in
    let behind_last = expression c ++ terminal.Punctuation mark.Close ∷ rest in
    ap (λ t. run (fresh kind.Plain done s) (t ++ terminal.Punctuation mark.Comma ∷ behind_last)) (sym (value-One b))
    ∙ expression_again b hb wb kind.Plain done s (terminal.Punctuation mark.Comma ∷ behind_last) refl
    ∙ end_behind kind.Plain done s (expression_field b) mark.Comma behind_last refl
    ∙ ap (λ t. run (fresh kind.Plain (expression_field b ∷ done) s) (t ++ terminal.Punctuation mark.Close ∷ rest))
    (sym (value-One c))
    ∙ expression_again c hc wc kind.Plain (expression_field b ∷ done) s (terminal.Punctuation mark.Close ∷ rest) refl
    ∙ closer_behind kind.Plain s mark.Close rest refl (expression_field b ∷ done) (expression_field c)
    ∙ ap (λ o. run (did s o) rest) (stepped_again x vs n a b c)

implied_text : (values : Text) (n : Word) (first last step rest : Text) →
    in_brackets
    (values ++ punctuated mark.Comma (terminal.Name n ∷ punctuated mark.Assign (first ++ punctuated mark.Comma (last ++ step))))
    ++ rest
    ≡ terminal.Punctuation mark.Open
    ∷ (values ++ terminal.Punctuation mark.Comma ∷ ((terminal.Name n ∷ punctuated mark.Assign first)
    ++ terminal.Punctuation mark.Comma ∷ (last ++ (step ++ terminal.Punctuation mark.Close ∷ rest))))
implied_text values n first last step rest = ap (λ t. terminal.Punctuation mark.Open ∷ t) (simp append_assoc)

implied_read : (x : Value) (vs : List Value) (n : Word) (a b : Expression) (c : Option Expression) → Every ValueAgain (x ∷ vs) →
    Again a → Again b → Maybe Again c →
    all (map well_value (x ∷ vs)) ≡ true → well a ≡ true → well b ≡ true → maybe_well (option_map grade c) ≡ true →
    (s : Stack) (rest : Text) →
    run (machine.Waits s) (value (v.ImpliedDo (x ∷ vs) n a b c) ++ rest) ≡ run (machine.Did s (v.ImpliedDo (x ∷ vs) n a b c)) rest
implied_read x vs n a b c h ha hb hc w wa wb wc s rest =
    let done = onto (map value_field (x ∷ vs)) [] in
    let behind_first = expression b ++ (maybe_behind mark.Comma (option_map expression c) ++ terminal.Punctuation mark.Close ∷ rest)
    in
    let behind_values = (terminal.Name n ∷ punctuated mark.Assign (expression a)) ++ terminal.Punctuation mark.Comma
    ∷ behind_first in
    ap (λ t. run (machine.Waits s) (t ++ rest)) (value-ImpliedDo (x ∷ vs) n a b c)
    ∙ ap (run (machine.Waits s))
    (implied_text (commas (map value (x ∷ vs))) n (expression a) (expression b)
    (maybe_behind mark.Comma (option_map expression c)) rest)
    ∙ comma_list value_field value (λ w. refl) x vs (every_value (x ∷ vs) h w) kind.Plain s behind_values []
    ∙ ap (λ t. run (fresh kind.Plain done s) (t ++ terminal.Punctuation mark.Comma ∷ behind_first)) (sym (index_text n a))
    ∙ index_again n a ha wa kind.Plain done s (terminal.Punctuation mark.Comma ∷ behind_first) refl
    ∙ end_behind kind.Plain done s (index_field n a) mark.Comma behind_first refl
    ∙ bounds_read x vs n a b c hb hc wb wc s rest

empty_values : (n : Word) (a b : Expression) (c : Option Expression) → well_value (v.ImpliedDo [] n a b c) ≡ true → ⊥
empty_values n a b c w = let q = sym (well_value-ImpliedDo [] n a b c) ∙ w in absurd (cc)

on_implied : (vs : List Value) (n : Word) (a b : Expression) (c : Option Expression) → Every ValueAgain vs → Again a → Again b →
    Maybe Again c → ValueAgain (v.ImpliedDo vs n a b c)
on_implied [] n a b c h ha hb hc k d left g s rest w l = absurd (empty_values n a b c w)
on_implied (x ∷ vs) n a b c h ha hb hc k d left g s rest w l =
    let ws = and_parts (all (map well_value (x ∷ vs))) (well a && (well b && maybe_well (option_map grade c)))
    (sym (well_value-ImpliedDo (x ∷ vs) n a b c) ∙ w) in
    let us = and_parts (well a) (well b && maybe_well (option_map grade c)) ws.1 in
    let ts = and_parts (well b) (maybe_well (option_map grade c)) us.1 in
    implied_read x vs n a b c h ha hb hc ws.0 us.0 ts.0 ts.1 (pending.Open k d left g ∷ s) rest
    ∙ ap (λ m. run m rest) (did_behind (pending.Open k d left g ∷ s) (x ∷ vs) n a b c)

by_node : ByNode Again ItemAgain ReferenceAgain ValueAgain
by_node = record {
  on_literal = on_literal;
  on_reference = on_reference;
  on_bracketed = on_bracketed;
  on_constructor = on_constructor;
  on_signed = on_signed;
  on_binary = on_binary;
  on_plain = on_plain;
  on_keyword = on_keyword;
  on_triplet = on_triplet;
  on_whole = on_whole;
  on_items = on_items;
  on_substring = on_substring;
  on_one = on_one;
  on_implied = on_implied;
}

pub again : (x : Expression) → Again x
again = each_expression Again ItemAgain ReferenceAgain ValueAgain by_node

pub reference_again : (x : Reference) → ReferenceAgain x
reference_again = each_reference Again ItemAgain ReferenceAgain ValueAgain by_node

pub value_again : (x : Value) → ValueAgain x
value_again = each_value Again ItemAgain ReferenceAgain ValueAgain by_node

pub item_again : (x : Item) → ItemAgain x
item_again = each_item Again ItemAgain ReferenceAgain ValueAgain by_node
