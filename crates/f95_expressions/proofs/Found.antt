-- What `bracket` and `row` find: exactly the well-formed fields that spell what was given.
use Rattle.std.proofs.Common.{◌≡◌, true, ◌&&◌, List, [], ◌∷◌, ◌++◌, Option, Some, None, sym, ◌∙◌, ap, refl}
use Rattle.std.proofs.Common.{append_assoc, append-nil}
use Rattle.std.specs.Prelude.{option_map, option_and_then}
use Rattle.std.proofs.lemmas.Bool.{and_parts}
use Rattle.f95_tree.specs.declared.expression.Expression.{Expression}
use Rattle.f95_tree.specs.declared.terminal.Terminal.{Terminal}
use Rattle.f95_tree.specs.declared.terminal.Terminal.TheVariants as terminal
use Rattle.f95_tree.specs.declared.terminal.Punctuation.{Punctuation}
use Rattle.f95_tree.specs.declared.terminal.Punctuation.TheVariants as mark
use Rattle.f95_tree.specs.Spelling.{Text, punctuated}
use Rattle.f95_tree.specs.Grades.{maybe_well, grade}
use Rattle.f95_tree.proofs.Induction.{Maybe}
use Rattle.f95_expressions.specs.declared.pending.Field.{Field}
use Rattle.f95_expressions.specs.declared.pending.Spread.{Spread}
use Rattle.f95_expressions.specs.declared.pending.Spread.TheVariants as spread
use Rattle.f95_expressions.specs.declared.pending.Bracket.{Bracket}
use Rattle.f95_expressions.specs.declared.pending.Bracket.TheVariants as kind
use Rattle.f95_expressions.specs.declared.pending.Machine.TheVariants as machine
use Rattle.f95_expressions.specs.Fields.{field_text, done_text, fields_text, well_spread, well_field, well_fields}
use Rattle.f95_expressions.specs.Machine.{Stack, Found, fresh, run, closed_found, row_found, bracket, row}
use Rattle.f95_expressions.proofs.Fields.{end_behind, row_behind}
use Rattle.f95_expressions.proofs.Again.{Again, SpreadAgain, FieldAgain, again, value_again, value_spread, triplet_spread}
use Rattle.f95_expressions.proofs.Again.{field_reads, closer_behind}
use Rattle.f95_expressions.proofs.Read.{chained}
use Rattle.f95_expressions.proofs.Sound.{run_sound}

maybe_reads : (o : Option Expression) → Maybe Again o
maybe_reads None = tt
maybe_reads (Some x) = again x

spread_reads : (sp : Spread) → well_spread sp ≡ true → SpreadAgain sp
spread_reads spread.Empty w = λ k d left s rest l. refl
spread_reads (spread.One v) w = value_spread v (value_again v) w
spread_reads (spread.Triplet a b c) w =
    let wa = and_parts (maybe_well (option_map grade a)) (maybe_well (option_map grade b) && maybe_well (option_map grade c)) w in
    let wb = and_parts (maybe_well (option_map grade b)) (maybe_well (option_map grade c)) wa.1 in
    triplet_spread a b c (maybe_reads a) (maybe_reads b) (maybe_reads c) wa.0 wb.0 wb.1

-- each well-formed field is read again
pub each_field : (f : Field) → well_field f ≡ true → FieldAgain f
each_field f w =
    let ws = and_parts (maybe_well (option_map grade f.left)) (well_spread f.spread) w in
    field_reads f.left f.spread (maybe_reads f.left) ws.0 (spread_reads f.spread ws.1)

done_again : (k : Bracket) (s : Stack) (d : List Field) (rest : Text) → well_fields d ≡ true →
    run (fresh k [] s) (done_text d ++ rest) ≡ run (fresh k d s) rest
done_again k s [] rest w = refl
done_again k s (f ∷ d) rest w =
    let ws = and_parts (well_fields d) (well_field f) w in
    ap (run (fresh k [] s)) (append_assoc (done_text d) (field_text f ++ punctuated mark.Comma []) rest)
    ∙ done_again k s d ((field_text f ++ punctuated mark.Comma []) ++ rest) ws.0
    ∙ ap (run (fresh k d s)) (append_assoc (field_text f) (punctuated mark.Comma []) rest)
    ∙ each_field f ws.1 k d s (punctuated mark.Comma rest) refl
    ∙ end_behind k d s f mark.Comma rest refl

closed_rest : (fs : List Field) (rest : Text) → run (machine.Closed fs) rest ≡ Some (fs, Some rest)
closed_rest fs [] = refl
closed_rest fs (t ∷ ts) = refl

pub bracket_again : (f : Field) (d : List Field) (rest : Text) → well_fields (f ∷ d) ≡ true →
    bracket (fields_text (f ∷ d) ++ punctuated mark.Close rest) ≡ Some (f ∷ d, rest)
bracket_again f d rest w =
    let ws = and_parts (well_fields d) (well_field f) w in
    ap (option_and_then closed_found) (
    ap (run (fresh kind.Alone [] [])) (append_assoc (done_text d) (field_text f) (punctuated mark.Close rest))
    ∙ done_again kind.Alone [] d (field_text f ++ punctuated mark.Close rest) ws.0
    ∙ each_field f ws.1 kind.Alone d [] (punctuated mark.Close rest) refl
    ∙ closer_behind kind.Alone [] mark.Close rest refl d f
    ∙ closed_rest (f ∷ d) rest)

pub row_again : (f : Field) (d : List Field) → well_fields (f ∷ d) ≡ true → row (fields_text (f ∷ d)) ≡ Some (f ∷ d)
row_again f d w =
    let ws = and_parts (well_fields d) (well_field f) w in
    ap (option_and_then row_found) (
    done_again kind.Row [] d (field_text f) ws.0
    ∙ ap (run (fresh kind.Row d [])) (sym (append-nil (field_text f)))
    ∙ each_field f ws.1 kind.Row d [] [] refl
    ∙ row_behind d f)

closed_is : (f : Found) (fs : List Field) (rest : Text) → closed_found f ≡ Some (fs, rest) → f ≡ (fs, Some rest)
closed_is (gs, None) fs rest h = absurd (cc)
closed_is (gs, Some more) fs rest h = let q : (gs, more) ≡ (fs, rest) = cc in ap (λ (p : List Field × Text). (p.0, Some p.1)) q

row_is : (f : Found) (fs : List Field) → row_found f ≡ Some fs → f ≡ (fs, None)
row_is (gs, None) fs h = let q : gs ≡ fs = cc in ap (λ (gs : List Field). (gs, None)) q
row_is (gs, Some more) fs h = absurd (cc)

pub bracket_sound : (ts : Text) (fs : List Field) (rest : Text) → bracket ts ≡ Some (fs, rest) →
    (fields_text fs ++ punctuated mark.Close rest ≡ ts) × (well_fields fs ≡ true)
bracket_sound ts fs rest h = chained closed_found (run (fresh kind.Alone [] []) ts) (fs, rest) h (λ f hf is.
    run_sound ts (fresh kind.Alone [] []) [] (fs, Some rest)
    (refl, (record { bracket_well = refl; done_well = refl; left_well = refl; stage_well = refl }, tt))
    (hf ∙ ap Some (closed_is f fs rest is)))

pub row_sound : (ts : Text) (fs : List Field) → row ts ≡ Some fs → (fields_text fs ≡ ts) × (well_fields fs ≡ true)
row_sound ts fs h = chained row_found (run (fresh kind.Row [] []) ts) fs h (λ f hf is.
    run_sound ts (fresh kind.Row [] []) [] (fs, None)
    (refl, (record { bracket_well = refl; done_well = refl; left_well = refl; stage_well = refl }, tt))
    (hf ∙ ap Some (row_is f fs is)))
