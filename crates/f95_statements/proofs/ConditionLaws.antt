-- Brackets and rows of statements: what is read is spelled as the terminals and well formed, and what is spelled so is read.
use Rattle.std.proofs.Common.{◌≡◌, Bool, true, false, ◌&&◌, List, [], ◌∷◌, ◌++◌, map, Option, Some, sym, ◌∙◌, ap, subst, refl}
use Rattle.std.proofs.Common.{append_assoc, append-nil}
use Rattle.std.specs.Prelude.{option_map, option_and_then, if◌then◌else◌}
use Rattle.std.proofs.lemmas.Bool.{and_parts}
use Rattle.a95_base.proofs.Tests.{by_test}
use Rattle.f95_tree.specs.declared.expression.Expression.{Expression}
use Rattle.f95_tree.specs.declared.terminal.Punctuation.TheVariants as mark
use Rattle.f95_tree.specs.declared.action.Assignment.{Assignment}
use Rattle.f95_tree.specs.declared.action.Header.{Header}
use Rattle.f95_tree.specs.Spelling.{Text, punctuated, behind_commas, commas, in_brackets, expression}
use Rattle.f95_tree.specs.Grades.{all, some, well}
use Rattle.f95_tree.specs.Forms.{star, any_unit, assignment_text, header_text}
use Rattle.f95_tree.specs.WellFormed.{well_assignment, well_header}
use Rattle.f95_expressions.specs.declared.pending.Field.{Field}
use Rattle.f95_expressions.specs.Fields.{fields_text, well_fields}
use Rattle.f95_expressions.specs.Machine.{collected, within, expression_of, bracket, row}
use Rattle.f95_expressions.proofs.Fields.{expression_field}
use Rattle.f95_expressions.proofs.Read.{mapped, chained, expression_sound}
use Rattle.f95_expressions.proofs.Found.{bracket_again, bracket_sound, row_again, row_sound}
use Rattle.f95_parts.specs.Views.{is_nil, behind, behind_star, at_end}
use Rattle.f95_parts.specs.Parts.{header_of, assignment_of}
use Rattle.f95_parts.proofs.ViewLaws.{nil, behind_sound, star_sound, end_sound}
use Rattle.f95_parts.proofs.PartLaws.{expression_again, expression_text, expression_well, assignment_field, assignment_sound}
use Rattle.f95_parts.proofs.PartLaws.{assignment_again, assignment_spelled, assignment_well}
use Rattle.f95_parts.proofs.HeaderLaws.{inside_text, header_fields, header_sound, header_again}
use Rattle.f95_parts.proofs.ListLaws.{Is, Parts, bracket_fields, row_list_sound, row_list_again, row_list_some, bracket_list_sound}
use Rattle.f95_parts.proofs.ListLaws.{bracket_list_again, within_list_sound, within_list_again, collected_fields, collected_inside}
use Rattle.f95_statements.specs.Actions.{whole_bracket, only, condition_in, conditioned, header_in, headed, listed, listed_behind}
use Rattle.f95_statements.specs.Actions.{assigned, behind_unit}

-- ---- single fields

pub only_sound : (fs : List Field) (f : Field) → only fs ≡ Some f → fs ≡ f ∷ []
only_sound [] f h = absurd (cc)
only_sound (g ∷ []) f h = let q : g ≡ f = cc in ap (λ f. f ∷ []) q
only_sound (g ∷ h' ∷ fs) f h = absurd (cc)

pub assigned_sound : (ts : Text) (a : Assignment) → assigned ts ≡ Some a → Is assignment_text well_assignment ts a
assigned_sound ts a h = chained (λ fs. option_and_then assignment_of (only fs)) (row ts) a h (λ fs hfs h2.
    chained assignment_of (only fs) a h2 (λ f hf ha.
    let found = row_sound ts fs hfs in
    let one = only_sound fs f hf ∙ ap (λ f. f ∷ []) (assignment_sound f a ha) in
    record {
      spelled = sym (assignment_spelled a) ∙ sym (ap fields_text one) ∙ found.0;
      kept = sym (assignment_well a) ∙ sym (ap well_fields one) ∙ found.1;
    }))

pub assigned_again : (a : Assignment) → well_assignment a ≡ true → assigned (assignment_text a) ≡ Some a
assigned_again a w =
    ap assigned (sym (assignment_spelled a))
    ∙ ap (option_and_then (λ fs. option_and_then assignment_of (only fs)))
    (row_again (assignment_field a) [] (assignment_well a ∙ w))
    ∙ assignment_again a

-- ---- brackets and what stands behind them

-- a text in brackets before another one
pub brackets_before : (inside rest : Text) →
    in_brackets inside ++ rest ≡ punctuated mark.Open (inside ++ punctuated mark.Close rest)
brackets_before inside rest = ap (punctuated mark.Open) (append_assoc inside (punctuated mark.Close []) rest)

-- what stands in brackets, spelled so and well formed, and what stands behind them
pub record Behind {A : Type 0} (spell : A → Text) (w : A → Bool) (ts : Text) (a : A) (rest : Text) : Type 0 where
  pub spelled : spell a ++ rest ≡ ts
  pub kept : w a ≡ true

-- an expression in brackets
abbrev pub condition_text : Expression → Text
condition_text x = in_brackets (expression x)

condition_here : (ts inside : Text) (fs : List Field) (rest : Text) (x : Expression) → ts ≡ punctuated mark.Open inside →
    bracket inside ≡ Some (fs, rest) →
    option_and_then expression_of (only fs) ≡ Some x → Behind condition_text well ts x rest
condition_here ts inside fs rest x is found h = chained expression_of (only fs) x h (λ f hf hx.
    let s = bracket_sound inside fs rest found in
    let one = only_sound fs f hf ∙ ap (λ f. f ∷ []) (expression_sound f x hx) in
    record {
      spelled = brackets_before (expression x) rest
          ∙ ap (λ t. punctuated mark.Open (t ++ punctuated mark.Close rest)) (sym (expression_text x) ∙ sym (ap fields_text one))
          ∙ ap (punctuated mark.Open) s.0 ∙ sym is;
      kept = sym (expression_well x) ∙ sym (ap well_fields one) ∙ s.1;
    })

pub conditioned_sound : (ts : Text) (p : Expression × Text) → conditioned ts ≡ Some p → Behind condition_text well ts p.0 p.1
conditioned_sound ts p h = chained (λ inside. option_and_then condition_in (bracket inside)) (behind mark.Open ts) p h
    (λ inside hi h2.
    chained condition_in (bracket inside) p h2 (λ found hf h3.
    mapped (λ x. (x, found.1)) (option_and_then expression_of (only found.0)) p h3 (λ x hx is.
    subst (λ (p : Expression × Text). Behind condition_text well ts p.0 p.1) is
    (condition_here ts inside found.0 found.1 x (behind_sound mark.Open ts inside hi) hf hx))))

pub conditioned_again : (x : Expression) (rest : Text) → well x ≡ true →
    conditioned (in_brackets (expression x) ++ rest) ≡ Some (x, rest)
conditioned_again x rest w =
    ap conditioned (brackets_before (expression x) rest
    ∙ ap (λ t. punctuated mark.Open (t ++ punctuated mark.Close rest)) (sym (expression_text x)))
    ∙ ap (option_and_then condition_in) (bracket_again (expression_field x) [] rest (expression_well x ∙ w))
    ∙ ap (option_map (λ x. (x, rest))) (expression_again x)

-- the same where nothing stands behind them
pub condition_again : (x : Expression) → well x ≡ true → conditioned (in_brackets (expression x)) ≡ Some (x, [])
condition_again x w = ap conditioned (sym (append-nil (in_brackets (expression x)))) ∙ conditioned_again x [] w

header_here : (ts inside : Text) (fs : List Field) (rest : Text) (x : Header) → ts ≡ punctuated mark.Open inside →
    bracket inside ≡ Some (fs, rest) →
    header_of fs ≡ Some x → Behind header_text well_header ts x rest
header_here ts inside fs rest x is found h =
    let s = bracket_sound inside fs rest found in
    let read = header_sound fs x h s.1 in
    record {
      spelled = brackets_before (inside_text x) rest ∙ ap (λ t. punctuated mark.Open (t ++ punctuated mark.Close rest)) read.0
          ∙ ap (punctuated mark.Open) s.0 ∙ sym is;
      kept = read.1;
    }

pub headed_sound : (ts : Text) (p : Header × Text) → headed ts ≡ Some p → Behind header_text well_header ts p.0 p.1
headed_sound ts p h = chained (λ inside. option_and_then header_in (bracket inside)) (behind mark.Open ts) p h (λ inside hi h2.
    chained header_in (bracket inside) p h2 (λ found hf h3.
    mapped (λ x. (x, found.1)) (header_of found.0) p h3 (λ x hx is.
    subst (λ (p : Header × Text). Behind header_text well_header ts p.0 p.1) is
    (header_here ts inside found.0 found.1 x (behind_sound mark.Open ts inside hi) hf hx))))

pub headed_again : (x : Header) (rest : Text) → well_header x ≡ true → headed (header_text x ++ rest) ≡ Some (x, rest)
headed_again x rest w =
    let a = header_again x w in
    ap headed (brackets_before (inside_text x) rest
    ∙ ap (λ t. punctuated mark.Open (t ++ punctuated mark.Close rest)) (sym a.spelled))
    ∙ ap (option_and_then header_in) (bracket_fields (header_fields x) rest a.filled a.kept)
    ∙ ap (option_map (λ x. (x, rest))) a.again

pub header_alone_again : (x : Header) → well_header x ≡ true → headed (header_text x) ≡ Some (x, [])
header_alone_again x w = ap headed (sym (append-nil (header_text x))) ∙ headed_again x [] w

-- ---- brackets with nothing behind them

pub record Whole (ts : Text) (fs : List Field) : Type 0 where
  pub inside : Text
  pub opens : ts ≡ punctuated mark.Open inside
  pub closes : bracket inside ≡ Some (fs, [])

at_end_pair : {A : Type 0} (p : A × Text) (a : A) → at_end p ≡ Some a → p ≡ (a, [])
at_end_pair p a h = let e = end_sound p a h in ap (λ x. (x, p.1)) e.0 ∙ ap (λ t. (a, t)) e.1

pub whole_bracket_sound : (ts : Text) (fs : List Field) → whole_bracket ts ≡ Some fs → Whole ts fs
whole_bracket_sound ts fs h = chained (λ inside. option_and_then at_end (bracket inside)) (behind mark.Open ts) fs h
    (λ inside hi h2.
    chained at_end (bracket inside) fs h2 (λ found hf he. record {
      inside = inside;
      opens = behind_sound mark.Open ts inside hi;
      closes = hf ∙ ap Some (at_end_pair found fs he);
    }))

pub whole_bracket_again : (t : Text) (fs : List Field) → bracket (t ++ punctuated mark.Close []) ≡ Some (fs, []) →
    whole_bracket (in_brackets t) ≡ Some fs
whole_bracket_again t fs h = ap (option_and_then at_end) h

-- ---- lists

module _ {A : Type 0} {make : Field → Option A} {g : A → Field} {spell : A → Text} {w : A → Bool}
    (parts : Parts make g spell w) where
  -- in brackets, at least one
  pub whole_list_sound : (ts : Text) (xs : List A) → option_and_then (collected make []) (whole_bracket ts) ≡ Some xs →
      Is (λ xs. in_brackets (commas (map spell xs))) (λ xs. some xs && all (map w xs)) ts xs
  whole_list_sound ts xs h = chained (collected make []) (whole_bracket ts) xs h (λ fs hf hx.
      let b = whole_bracket_sound ts fs hf in
      let s = bracket_list_sound parts b.inside [] fs xs b.closes hx in record {
        spelled = ap (punctuated mark.Open) s.0 ∙ sym b.opens;
        kept = s.1;
      })

  pub whole_list_again : (xs : List A) → (some xs && all (map w xs)) ≡ true →
      option_and_then (collected make []) (whole_bracket (in_brackets (commas (map spell xs)))) ≡ Some xs
  whole_list_again [] h = absurd (cc)
  whole_list_again (x ∷ xs) h =
      ap (option_and_then (collected make []))
      (whole_bracket_again (commas (map spell (x ∷ xs))) _ (bracket_list_again parts x xs [] h))
      ∙ collected_fields parts (x ∷ xs) h

  -- in brackets, or none
  pub within_sound : (ts : Text) (xs : List A) →
      option_and_then (λ fs. collected make [] (within fs)) (whole_bracket ts) ≡ Some xs →
      Is (λ xs. in_brackets (commas (map spell xs))) (λ xs. all (map w xs)) ts xs
  within_sound ts xs h = chained (λ fs. collected make [] (within fs)) (whole_bracket ts) xs h (λ fs hf hx.
      let b = whole_bracket_sound ts fs hf in
      let s = within_list_sound parts b.inside [] fs xs b.closes hx in record {
        spelled = ap (punctuated mark.Open) s.0 ∙ sym b.opens;
        kept = s.1;
      })

  pub within_again : (xs : List A) → all (map w xs) ≡ true →
      option_and_then (λ fs. collected make [] (within fs)) (whole_bracket (in_brackets (commas (map spell xs)))) ≡ Some xs
  within_again xs h =
      ap (option_and_then (λ fs. collected make [] (within fs)))
      (whole_bracket_again (commas (map spell xs)) _ (within_list_again parts xs [] h))
      ∙ collected_inside parts xs h

  -- in a row, or none
  pub listed_sound : (ts : Text) (xs : List A) → listed make ts ≡ Some xs →
      Is (λ xs. commas (map spell xs)) (λ xs. all (map w xs)) ts xs
  listed_sound ts xs h = by_test
      (λ b. (if b then Some [] else option_and_then (collected make []) (row ts)) ≡ Some xs →
      Is (λ xs. commas (map spell xs)) (λ xs. all (map w xs)) ts xs)
      (is_nil ts)
      (λ e h. let is : [] ≡ xs = cc in record {
        spelled = sym (ap (λ xs. commas (map spell xs)) is) ∙ sym (nil ts e);
        kept = sym (ap (λ xs. all (map w xs)) is);
      })
      (λ _ h. let s = row_list_sound parts ts xs h in record {
        spelled = s.spelled;
        kept = (and_parts (some xs) (all (map w xs)) s.kept).1;
      })
      h

  not_nil : (ts : Text) → (ts ≡ [] → ⊥) → is_nil ts ≡ false
  not_nil [] h = absurd (h refl)
  not_nil (t ∷ ts) h = refl

  pub listed_again : (xs : List A) → all (map w xs) ≡ true → listed make (commas (map spell xs)) ≡ Some xs
  listed_again [] h = refl
  listed_again (x ∷ xs) h =
      let ts = commas (map spell (x ∷ xs)) in
      ap (λ b. if b then Some [] else option_and_then (collected make []) (row ts)) (not_nil ts (row_list_some parts x xs h))
      ∙ row_list_again parts x xs h

  behind_first : (xs : List A) → some xs ≡ true → behind_commas (map spell xs) ≡ punctuated mark.Comma (commas (map spell xs))
  behind_first [] h = absurd (cc)
  behind_first (x ∷ xs) h = refl

  -- each behind a comma
  pub listed_behind_sound : (ts : Text) (xs : List A) → listed_behind make ts ≡ Some xs →
      Is (λ xs. behind_commas (map spell xs)) (λ xs. all (map w xs)) ts xs
  listed_behind_sound ts xs h = by_test
      (λ b. (if b then Some [] else option_and_then
      (λ rest. option_and_then (collected make []) (row rest)) (behind mark.Comma ts)) ≡ Some xs
      → Is (λ xs. behind_commas (map spell xs)) (λ xs. all (map w xs)) ts xs)
      (is_nil ts)
      (λ e h. let is : [] ≡ xs = cc in record {
        spelled = sym (ap (λ xs. behind_commas (map spell xs)) is) ∙ sym (nil ts e);
        kept = sym (ap (λ xs. all (map w xs)) is);
      })
      (λ _ h. chained (λ rest. option_and_then (collected make []) (row rest)) (behind mark.Comma ts) xs h (λ rest hr hx.
      let s = row_list_sound parts rest xs hx in
      let ws = and_parts (some xs) (all (map w xs)) s.kept in record {
        spelled = behind_first xs ws.0 ∙ ap (punctuated mark.Comma) s.spelled ∙ sym (behind_sound mark.Comma ts rest hr);
        kept = ws.1;
      }))
      h

  pub listed_behind_again : (xs : List A) → all (map w xs) ≡ true → listed_behind make (behind_commas (map spell xs)) ≡ Some xs
  listed_behind_again [] h = refl
  listed_behind_again (x ∷ xs) h = row_list_again parts x xs h

-- ---- ( * , * )

unit_is : (ts a b c d rest : Text) → behind mark.Open ts ≡ Some a → behind_star a ≡ Some b → behind mark.Comma b ≡ Some c →
    behind_star c ≡ Some d → behind mark.Close d ≡ Some rest → ts ≡ any_unit ++ rest
unit_is ts a b c d rest ha hb hc hd h =
    behind_sound mark.Open ts a ha
    ∙ ap (λ t. punctuated mark.Open t) (star_sound a b hb)
    ∙ ap (λ t. punctuated mark.Open (star ∷ t)) (behind_sound mark.Comma b c hc)
    ∙ ap (λ t. punctuated mark.Open (star ∷ punctuated mark.Comma t)) (star_sound c d hd)
    ∙ ap (λ t. punctuated mark.Open (star ∷ punctuated mark.Comma (star ∷ t))) (behind_sound mark.Close d rest h)

pub unit_sound : (ts rest : Text) → behind_unit ts ≡ Some rest → any_unit ++ rest ≡ ts
unit_sound ts rest h =
    chained (λ a. option_and_then
    (λ b. option_and_then (λ c. option_and_then (behind mark.Close) (behind_star c)) (behind mark.Comma b)) (behind_star a))
    (behind mark.Open ts) rest h (λ a ha h.
    chained (λ b. option_and_then (λ c. option_and_then (behind mark.Close) (behind_star c)) (behind mark.Comma b))
    (behind_star a) rest h (λ b hb h.
    chained (λ c. option_and_then (behind mark.Close) (behind_star c)) (behind mark.Comma b) rest h (λ c hc h.
    chained (behind mark.Close) (behind_star c) rest h (λ d hd h.
    sym (unit_is ts a b c d rest ha hb hc hd h)))))

pub unit_again : (rest : Text) → behind_unit (any_unit ++ rest) ≡ Some rest
unit_again rest = refl
