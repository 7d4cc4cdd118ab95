-- Lists of what fields are taken for: what is read in a bracket or in a row is spelled as the terminals and well formed, and
-- what is spelled so is read.
use Rattle.std.proofs.Common.{◌≡◌, Bool, true, false, ◌&&◌, List, [], ◌∷◌, ◌++◌, map, Option, Some, None, sym, ◌∙◌, ap}
use Rattle.std.proofs.Common.{refl, append-nil}
use Rattle.std.specs.Prelude.{option_and_then, if◌then◌else◌}
use Rattle.std.proofs.lemmas.Bool.{and_parts, and_from}
use Rattle.a95_base.proofs.Tests.{by_test}
use Rattle.f95_expressions.proofs.Made.{within_text, within_well}
use Rattle.f95_expressions.proofs.Again.{within_long}
use Rattle.f95_tree.specs.declared.expression.Expression.{Expression}
use Rattle.f95_tree.specs.declared.terminal.Punctuation.TheVariants as mark
use Rattle.f95_tree.specs.Spelling.{Text, punctuated, commas}
use Rattle.f95_tree.specs.Grades.{all, some}
use Rattle.f95_expressions.specs.declared.pending.Field.{Field}
use Rattle.f95_expressions.specs.declared.pending.Spread.{Spread}
use Rattle.f95_expressions.specs.declared.pending.Spread.TheVariants as spread
use Rattle.f95_expressions.specs.Fields.{field_text, fields_text, well_field, well_fields}
use Rattle.f95_expressions.specs.Machine.{field, collected, within, is_nothing, is_nothing_from, bracket, row}
use Rattle.f95_expressions.proofs.Lists.{onto}
use Rattle.f95_expressions.proofs.Read.{chained, all_collected, list_text}
use Rattle.f95_expressions.proofs.Found.{bracket_again, bracket_sound, row_again, row_sound}

-- what is read: spelled so, and well formed
pub record Is {A : Type 0} (spell : A → Text) (w : A → Bool) (ts : Text) (a : A) : Type 0 where
  pub spelled : spell a ≡ ts
  pub kept : w a ≡ true

-- a field is taken for `a` exactly where it is `g a`, which is spelled as `a` is, and well formed where `a` is
pub record Parts {A : Type 0} (make : Field → Option A) (g : A → Field) (spell : A → Text) (w : A → Bool) : Type 0 where
  pub sound : (f : Field) (a : A) → make f ≡ Some a → f ≡ g a
  pub meets : (f : Field) (a : A) → make f ≡ Some a → well_field f ≡ true → w a ≡ true
  pub again : (a : A) → w a ≡ true → make (g a) ≡ Some a
  pub spelled : (a : A) → field_text (g a) ≡ spell a
  pub kept : (a : A) → w a ≡ true → well_field (g a) ≡ true
  pub never : make (field None spread.Empty) ≡ None

-- where the field of `a` is well formed as `a` is
pub parts_of : {A : Type 0} (make : Field → Option A) (g : A → Field) (spell : A → Text) (w : A → Bool) →
    ((f : Field) (a : A) → make f ≡ Some a → f ≡ g a) → ((a : A) → make (g a) ≡ Some a) → ((a : A) → field_text (g a) ≡ spell a) →
    ((a : A) → well_field (g a) ≡ w a) → make (field None spread.Empty) ≡ None → Parts make g spell w
parts_of make g spell w sound again spelled kept never = record {
  sound = sound;
  meets = λ f a h q. sym (kept a) ∙ sym (ap well_field (sound f a h)) ∙ q;
  again = λ a q. again a;
  spelled = spelled;
  kept = λ a q. kept a ∙ q;
  never = never;
}

-- ---- fields in brackets and in rows

bracket_nothing : (rest : Text) → bracket (punctuated mark.Close rest) ≡ Some (field None spread.Empty ∷ [], rest)
bracket_nothing rest = bracket_again (field None spread.Empty) [] rest refl

abbrev found_some : Option (List Field × Text) → Bool
found_some None = false
found_some (Some p) = some p.0

-- at least one field stands in a bracket
pub bracket_some : (ts : Text) (fs : List Field) (rest : Text) → bracket ts ≡ Some (fs, rest) → some fs ≡ true
bracket_some ts [] rest h = sym (ap found_some (sym (bracket_nothing rest) ∙ ap bracket (bracket_sound ts [] rest h).0 ∙ h))
bracket_some ts (f ∷ fs) rest h = refl

-- and in a row
pub row_some : (ts : Text) (fs : List Field) → row ts ≡ Some fs → some fs ≡ true
row_some ts [] h =
    let s = row_sound ts [] h in
    let q = sym (row_again (field None spread.Empty) [] refl) ∙ ap row s.0 ∙ h in absurd (cc)
row_some ts (f ∷ fs) h = refl

pub bracket_fields : (fs : List Field) (rest : Text) → some fs ≡ true → well_fields fs ≡ true →
    bracket (fields_text fs ++ punctuated mark.Close rest) ≡ Some (fs, rest)
bracket_fields [] rest h w = absurd (cc)
bracket_fields (f ∷ fs) rest h w = bracket_again f fs rest w

pub row_fields : (fs : List Field) → some fs ≡ true → well_fields fs ≡ true → row (fields_text fs) ≡ Some fs
row_fields [] h w = absurd (cc)
row_fields (f ∷ fs) h w = row_again f fs w

nothing_is : (left : Option Expression) (s : Spread) → is_nothing_from left s ≡ true → field left s ≡ field None spread.Empty
nothing_is None spread.Empty h = refl
nothing_is None (spread.One w) h = absurd (cc)
nothing_is None (spread.Triplet a b c) h = absurd (cc)
nothing_is (Some x) s h = absurd (cc)

some_onto : (fs d : List Field) → some d ≡ true → some (onto fs d) ≡ true
some_onto [] d h = h
some_onto (f ∷ fs) d h = some_onto fs (f ∷ d) refl

-- ---- lists

module _ {A : Type 0} {make : Field → Option A} {g : A → Field} {spell : A → Text} {w : A → Bool}
    (parts : Parts make g spell w) where
  abbrev pub spell_all : List A → Text
  spell_all xs = commas (map spell xs)

  abbrev pub well_all : List A → Bool
  well_all xs = all (map w xs)

  -- the fields of a list, the newest one first
  abbrev pub fields : List A → List Field
  fields xs = onto (map g xs) []

  pub collected_text : (fs : List Field) (xs : List A) → collected make [] fs ≡ Some xs → spell_all xs ≡ fields_text fs
  collected_text fs xs h = sym (list_text g spell parts.spelled xs)
      ∙ sym (ap fields_text (all_collected make g parts.sound xs fs h))

  collected_meets : (done xs : List A) (fs : List Field) → collected make done fs ≡ Some xs → well_fields fs ≡ true →
      well_all done ≡ true → well_all xs ≡ true
  collected_meets done xs [] h q d = let is : done ≡ xs = cc in sym (ap well_all is) ∙ d
  collected_meets done xs (f ∷ fs) h q d = chained (λ a. collected make (a ∷ done) fs) (make f) xs h (λ a ha hs.
      let ws = and_parts (well_fields fs) (well_field f) q in
      collected_meets (a ∷ done) xs fs hs ws.0 (and_from (w a) (well_all done) (parts.meets f a ha ws.1) d))

  pub collected_well : (fs : List Field) (xs : List A) → collected make [] fs ≡ Some xs → well_fields fs ≡ true → well_all xs ≡ true
  collected_well fs xs h q = collected_meets [] xs fs h q refl

  pub collected_some : (fs : List Field) (xs : List A) → collected make [] fs ≡ Some xs → some fs ≡ true → some xs ≡ true
  collected_some fs [] h q = let is = sym (ap some (all_collected make g parts.sound [] fs h)) ∙ q in absurd (cc)
  collected_some fs (x ∷ xs) h q = refl

  collected_onto : (xs done : List A) (d : List Field) → well_all xs ≡ true →
      collected make done (onto (map g xs) d) ≡ collected make (xs ++ done) d
  collected_onto [] done d h = refl
  collected_onto (x ∷ xs) done d h =
      let ws = and_parts (w x) (well_all xs) h in
      collected_onto xs done (g x ∷ d) ws.1 ∙ ap (option_and_then (λ c. collected make (c ∷ (xs ++ done)) d)) (parts.again x ws.0)

  pub collected_fields : (xs : List A) → well_all xs ≡ true → collected make [] (fields xs) ≡ Some xs
  collected_fields xs h = collected_onto xs [] [] h ∙ ap Some (append-nil xs)

  wells_onto : (xs : List A) (d : List Field) → well_all xs ≡ true → well_fields d ≡ true → well_fields (onto (map g xs) d) ≡ true
  wells_onto [] d h q = q
  wells_onto (x ∷ xs) d h q =
      let ws = and_parts (w x) (well_all xs) h in
      wells_onto xs (g x ∷ d) ws.1 (and_from (well_fields d) (well_field (g x)) q (parts.kept x ws.0))

  pub fields_well : (xs : List A) → well_all xs ≡ true → well_fields (fields xs) ≡ true
  fields_well xs h = wells_onto xs [] h refl

  pub fields_spelled : (xs : List A) → fields_text (fields xs) ≡ spell_all xs
  fields_spelled xs = list_text g spell parts.spelled xs

  pub fields_some : (x : A) (xs : List A) → some (fields (x ∷ xs)) ≡ true
  fields_some x xs = some_onto (map g xs) (g x ∷ []) refl

  -- what is a part isn't nothing
  something : (x : A) → w x ≡ true → is_nothing (g x) ≡ false
  something x h = by_test (λ b. b ≡ is_nothing (g x) → is_nothing (g x) ≡ false) (is_nothing (g x))
      (λ e _. let q = sym (parts.again x h) ∙ ap make (nothing_is (g x).left (g x).spread e) ∙ parts.never in absurd (cc))
      (λ e _. e) refl

  -- ---- a row

  pub row_list_sound : (ts : Text) (xs : List A) → option_and_then (collected make []) (row ts) ≡ Some xs →
      Is spell_all (λ xs. some xs && well_all xs) ts xs
  row_list_sound ts xs h = chained (collected make []) (row ts) xs h (λ fs hf hx.
      let s = row_sound ts fs hf in record {
        spelled = collected_text fs xs hx ∙ s.0;
        kept = and_from (some xs) (well_all xs) (collected_some fs xs hx (row_some ts fs hf)) (collected_well fs xs hx s.1);
      })

  pub row_list_again : (x : A) (xs : List A) → well_all (x ∷ xs) ≡ true →
      option_and_then (collected make []) (row (spell_all (x ∷ xs))) ≡ Some (x ∷ xs)
  row_list_again x xs h =
      ap (λ t. option_and_then (collected make []) (row t)) (sym (fields_spelled (x ∷ xs)))
      ∙ ap (option_and_then (collected make [])) (row_fields (fields (x ∷ xs)) (fields_some x xs) (fields_well (x ∷ xs) h))
      ∙ collected_fields (x ∷ xs) h

  -- what stands in a row isn't nothing
  pub row_list_some : (x : A) (xs : List A) → well_all (x ∷ xs) ≡ true → spell_all (x ∷ xs) ≡ [] → ⊥
  row_list_some x xs h e =
      let q = sym (row_list_again x xs h) ∙ ap (λ t. option_and_then (collected make []) (row t)) e
      ∙ ap (option_and_then (collected make [])) (row_again (field None spread.Empty) [] refl)
      ∙ ap (option_and_then (λ a. collected make (a ∷ []) [])) parts.never in absurd (cc)

  -- ---- a bracket, of at least one

  pub bracket_list_sound : (ts rest : Text) (fs : List Field) (xs : List A) → bracket ts ≡ Some (fs, rest) →
      collected make [] fs ≡ Some xs →
      (spell_all xs ++ punctuated mark.Close rest ≡ ts) × ((some xs && well_all xs) ≡ true)
  bracket_list_sound ts rest fs xs hf hx =
      let s = bracket_sound ts fs rest hf in (
        ap (λ t. t ++ punctuated mark.Close rest) (collected_text fs xs hx) ∙ s.0,
        and_from (some xs) (well_all xs) (collected_some fs xs hx (bracket_some ts fs rest hf)) (collected_well fs xs hx s.1),
      )

  pub bracket_list_again : (x : A) (xs : List A) (rest : Text) → well_all (x ∷ xs) ≡ true →
      bracket (spell_all (x ∷ xs) ++ punctuated mark.Close rest) ≡ Some (fields (x ∷ xs), rest)
  bracket_list_again x xs rest h =
      ap (λ t. bracket (t ++ punctuated mark.Close rest)) (sym (fields_spelled (x ∷ xs)))
      ∙ bracket_fields (fields (x ∷ xs)) rest (fields_some x xs) (fields_well (x ∷ xs) h)

  -- ---- a bracket, of none too

  pub within_list_sound : (ts rest : Text) (fs : List Field) (xs : List A) → bracket ts ≡ Some (fs, rest) →
      collected make [] (within fs) ≡ Some xs →
      (spell_all xs ++ punctuated mark.Close rest ≡ ts) × (well_all xs ≡ true)
  within_list_sound ts rest fs xs hf hx =
      let s = bracket_sound ts fs rest hf in (
        ap (λ t. t ++ punctuated mark.Close rest) (collected_text (within fs) xs hx ∙ within_text fs) ∙ s.0,
        collected_well (within fs) xs hx (within_well fs s.1),
      )

  within_fields : (x : A) (xs : List A) → w x ≡ true → within (fields (x ∷ xs)) ≡ fields (x ∷ xs)
  within_fields x [] h = ap (λ b. if b then [] else g x ∷ []) (something x h)
  within_fields x (y ∷ ys) h = within_long (map g ys) (g y) (g x) []

  -- the fields that stand in a bracket with these items
  abbrev pub inside : List A → List Field
  inside [] = field None spread.Empty ∷ []
  inside (x ∷ xs) = fields (x ∷ xs)

  pub within_list_again : (xs : List A) (rest : Text) → well_all xs ≡ true →
      bracket (spell_all xs ++ punctuated mark.Close rest) ≡ Some (inside xs, rest)
  within_list_again [] rest h = bracket_nothing rest
  within_list_again (x ∷ xs) rest h = bracket_list_again x xs rest h

  pub collected_inside : (xs : List A) → well_all xs ≡ true → collected make [] (within (inside xs)) ≡ Some xs
  collected_inside [] h = refl
  collected_inside (x ∷ xs) h =
      let ws = and_parts (w x) (well_all xs) h in ap (collected make []) (within_fields x xs ws.0) ∙ collected_fields (x ∷ xs) h
