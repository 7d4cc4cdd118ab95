-- Lists put one item after another before others, and what is collected of them.
use Rattle.std.proofs.Common.{◌≡◌, List, [], ◌∷◌, ◌++◌, map, Option, Some, ◌∙◌, ap, refl, append-nil}
use Rattle.std.specs.Prelude.{option_and_then}
use Rattle.f95_expressions.specs.declared.pending.Field.{Field}
use Rattle.f95_expressions.specs.Machine.{collected}

-- the items of the first list, one after another, before the second
abbrev pub onto : {A : Type 0} → List A → List A → List A
onto [] d = d
onto (x ∷ xs) d = onto xs (x ∷ d)

pub onto_append : {A : Type 0} (xs ys d : List A) → onto (xs ++ ys) d ≡ onto ys (onto xs d)
onto_append [] ys d = refl
onto_append (x ∷ xs) ys d = onto_append xs ys (x ∷ d)

pub collected_onto : {A : Type 0} (make : Field → Option A) (g : A → Field) → ((a : A) → make (g a) ≡ Some a) →
    (bs done : List A) (d : List Field) → collected make done (onto (map g bs) d) ≡ collected make (bs ++ done) d
collected_onto make g back [] done d = refl
collected_onto make g back (b ∷ bs) done d =
    collected_onto make g back bs done (g b ∷ d) ∙ ap (option_and_then (λ c. collected make (c ∷ (bs ++ done)) d)) (back b)

pub collected_all : {A : Type 0} (make : Field → Option A) (g : A → Field) → ((a : A) → make (g a) ≡ Some a) →
    (bs : List A) → collected make [] (onto (map g bs) []) ≡ Some bs
collected_all make g back bs = collected_onto make g back bs [] [] ∙ ap Some (append-nil bs)
