-- The places of a section: which they are, how many, in which order, and each once.
use Rattle.std.proofs.Common.{◌≡◌, ◌≢◌, ℕ, ℤ, pos, ◌+◌, ◌*◌, ◌<◌, List, [], ◌∷◌, length, get_or, map, refl, ap, ◌∙◌, subst, inl, inr, arith}
use Rattle.std.proofs.Math.Nat.{mul_comm}
use Rattle.std.proofs.lemmas.List.{length-map, get_or-map}
use Rattle.a95_base.specs.Lists.{Every, Pairwise, Member, count_to}
use Rattle.a95_base.proofs.Lists.{Every-all, Every-map, Pairwise-map, Pairwise-weaker, Pairwise-flat_map, Member-map, Member-from_map, length-count_to, get_or-count_to}
use Rattle.a95_base.proofs.Lists.{Member-flat_map, Member-from_flat_map}
use Rattle.rank_shape.specs.Shape.{IsPlace, size_of, number_of}
use Rattle.rank_shape.proofs.Numbers.{number_below}
use Rattle.rank_shape.proofs.Walks.{length_pieces, get_or-pieces}
use Rattle.section_algebra.specs.Section.{Progression, term_of, subscripts_of, counts_of, choices, places_of, place_named}

-- ---- which places

-- each number of the place stands in the list of its dimension
abbrev pub AreAmong : List (List ℤ) → List ℤ → Type 0
AreAmong [] [] = Unit {0}
AreAmong [] (z ∷ place) = ⊥
AreAmong (zs ∷ more) [] = ⊥
AreAmong (zs ∷ more) (z ∷ place) = Member zs z × AreAmong more place

pub choices_have : (zss : List (List ℤ)) (place : List ℤ) → AreAmong zss place → Member (choices zss) place
choices_have [] [] h = inl refl
choices_have [] (z ∷ place) h = absurd h
choices_have (zs ∷ more) [] h = absurd h
choices_have (zs ∷ more) (z ∷ place) h =
    Member-flat_map (λ p. map (λ y. y ∷ p) zs) (choices more) place (z ∷ place) (choices_have more place h.1)
    (Member-map (λ y. y ∷ place) zs z h.0)

pub among_choices : (zss : List (List ℤ)) (place : List ℤ) → Member (choices zss) place → AreAmong zss place
among_choices [] place (inl e) = let P : List ℤ → Type 0 = λ p. AreAmong [] p in subst P e tt
among_choices [] place (inr h) = absurd h
among_choices (zs ∷ more) place h =
    let r = Member-from_flat_map (λ p. map (λ y. y ∷ p) zs) (choices more) place h in
    let m = Member-from_map (λ y. y ∷ r.0) zs place r.1.1 in
    let P : List ℤ → Type 0 = λ p. AreAmong (zs ∷ more) p in
    subst P m.1.1 (m.1.0, among_choices more r.0 r.1.0)

-- ---- how many

length-choices : (zss : List (List ℤ)) → length (choices zss) ≡ size_of (map length zss)
length-choices [] = refl
length-choices (zs ∷ more) =
    length_pieces (λ p. map (λ y. y ∷ p) zs) (length zs) (λ p. length-map zs (λ y. y ∷ p)) (choices more)
    ∙ ap (λ n. n * length zs) (length-choices more) ∙ mul_comm (size_of (map length more)) (length zs)

pub length-subscripts_of : (p : Progression) → length (subscripts_of p) ≡ p.count
length-subscripts_of p = length-map (count_to p.count) (term_of p) ∙ length-count_to p.count

pub lengths_are_counts : (section : List Progression) → map length (map subscripts_of section) ≡ counts_of section
lengths_are_counts [] = refl
lengths_are_counts (p ∷ section) =
    ap (λ n. n ∷ map length (map subscripts_of section)) (length-subscripts_of p)
    ∙ ap (λ ns. p.count ∷ ns) (lengths_are_counts section)

pub length-places_of : (section : List Progression) → length (places_of section) ≡ size_of (counts_of section)
length-places_of section = length-choices (map subscripts_of section) ∙ ap size_of (lengths_are_counts section)

-- ---- in which order

abbrev picked : List (List ℤ) → List ℕ → List ℤ
picked (zs ∷ more) (k ∷ turns) = get_or zs k (pos 0) ∷ picked more turns
picked zss turns = []

choice_at : (zss : List (List ℤ)) (turns : List ℕ) (d : List ℤ) → IsPlace (map length zss) turns
    → get_or (choices zss) (number_of (map length zss) turns) d ≡ picked zss turns
choice_at [] [] d h = refl
choice_at [] (k ∷ turns) d h = absurd h
choice_at (zs ∷ more) [] d h = absurd h
choice_at (zs ∷ more) (k ∷ turns) d h =
    let n : ℕ = number_of (map length more) turns in
    let below : n < length (choices more) = omega (arith, number_below (map length more) turns h.1, length-choices more) in
    ap (λ j. get_or (choices (zs ∷ more)) j d)
    (let at : k + length zs * n ≡ n * length zs + k = omega (arith, mul_comm (length zs) n) in at)
    ∙ get_or-pieces (λ p. map (λ y. y ∷ p) zs) (length zs) (λ p. length-map zs (λ y. y ∷ p)) (choices more) n k [] d below h.0
    ∙ get_or-map (λ y. y ∷ get_or (choices more) n []) zs k (pos 0) d h.0
    ∙ ap (λ p. get_or zs k (pos 0) ∷ p) (choice_at more turns [] h.1)

picked_is_named : (section : List Progression) (turns : List ℕ) → IsPlace (counts_of section) turns
    → picked (map subscripts_of section) turns ≡ place_named section turns
picked_is_named [] [] h = refl
picked_is_named [] (k ∷ turns) h = absurd h
picked_is_named (p ∷ section) [] h = absurd h
picked_is_named (p ∷ section) (k ∷ turns) h =
    ap (λ z. z ∷ picked (map subscripts_of section) turns)
    (get_or-map (term_of p) (count_to p.count) k 0 (pos 0) (omega (arith, h.0, length-count_to p.count))
    ∙ ap (term_of p) (get_or-count_to p.count k 0 h.0))
    ∙ ap (λ zs. term_of p k ∷ zs) (picked_is_named section turns h.1)

-- the place that is named at these turns stands where array element order of the turns puts it
pub named_is_listed : (section : List Progression) (turns : List ℕ) (d : List ℤ) → IsPlace (counts_of section) turns
    → get_or (places_of section) (number_of (counts_of section) turns) d ≡ place_named section turns
named_is_listed section turns d h =
    let P : List ℕ → Type 0 =
    λ ns. IsPlace ns turns → get_or (places_of section) (number_of ns turns) d ≡ picked (map subscripts_of section) turns in
    subst P (lengths_are_counts section) (choice_at (map subscripts_of section) turns d) h ∙ picked_is_named section turns h

-- ---- each once

first_differs : (x y : ℤ) (p q : List ℤ) → x ≢ y → (x ∷ p) ≢ (y ∷ q)
first_differs x y p q apart = λ e. apart (cc)

later_differs : (x y : ℤ) (p q : List ℤ) → p ≢ q → (x ∷ p) ≢ (y ∷ q)
later_differs x y p q apart = λ e. apart (cc)

abbrev before : List ℤ → List ℤ → List (List ℤ)
before zs p = map (λ z. z ∷ p) zs

apart_before : (zs : List ℤ) (p q : List ℤ) → p ≢ q → Every (λ v. Every (λ w. v ≢ w) (before zs q)) (before zs p)
apart_before zs p q apart =
    Every-map (λ v. Every (λ w. v ≢ w) (before zs q)) (λ x. x ∷ p) zs
    (Every-all (λ x. Every (λ w. (x ∷ p) ≢ w) (before zs q))
    (λ x. Every-map (λ w. (x ∷ p) ≢ w) (λ y. y ∷ q) zs
    (Every-all (λ y. (x ∷ p) ≢ (y ∷ q)) (λ y. later_differs x y p q apart) zs)) zs)

choices_once : (zss : List (List ℤ)) → Every (Pairwise (λ x y. x ≢ y)) zss → Pairwise (λ p q. p ≢ q) (choices zss)
choices_once [] h = (tt, tt)
choices_once (zs ∷ more) h =
    Pairwise-flat_map (λ p q. p ≢ q) (before zs) (choices more)
    (Every-all (λ p. Pairwise (λ v w. v ≢ w) (before zs p))
    (λ p. Pairwise-map (λ v w. v ≢ w) (λ z. z ∷ p) zs
    (Pairwise-weaker (λ x y. x ≢ y) (λ x y. (x ∷ p) ≢ (y ∷ p)) (λ x y. first_differs x y p p) zs h.0)) (choices more))
    (Pairwise-weaker (λ p q. p ≢ q) (λ p q. Every (λ v. Every (λ w. v ≢ w) (before zs q)) (before zs p))
    (λ p q. apart_before zs p q) (choices more) (choices_once more h.1))

pub places_once : (section : List Progression) → Every (λ p. Pairwise (λ x y. x ≢ y) (subscripts_of p)) section
    → Pairwise (λ p q. p ≢ q) (places_of section)
places_once section h = choices_once (map subscripts_of section) (Every-map (Pairwise (λ x y. x ≢ y)) subscripts_of section h)
