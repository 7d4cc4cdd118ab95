-- Sections: in each dimension the subscripts that a triplet names, and the list of all places, in array element order. A list
-- has the first dimension first, whose subscript varies fastest.
use Rattle.std.specs.Prelude.{◌≡◌, ◌≢◌, ℕ, ℤ, pos, suc, ◌<◌, ◌+ℤ◌, ◌-ℤ◌, ◌*ℤ◌, ◌≤ℤ◌, int_div, unsigned_abs, List, [], ◌∷◌, length, map, slice_index_or}
use Rattle.std.specs.List.{flat_map}
use Rattle.std.specs.Int.{int_max}
use Rattle.a95_base.specs.IntegerLaws.{IsInteger}
use Rattle.a95_base.specs.Lists.{Every, Member, count_to}
use Rattle.rank_shape.specs.Shape.{IsRank, number_of}

-- ---- one dimension

-- an arithmetic progression: start, start + stride, and so on, so many numbers
pub record Progression : Type 0 where
  pub start : ℤ
  pub stride : ℤ
  pub count : ℕ

abbrev pub term_of : Progression → ℕ → ℤ
term_of p k = p.start +ℤ pos k *ℤ p.stride

abbrev pub subscripts_of : Progression → List ℤ
subscripts_of p = map (term_of p) (count_to p.count)

-- MAX(INT((last - first + stride) / stride), 0), in exact integers
abbrev pub triplet_count : ℤ → ℤ → ℤ → ℕ
triplet_count first last stride = unsigned_abs (int_max (int_div (last -ℤ first +ℤ stride) stride) (pos 0))

-- what the triplet first:last:stride names
abbrev pub triplet : ℤ → ℤ → ℤ → Progression
triplet first last stride = record { start = first; stride = stride; count = triplet_count first last stride }

-- ---- all dimensions

abbrev pub triplets : List ℤ → List ℤ → List ℤ → List Progression
triplets (first ∷ lower) (last ∷ upper) (step ∷ stride) = triplet first last step ∷ triplets lower upper stride
triplets lower upper stride = []

-- how many subscripts each dimension has: the shape of the section
abbrev pub counts_of : List Progression → List ℕ
counts_of = map (λ p. p.count)

-- all choices of one number from each list, the first varying fastest
abbrev pub choices : List (List ℤ) → List (List ℤ)
choices [] = [] ∷ []
choices (zs ∷ more) = flat_map (λ place. map (λ z. z ∷ place) zs) (choices more)

-- the section: each place that its subscripts name
abbrev pub places_of : List Progression → List (List ℤ)
places_of section = choices (map subscripts_of section)

-- the place that it names at these turns of its dimensions, counted from 0
abbrev pub place_named : List Progression → List ℕ → List ℤ
place_named (p ∷ section) (k ∷ turns) = term_of p k ∷ place_named section turns
place_named section turns = []

abbrev pub progression_at : List Progression → ℕ → Progression
progression_at section dim = slice_index_or section dim (record { start = pos 0; stride = pos 1; count = 0 })

-- ---- what is asked of sections

abbrev pub AreIntegers : List ℤ → Type 0
AreIntegers = Every IsInteger

-- each subscript lies from its lower bound to its upper one
abbrev pub IsWithin : List ℤ → List ℤ → List ℤ → Type 0
IsWithin [] [] [] = Unit {0}
IsWithin (l ∷ lower) (u ∷ upper) (z ∷ place) = ((l ≤ℤ z) × (z ≤ℤ u)) × IsWithin lower upper place
IsWithin lower upper place = ⊥

-- some subscript is named in this dimension by both
pub record Share (p q : Progression) : Type 0 where
  pub subscript : ℤ
  pub first : Member (subscripts_of p) subscript
  pub second : Member (subscripts_of q) subscript

-- some place is in both
pub record Meet (section other : List Progression) : Type 0 where
  pub place : List ℤ
  pub first : Member (places_of section) place
  pub second : Member (places_of other) place

-- the numbers of the section's places in an array of these extents, whose lower bounds are 1
abbrev pub from_one : List ℤ → List ℕ
from_one = map (λ z. unsigned_abs (z -ℤ pos 1))

abbrev pub numbers_in : List ℕ → List Progression → List ℕ
numbers_in extents section = map (λ place. number_of extents (from_one place)) (places_of section)

-- each number is one more than the one before it
abbrev pub IsConsecutive : List ℕ → Type 0
IsConsecutive [] = Unit {0}
IsConsecutive (n ∷ []) = Unit {0}
IsConsecutive (n ∷ m ∷ more) = (m ≡ suc n) × IsConsecutive (m ∷ more)

-- ---- what every section keeps

-- the terms are 32-bit INTEGERs
pub record IsProgression (p : Progression) : Type 0 where
  pub start_fits : IsInteger p.start
  pub stride_fits : IsInteger p.stride
  pub steps : p.stride ≢ pos 0
  pub terms_fit : (k : ℕ) → k < p.count → IsInteger (term_of p k)

pub record IsSection (rank : ℕ) (section : List Progression) : Type 0 where
  pub ranked : IsRank rank
  pub long : length section ≡ rank
  pub each : Every IsProgression section
