-- Shapes and places, for every rank. A list of extents or of subscripts has the first dimension first, whose subscript
-- varies fastest in array element order. Places are counted from 0.
use Rattle.std.specs.Prelude.{◌≡◌, ℕ, ℤ, pos, ◌+◌, ◌*◌, ◌/◌, ◌%◌, ◌<◌, ◌≤◌, ◌≤ℤ◌, List, [], ◌∷◌, length, map, unsigned_abs}
use Rattle.a95_base.specs.Lists.{Every, count_to}
use Rattle.a95_base.specs.Limits.{greatest_rank, most_elements}

-- the ranks that an array may have
pub record IsRank (rank : ℕ) : Type 0 where
  pub least : 1 ≤ rank
  pub most : rank ≤ greatest_rank

abbrev pub AreNatural : List ℤ → Type 0
AreNatural = Every (λ z. pos 0 ≤ℤ z)

-- signed numbers, none of them negative, as natural ones
abbrev pub naturals : List ℤ → List ℕ
naturals = map unsigned_abs

-- how many places a shape has
abbrev pub size_of : List ℕ → ℕ
size_of [] = 1
size_of (extent ∷ extents) = extent * size_of extents

-- the extents of a shape of this rank
pub record IsShape (rank : ℕ) (extents : List ℕ) : Type 0 where
  pub ranked : IsRank rank
  pub long : length extents ≡ rank
  pub small : size_of extents ≤ most_elements

-- one subscript for each dimension, each below the extent
abbrev pub IsPlace : List ℕ → List ℕ → Type 0
IsPlace [] [] = Unit {0}
IsPlace [] (i ∷ place) = ⊥
IsPlace (extent ∷ extents) [] = ⊥
IsPlace (extent ∷ extents) (i ∷ place) = (i < extent) × IsPlace extents place

-- the number of a place in array element order, from 0
abbrev pub number_of : List ℕ → List ℕ → ℕ
number_of [] place = 0
number_of (extent ∷ extents) [] = 0
number_of (extent ∷ extents) (i ∷ place) = i + extent * number_of extents place

-- the place with this number
abbrev pub place_at : List ℕ → ℕ → List ℕ
place_at [] number = []
place_at (extent ∷ extents) number = number % extent ∷ place_at extents (number / extent)

-- all places, in array element order
abbrev pub places_of : List ℕ → List (List ℕ)
places_of extents = map (place_at extents) (count_to (size_of extents))
