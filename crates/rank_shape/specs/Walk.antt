-- Walks: the places of a shape as nested loops meet them.
use Rattle.std.specs.Prelude.{◌≡◌, ◌≢◌, ℕ, ◌-◌, ◌≤◌, Bool, true, false, List, [], ◌∷◌, length, map, reverse, slice_index, slice_set}
use Rattle.std.specs.List.{flat_map}
use Rattle.a95_base.specs.Lists.{Every, Pairwise, Member, Permuted, count_to}
use Rattle.rank_shape.specs.Shape.{IsShape, IsPlace, size_of, places_of}
use Rattle.rank_shape.specs.Order.{Level, IsOrder}

-- the subscripts that a loop of this extent goes through
abbrev pub turns_of : Bool → ℕ → List ℕ
turns_of false extent = count_to extent
turns_of true extent = reverse (count_to extent)

-- the places that nested loops meet; a dimension with no loop among them keeps its subscript
abbrev pub tour_from : List Level → List ℕ → List ℕ → List (List ℕ)
tour_from [] extents place = place ∷ []
tour_from (level ∷ inner) extents place =
    flat_map (λ i. tour_from inner extents (slice_set place (level.number - 1) i))
    (turns_of level.down (slice_index extents (level.number - 1)))

abbrev pub tour : List Level → List ℕ → List (List ℕ)
tour order extents = tour_from order extents (map (λ extent. 0) extents)

-- every place of the shape, each once
pub record IsWhole (extents : List ℕ) (places : List (List ℕ)) : Type 0 where
  pub within : Every (IsPlace extents) places
  pub every : (place : List ℕ) → IsPlace extents place → Member places place
  pub once : Pairwise (λ place later. place ≢ later) places
  pub size : length places ≡ size_of extents
  pub reordered : Permuted places (places_of extents)

-- what a walk that has come to this turn keeps
pub record IsTour (rank : ℕ) (extents : List ℕ) (order : List Level) (size turn : ℕ) : Type 0 where
  pub of_shape : IsShape rank extents
  pub in_order : IsOrder rank order
  pub sized : size ≡ size_of extents
  pub within : turn ≤ size
