-- Orders of loops: each loop once, the outermost first, each forwards or backwards. A loop has the number of the dimension
-- in which it runs, from 1.
use Rattle.std.specs.Prelude.{ℕ, zero, suc, Bool, false, List, [], ◌∷◌, map, slice_index_or}
use Rattle.a95_base.specs.Lists.{Permuted, down_to_one}

-- one of the nested loops
pub record Level : Type 0 where
  pub number : ℕ
  pub down : Bool

abbrev pub levels : List ℕ → List Bool → List Level
levels [] downs = []
levels (number ∷ numbers) [] = []
levels (number ∷ numbers) (down ∷ downs) = record { number = number; down = down } ∷ levels numbers downs

abbrev pub loops_of : List Level → List ℕ
loops_of = map (λ level. level.number)

abbrev pub downs_of : List Level → List Bool
downs_of = map (λ level. level.down)

-- the loops are those from 1 to the rank, each once
abbrev pub IsOrder : ℕ → List Level → Type 0
IsOrder rank order = Permuted (loops_of order) (down_to_one rank)

-- array element order: the highest-numbered loop outermost, all loops forwards
abbrev pub element_order_of : ℕ → List Level
element_order_of zero = []
element_order_of (suc rank) = record { number = suc rank; down = false } ∷ element_order_of rank

-- the level with this many levels around it
abbrev pub level_at : List Level → ℕ → Level
level_at order k = slice_index_or order k (record { number = 0; down = false })
