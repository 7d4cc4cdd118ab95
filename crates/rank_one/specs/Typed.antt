-- What every unit keeps that a text reads as, and its size.
use Rattle.std.specs.Prelude.{ℕ, zero, suc, Bool, false, List, [], ◌∷◌, ◌++◌, length, nat_le, nat_lt, ◌==◌, ◌&&◌, IsTrue, ◌^◌, ◌+◌}
use Rattle.std.specs.Prelude.{◌<◌}
use Rattle.std.specs.List.{list_all, sum_by, flat_map}
use Rattle.a95_base.specs.Limits.{most_elements}
use Rattle.rank_one.specs.declared.unit.Unit.{Unit}
use Rattle.rank_one.specs.declared.unit.Array.{Array}
use Rattle.rank_one.specs.declared.unit.Action.{Action}
use Rattle.rank_one.specs.declared.unit.Action.TheVariants as action
use Rattle.rank_one.specs.declared.unit.Sum.{Sum}
use Rattle.rank_one.specs.declared.unit.Term.{Term}
use Rattle.rank_one.specs.declared.unit.Factor.{Factor}
use Rattle.rank_one.specs.declared.unit.Factor.TheVariants as factor

-- the factors of a sum, from left to right
abbrev pub factors_of_term : Term → List Factor
factors_of_term t = t.first ∷ t.rest

abbrev pub factors_of : Sum → List Factor
factors_of s = factors_of_term s.first ++ flat_map (λ a. factors_of_term a.term) s.rest

-- there is an array at the place, and its extent is this
abbrev pub has_extent : List Array → ℕ → ℕ → Bool
has_extent [] extent place = false
has_extent (a ∷ arrays) extent zero = a.extent == extent
has_extent (a ∷ arrays) extent (suc place) = has_extent arrays extent place

-- a number fits, an array is there and has this extent
abbrev pub is_typed_factor : List Array → ℕ → Factor → Bool
is_typed_factor arrays extent (factor.Number n) = nat_le n 2147483647
is_typed_factor arrays extent (factor.Array place) = has_extent arrays extent place

-- the extent of the array at a place
abbrev pub extent_at : List Array → ℕ → ℕ
extent_at [] place = 0
extent_at (a ∷ arrays) zero = a.extent
extent_at (a ∷ arrays) (suc place) = extent_at arrays place

-- the arrays of an assignment have the target's extent; what is printed is there
abbrev pub is_typed_action : List Array → Action → Bool
is_typed_action arrays (action.Assign target value) =
    nat_lt target (length arrays) && list_all (is_typed_factor arrays (extent_at arrays target)) (factors_of value)
is_typed_action arrays (action.Print places) = nat_lt 0 (length places) && list_all (λ place. nat_lt place (length arrays)) places

pub record IsTyped (unit : Unit) : Type 0 where
  pub count : length unit.arrays < 2 ^ 32
  pub array_lines : IsTrue (list_all (λ a. nat_lt a.line (2 ^ 32)) unit.arrays)
  pub statement_lines : IsTrue (list_all (λ s. nat_lt s.line (2 ^ 32)) unit.statements)
  pub extents : IsTrue (list_all (λ a. nat_le a.extent most_elements) unit.arrays)
  pub statements : IsTrue (list_all (λ s. is_typed_action unit.arrays s.action) unit.statements)

abbrev pub size_of_term : Term → ℕ
size_of_term t = 1 + length (factors_of_term t)

abbrev pub size_of_sum : Sum → ℕ
size_of_sum s = size_of_term s.first + sum_by (λ a. size_of_term a.term) s.rest

abbrev pub size_of_action : Action → ℕ
size_of_action (action.Assign target value) = 1 + size_of_sum value
size_of_action (action.Print places) = 1 + length places

-- how many arrays, statements, terms, factors and printed names a unit has
abbrev pub size_of : Unit → ℕ
size_of unit = length unit.arrays + sum_by (λ s. size_of_action s.action) unit.statements
