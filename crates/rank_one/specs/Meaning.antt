-- What a source of the first form means: whole values, in the order of its statements. Nothing here goes over elements one at a
-- time.
use Rattle.std.specs.Prelude.{ℕ, ℤ, pos, Bool, true, false, List, [], ◌∷◌, ◌++◌, map, length, replicate, fold, if◌then◌else◌}
use Rattle.std.specs.List.{zip, flat_map, slice_index_or, slice_set}
use Rattle.a95_base.specs.Integer.{sum_of, difference_of, product_of}
use Rattle.a95_base.specs.Record.{record_text}
use Rattle.a95_base.specs.declared.scalar.Scalar.{Scalar}
use Rattle.a95_base.specs.declared.scalar.Scalar.TheVariants as scalar
use Rattle.rank_one.specs.declared.unit.Unit.{Unit}
use Rattle.rank_one.specs.declared.unit.Array.{Array}
use Rattle.rank_one.specs.declared.unit.Statement.{Statement}
use Rattle.rank_one.specs.declared.unit.Action.{Action}
use Rattle.rank_one.specs.declared.unit.Action.TheVariants.{Assign, Print}
use Rattle.rank_one.specs.declared.unit.Sum.{Sum}
use Rattle.rank_one.specs.declared.unit.Addend.{Addend}
use Rattle.rank_one.specs.declared.unit.Term.{Term}
use Rattle.rank_one.specs.declared.unit.Factor.{Factor}
use Rattle.rank_one.specs.declared.unit.Factor.TheVariants as factor

-- the value of an operand: one number, which fits every shape, or a whole array
pub data Value : Type 0 where
  Number : ℤ → Value
  Whole : List ℤ → Value

-- an operation of two numbers on two values, element by element
abbrev pub combined : (ℤ → ℤ → ℤ) → Value → Value → Value
combined f (Number x) (Number y) = Number (f x y)
combined f (Number x) (Whole ys) = Whole (map (λ y. f x y) ys)
combined f (Whole xs) (Number y) = Whole (map (λ x. f x y) xs)
combined f (Whole xs) (Whole ys) = Whole (map (λ p. f p.0 p.1) (zip xs ys))

-- the values of the arrays, in the order of their declaration
abbrev pub array_at : List (List ℤ) → ℕ → List ℤ
array_at arrays place = slice_index_or arrays place []

abbrev pub factor_value : List (List ℤ) → Factor → Value
factor_value arrays (factor.Number n) = Number (pos n)
factor_value arrays (factor.Array place) = Whole (array_at arrays place)

-- factors and terms are taken from left to right, and each operation wraps
abbrev pub term_value : List (List ℤ) → Term → Value
term_value arrays term = fold (λ value more. combined product_of value (factor_value arrays more)) (factor_value arrays term.first)
    term.rest

abbrev pub added : Bool → ℤ → ℤ → ℤ
added true = difference_of
added false = sum_of

abbrev pub sum_value : List (List ℤ) → Sum → Value
sum_value arrays sum = fold (λ value more. combined (added more.minus) value (term_value arrays more.term))
    (term_value arrays sum.first) sum.rest

-- a value as the elements of an array that has so many
abbrev pub elements : ℕ → Value → List ℤ
elements extent (Number x) = replicate extent x
elements extent (Whole xs) = xs

pub record State : Type 0 where
  pub arrays : List (List ℤ)
  pub written : List ℕ

-- the whole right side is evaluated, and then the variable has it; one record has the elements of all arrays that are printed
abbrev pub after : Action → State → State
after (Assign place sum) s = record s {
  arrays = slice_set s.arrays place (elements (length (array_at s.arrays place)) (sum_value s.arrays sum));
}
after (Print places) s = record s {
  written = s.written ++ (record_text (flat_map (λ place. map scalar.Int (array_at s.arrays place)) places) ++ 10 ∷ []);
}

-- each array starts with zeros
abbrev pub start : Unit → State
start unit = record { arrays = map (λ array. replicate array.extent (pos 0)) unit.arrays; written = [] }

-- all that the source writes
abbrev pub output : Unit → List ℕ
output unit = (fold (λ s statement. after statement.action s) (start unit) unit.statements).written
