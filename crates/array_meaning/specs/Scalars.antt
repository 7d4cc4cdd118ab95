-- Operators, and elemental functions, on scalars. What a unit that isn't well typed asks for is `nothing`.
use Rattle.std.specs.Prelude.{ℕ, ℤ, pos, Bool, true, false, not, ◌&&◌, ◌||◌, List, [], ◌∷◌, ◌++◌, map, fold, replicate, Option}
use Rattle.std.specs.Prelude.{ok_or, option_map, Result, Ok, ◌+◌}
use Rattle.std.specs.declared.cmp.Ordering.{Ordering}
use Rattle.std.specs.declared.cmp.Ordering.TheVariants.{Equal}
use Rattle.std.specs.Ordering.{is_eq, is_ne, is_lt, is_le, is_gt, is_ge, int_cmp}
use Rattle.a95_base.specs.declared.fault.FaultKind.{FaultKind}
use Rattle.a95_base.specs.declared.fault.FaultKind.TheVariants as fault
use Rattle.a95_base.specs.declared.scalar.Scalar.{Scalar}
use Rattle.a95_base.specs.declared.scalar.Scalar.TheVariants as scalar
use Rattle.a95_base.specs.Integer.{sum_of, difference_of, product_of, negation_of, quotient_of, power_of, remainder_of, modulo_of}
use Rattle.a95_base.specs.Integer.{absolute_of, sign_of, greater_of, lesser_of, and_of, or_of, exclusive_or_of}
use Rattle.a95_base.specs.Text.{compare_padded, trimmed_length, adjust_left, adjust_right, first_place, code_of, char_of}
use Rattle.f95_unit.specs.declared.operation.UnaryOp.{UnaryOp}
use Rattle.f95_unit.specs.declared.operation.UnaryOp.TheVariants as unary
use Rattle.f95_unit.specs.declared.operation.BinaryOp.{BinaryOp}
use Rattle.f95_unit.specs.declared.operation.BinaryOp.TheVariants as binary
use Rattle.f95_unit.specs.declared.operation.Elemental.{Elemental}
use Rattle.f95_unit.specs.declared.operation.Elemental.TheVariants as elemental
use Rattle.array_meaning.specs.Values.{nothing, integer_of, truth_of, text_of, length_of, blank_like, argument_of}

-- ---- operators

-- where overflow is to be a fault, that of Minus joins here, as a result like that of `binary_of`
abbrev pub unary_of : UnaryOp → Scalar → Scalar
unary_of unary.Plus x = x
unary_of unary.Minus x = scalar.Int (negation_of (integer_of x))
unary_of unary.Not x = scalar.Log (not (truth_of x))

-- integers by value, texts by their bytes, the shorter padded with blanks
abbrev pub compared : Scalar → Scalar → Ordering
compared (scalar.Int x) (scalar.Int y) = int_cmp x y
compared (scalar.Text x) (scalar.Text y) = compare_padded x y
compared x y = Equal

abbrev pub is_equivalent : Bool → Bool → Bool
is_equivalent true b = b
is_equivalent false b = not b

-- an integer, or a fault where there is none
abbrev pub integer_or : FaultKind → Option ℤ → Result Scalar FaultKind
integer_or kind z = ok_or (option_map scalar.Int z) kind

abbrev pub binary_of : BinaryOp → Scalar → Scalar → Result Scalar FaultKind
binary_of binary.Power x y = integer_or fault.ZeroDivide (power_of (integer_of x) (integer_of y))
binary_of binary.Multiply x y = Ok (scalar.Int (product_of (integer_of x) (integer_of y)))
binary_of binary.Divide x y = integer_or fault.ZeroDivide (quotient_of (integer_of x) (integer_of y))
binary_of binary.Add x y = Ok (scalar.Int (sum_of (integer_of x) (integer_of y)))
binary_of binary.Subtract x y = Ok (scalar.Int (difference_of (integer_of x) (integer_of y)))
binary_of binary.Concat x y = Ok (scalar.Text (text_of x ++ text_of y))
binary_of binary.Equal x y = Ok (scalar.Log (is_eq (compared x y)))
binary_of binary.NotEqual x y = Ok (scalar.Log (is_ne (compared x y)))
binary_of binary.Less x y = Ok (scalar.Log (is_lt (compared x y)))
binary_of binary.LessEqual x y = Ok (scalar.Log (is_le (compared x y)))
binary_of binary.Greater x y = Ok (scalar.Log (is_gt (compared x y)))
binary_of binary.GreaterEqual x y = Ok (scalar.Log (is_ge (compared x y)))
binary_of binary.And x y = Ok (scalar.Log (truth_of x && truth_of y))
binary_of binary.Or x y = Ok (scalar.Log (truth_of x || truth_of y))
binary_of binary.Equivalent x y = Ok (scalar.Log (is_equivalent (truth_of x) (truth_of y)))
binary_of binary.NotEquivalent x y = Ok (scalar.Log (not (is_equivalent (truth_of x) (truth_of y))))

-- the kind and the length of what an operator gives
abbrev pub unary_like : UnaryOp → Scalar → Scalar
unary_like unary.Not x = scalar.Log false
unary_like op x = scalar.Int (pos 0)

abbrev pub binary_like : BinaryOp → Scalar → Scalar → Scalar
binary_like binary.Power x y = scalar.Int (pos 0)
binary_like binary.Multiply x y = scalar.Int (pos 0)
binary_like binary.Divide x y = scalar.Int (pos 0)
binary_like binary.Add x y = scalar.Int (pos 0)
binary_like binary.Subtract x y = scalar.Int (pos 0)
binary_like binary.Concat x y = scalar.Text (replicate (length_of x + length_of y) 32)
binary_like op x y = scalar.Log false

-- ---- elemental functions, on arguments with their places

-- MAX and MIN take the values from the first on
abbrev pub best : (ℤ → ℤ → ℤ) → List Scalar → Scalar
best better [] = nothing
best better (x ∷ xs) = scalar.Int (fold (λ z y. better z (integer_of y)) (integer_of x) xs)

abbrev pub texts : List (ℕ × Scalar) → ℕ → List ℕ
texts xs place = text_of (argument_of nothing place xs)

abbrev pub integers : List (ℕ × Scalar) → ℕ → ℤ
integers xs place = integer_of (argument_of nothing place xs)

-- MERGE's choice; all three were evaluated
abbrev pub merged : Bool → Scalar → Scalar → Scalar
merged true x y = x
merged false x y = y

-- a text, or a fault where there is none
abbrev pub text_or : FaultKind → Option (List ℕ) → Result Scalar FaultKind
text_or kind bytes = ok_or (option_map scalar.Text bytes) kind

abbrev pub elemental_of : Elemental → List (ℕ × Scalar) → Result Scalar FaultKind
elemental_of elemental.Abs xs = Ok (scalar.Int (absolute_of (integers xs 0)))
elemental_of elemental.Mod xs = integer_or fault.ZeroDivide (remainder_of (integers xs 0) (integers xs 1))
elemental_of elemental.Modulo xs = integer_or fault.ZeroDivide (modulo_of (integers xs 0) (integers xs 1))
elemental_of elemental.Sign xs = Ok (scalar.Int (sign_of (integers xs 0) (integers xs 1)))
elemental_of elemental.Max xs = Ok (best greater_of (map (λ x. x.1) xs))
elemental_of elemental.Min xs = Ok (best lesser_of (map (λ x. x.1) xs))
elemental_of elemental.Iand xs = Ok (scalar.Int (and_of (integers xs 0) (integers xs 1)))
elemental_of elemental.Ior xs = Ok (scalar.Int (or_of (integers xs 0) (integers xs 1)))
elemental_of elemental.Ieor xs = Ok (scalar.Int (exclusive_or_of (integers xs 0) (integers xs 1)))
elemental_of elemental.Merge xs = Ok
    (merged (truth_of (argument_of nothing 2 xs)) (argument_of nothing 0 xs) (argument_of nothing 1 xs))
elemental_of elemental.Ichar xs = integer_or fault.CharRange (code_of (texts xs 0))
elemental_of elemental.Char xs = text_or fault.CharRange (char_of (integers xs 0))
elemental_of elemental.LenTrim xs = Ok (scalar.Int (pos (trimmed_length (texts xs 0))))
elemental_of elemental.Index xs = Ok (scalar.Int (pos (first_place (texts xs 0) (texts xs 1))))
elemental_of elemental.Adjustl xs = Ok (scalar.Text (adjust_left (texts xs 0)))
elemental_of elemental.Adjustr xs = Ok (scalar.Text (adjust_right (texts xs 0)))

-- the kind and the length of what a function gives, by those of its arguments
abbrev pub elemental_like : Elemental → List (ℕ × Scalar) → Scalar
elemental_like elemental.Merge likes = argument_of nothing 0 likes
elemental_like elemental.Char likes = scalar.Text (32 ∷ [])
elemental_like elemental.Adjustl likes = blank_like (argument_of nothing 0 likes)
elemental_like elemental.Adjustr likes = blank_like (argument_of nothing 0 likes)
elemental_like which likes = scalar.Int (pos 0)
