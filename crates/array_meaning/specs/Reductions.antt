-- The functions that make one value of many elements, and those that ask for shapes and bounds. Each takes its arguments with
-- their places among the dummies. Along a dimension, a reduction is that of each line of elements along it.
use Rattle.std.specs.Prelude.{ℕ, ℤ, pos, negsuc, suc, ◌-◌, Bool, true, false, not, ◌&&◌, nat_eq, int_lt, if◌then◌else◌, Option}
use Rattle.std.specs.Prelude.{Some, None, List, [], ◌∷◌, ◌++◌, map, length, fold, filter, find, zip, drop, take, slice_index_or}
use Rattle.std.specs.Prelude.{Result, Ok, Err}
use Rattle.std.specs.List.{list_all, list_any}
use Rattle.a95_base.specs.declared.fault.FaultKind.{FaultKind}
use Rattle.a95_base.specs.declared.fault.FaultKind.TheVariants as fault
use Rattle.a95_base.specs.declared.scalar.Scalar.{Scalar}
use Rattle.a95_base.specs.declared.scalar.Scalar.TheVariants as scalar
use Rattle.a95_base.specs.Integer.{wrapped, sum_of, product_of, greater_of, lesser_of}
use Rattle.a95_base.specs.Lists.{count_to}
use Rattle.f95_unit.specs.declared.operation.Reduction.{Reduction}
use Rattle.f95_unit.specs.declared.operation.Reduction.TheVariants as reduction
use Rattle.f95_unit.specs.declared.operation.Inquiry.{Inquiry}
use Rattle.f95_unit.specs.declared.operation.Inquiry.TheVariants as inquiry
use Rattle.array_meaning.specs.Values.{Value, nothing, integer_of, truth_of, length_of, scalar_value, vector_value, size_of, places}
use Rattle.array_meaning.specs.Values.{at_place, by_place, entry, without, with_entry, within_limit, argument_of}
use Rattle.array_meaning.specs.State.{Dimension, extent_of, extents_of}

abbrev pub Arguments : Type 0
Arguments = List (ℕ × Value)

abbrev pub absent : Value
absent = scalar_value nothing

abbrev pub first_argument : Arguments → Value
first_argument xs = argument_of absent 0 xs

abbrev pub second_argument : Arguments → Value
second_argument xs = argument_of absent 1 xs

-- a MASK that isn't given is true everywhere
abbrev pub mask_of : ℕ → Arguments → Value
mask_of place xs = argument_of (scalar_value (scalar.Log true)) place xs

-- ---- of all elements, or of those along a dimension

-- the elements at these places where the mask is true
abbrev pub chosen : Value → Value → List (List ℕ) → List Scalar
chosen a mask ps = map (at_place a) (filter (λ p. truth_of (at_place mask p)) ps)

-- the places that differ from one in a dimension alone
abbrev pub along : ℕ → List ℕ → List ℕ → List (List ℕ)
along dim extents place = map (λ j. with_entry dim j place) (count_to (entry dim extents))

abbrev pub reduced : Scalar → (List Scalar → Scalar) → Option ℕ → Value → Value → Result Value FaultKind
reduced like f None a mask = Ok (scalar_value (f (chosen a mask (places a.extents))))
reduced like f (Some dim) a mask = within_limit
    (by_place like (without dim a.extents) (λ p. f (chosen a mask (along dim a.extents p))))

-- sums and products wrap, also where an operator's overflow is to be a fault; of no elements they are 0 and 1, the greatest is
-- the least integer and the least the greatest
abbrev pub folded : (ℤ → ℤ → ℤ) → ℤ → List Scalar → Scalar
folded f start xs = scalar.Int (fold (λ z x. f z (integer_of x)) start xs)

abbrev pub least_integer : ℤ
least_integer = negsuc 2147483647

abbrev pub greatest_integer : ℤ
greatest_integer = pos 2147483647

abbrev pub all_true : List Scalar → Scalar
all_true xs = scalar.Log (list_all truth_of xs)

abbrev pub any_true : List Scalar → Scalar
any_true xs = scalar.Log (list_any truth_of xs)

abbrev pub how_many : List Scalar → Scalar
how_many xs = scalar.Int (pos (length (filter truth_of xs)))

-- ---- the first place at which no other element is better

abbrev pub best_place : (ℤ → ℤ → Bool) → Value → List (List ℕ) → Option (List ℕ)
best_place beats a ps = find (λ p. list_all (λ q. not (beats (integer_of (at_place a q)) (integer_of (at_place a p)))) ps) ps

-- its subscripts, counted from 1, or zeros where there is none
abbrev pub from_one : List ℕ → Option (List ℕ) → List Scalar
from_one extents None = map (λ n. scalar.Int (pos 0)) extents
from_one extents (Some place) = map (λ i. scalar.Int (pos (suc i))) place

abbrev pub located : (ℤ → ℤ → Bool) → Value → Value → Result Value FaultKind
located beats a mask = Ok (vector_value (scalar.Int (pos 0))
    (from_one a.extents (best_place beats a (filter (λ p. truth_of (at_place mask p)) (places a.extents)))))

-- ---- products of vectors and of matrices: sums of products, or whether both are true somewhere

abbrev pub dot : Scalar → List (Scalar × Scalar) → Scalar
dot (scalar.Log b) pairs = scalar.Log (list_any (λ p. truth_of p.0 && truth_of p.1) pairs)
dot like pairs = scalar.Int (fold (λ z p. sum_of z (product_of (integer_of p.0) (integer_of p.1))) (pos 0) pairs)

abbrev pub rank : Value → ℕ
rank v = length v.extents

-- the element at a place is made of the row of the first and the column of the second that the place names; the last extent
-- of the first is the first extent of the second
abbrev pub product_at : Value → Value → ℕ → List ℕ → Scalar
product_at a b n p = dot a.like
    (map (λ j. (at_place a (take (rank a - 1) p ++ j ∷ []), at_place b (j ∷ drop (rank a - 1) p))) (count_to n))

abbrev pub matrix_product : Value → Value → Result Value FaultKind
matrix_product a b =
    if nat_eq (entry (rank a) a.extents) (entry 1 b.extents)
    then within_limit (by_place a.like (without (rank a) a.extents ++ without 1 b.extents) (product_at a b (entry 1 b.extents)))
    else Err fault.Shape

-- ---- all

abbrev pub reduction_of : Reduction → Option ℕ → Arguments → Result Value FaultKind
reduction_of reduction.Sum dim xs =
    reduced (scalar.Int (pos 0)) (folded sum_of (pos 0)) dim (first_argument xs) (mask_of 2 xs)
reduction_of reduction.Product dim xs =
    reduced (scalar.Int (pos 0)) (folded product_of (pos 1)) dim (first_argument xs) (mask_of 2 xs)
reduction_of reduction.Maxval dim xs =
    reduced (scalar.Int (pos 0)) (folded greater_of least_integer) dim (first_argument xs) (mask_of 2 xs)
reduction_of reduction.Minval dim xs =
    reduced (scalar.Int (pos 0)) (folded lesser_of greatest_integer) dim (first_argument xs) (mask_of 2 xs)
reduction_of reduction.All dim xs =
    reduced (scalar.Log false) all_true dim (first_argument xs) (scalar_value (scalar.Log true))
reduction_of reduction.Any dim xs =
    reduced (scalar.Log false) any_true dim (first_argument xs) (scalar_value (scalar.Log true))
reduction_of reduction.Count dim xs =
    reduced (scalar.Int (pos 0)) how_many dim (first_argument xs) (scalar_value (scalar.Log true))
reduction_of reduction.Maxloc dim xs = located (λ x y. int_lt y x) (first_argument xs) (mask_of 1 xs)
reduction_of reduction.Minloc dim xs = located (λ x y. int_lt x y) (first_argument xs) (mask_of 1 xs)
reduction_of reduction.DotProduct dim xs =
    Ok (scalar_value (dot (first_argument xs).like (zip (first_argument xs).elements (second_argument xs).elements)))
reduction_of reduction.Matmul dim xs = matrix_product (first_argument xs) (second_argument xs)

-- ---- inquiry

-- of a whole array the declared bounds; a dimension of extent 0 has 1 and 0
abbrev pub shown_lower : Dimension → ℤ
shown_lower d = if nat_eq (extent_of d) 0 then pos 1 else d.lower

abbrev pub shown_upper : Dimension → ℤ
shown_upper d = if nat_eq (extent_of d) 0 then pos 0 else d.upper

abbrev pub wrapped_value : ℤ → Value
wrapped_value z = scalar_value (scalar.Int (wrapped z))

-- one entry of a list, or all of them
abbrev pub entries : List ℤ → Option ℕ → Value
entries zs None = vector_value (scalar.Int (pos 0)) (map (λ z. scalar.Int (wrapped z)) zs)
entries zs (Some dim) = wrapped_value (slice_index_or zs (dim - 1) (pos 0))

abbrev pub inquired : Inquiry → Option ℕ → List Dimension → Scalar → Value
inquired inquiry.Size None bounds like = wrapped_value (pos (size_of (extents_of bounds)))
inquired inquiry.Size (Some dim) bounds like = wrapped_value (pos (entry dim (extents_of bounds)))
inquired inquiry.Shape dim bounds like = entries (map (λ d. pos (extent_of d)) bounds) None
inquired inquiry.Lbound dim bounds like = entries (map shown_lower bounds) dim
inquired inquiry.Ubound dim bounds like = entries (map shown_upper bounds) dim
inquired inquiry.Allocated dim bounds like = scalar_value (scalar.Log true)
inquired inquiry.Len dim bounds like = wrapped_value (pos (length_of like))
