-- The functions that put elements into other places: each says which element stands at a place of the result.
use Rattle.std.specs.Prelude.{ℕ, ℤ, pos, suc, ◌-◌, ◌%◌, ◌+ℤ◌, Bool, true, false, not, ◌&&◌, ◌||◌, nat_eq, nat_lt, int_lt, int_le}
use Rattle.std.specs.Prelude.{unsigned_abs, if◌then◌else◌, Option, Some, None, List, [], ◌++◌, map, length, filter, take, drop}
use Rattle.std.specs.Prelude.{reverse, slice_index_or, Result, Ok, Err}
use Rattle.std.specs.List.{list_all, list_any}
use Rattle.std.specs.Int.{int_rem_euclid}
use Rattle.std.specs.Ordering.{int_eq}
use Rattle.a95_base.specs.declared.fault.FaultKind.{FaultKind}
use Rattle.a95_base.specs.declared.fault.FaultKind.TheVariants as fault
use Rattle.a95_base.specs.declared.scalar.Scalar.{Scalar}
use Rattle.a95_base.specs.Lists.{count_to}
use Rattle.f95_unit.specs.declared.operation.Rearranging.{Rearranging}
use Rattle.f95_unit.specs.declared.operation.Rearranging.TheVariants as rearranging
use Rattle.array_meaning.specs.Values.{Value, nothing, integer_of, truth_of, blank_like, scalar_value, vector_value, size_of}
use Rattle.array_meaning.specs.Values.{element_of, only, places, number_of, at_place, by_place, entry, without, with_entry, joint}
use Rattle.array_meaning.specs.Values.{within_limit, argument_of, has_argument}
use Rattle.array_meaning.specs.Reductions.{Arguments, absent, first_argument, second_argument, chosen}

-- an INTEGER argument that is a scalar
abbrev pub number_at : ℕ → Arguments → ℤ
number_at place xs = integer_of (only (argument_of absent place xs))

abbrev pub dim_or_one : Option ℕ → ℕ
dim_or_one None = 1
dim_or_one (Some dim) = dim

-- element (i, j) is element (j, i)
abbrev pub transposed : Value → Value
transposed a = by_place a.like (reverse a.extents) (λ p. at_place a (reverse p))

-- along a dimension, element i is element i + shift, round the end
abbrev pub round : ℤ → ℕ → ℕ
round i n = unsigned_abs (int_rem_euclid i (pos n))

abbrev pub cyclically_shifted : Value → ℤ → ℕ → Value
cyclically_shifted a shift dim =
    by_place a.like a.extents
    (λ p. at_place a (with_entry dim (round (pos (entry dim p) +ℤ shift) (entry dim a.extents)) (without dim p)))

-- along a dimension, element i is element i + shift where there is one, else the boundary
abbrev pub element_or : Scalar → Value → ℕ → ℤ → List ℕ → Scalar
element_or boundary a dim i p =
    if int_le (pos 0) i && int_lt i (pos (entry dim a.extents)) then at_place a (with_entry dim (unsigned_abs i) p) else boundary

abbrev pub shifted_off : Value → ℤ → Scalar → ℕ → Value
shifted_off a shift boundary dim = by_place a.like a.extents
    (λ p. element_or boundary a dim (pos (entry dim p) +ℤ shift) (without dim p))

-- copies along a new dimension
abbrev pub copies_along : Value → ℕ → ℕ → Value
copies_along a dim n = by_place a.like (with_entry dim n a.extents) (λ p. at_place a (without dim p))

-- MAX(z, 0)
abbrev pub at_least_none : ℤ → ℕ
at_least_none z = if int_lt z (pos 0) then 0 else unsigned_abs z

-- ---- PACK and UNPACK

-- the elements where the mask is true, then the last elements of VECTOR, so that there are as many as VECTOR has
abbrev pub packed_into : Value → List Scalar → Value → Result Value FaultKind
packed_into a xs vector =
    if nat_lt (length vector.elements) (length xs) then Err fault.Argument else Ok
    (vector_value a.like (xs ++ drop (length xs) vector.elements))

abbrev pub conforming : Result (List ℕ) FaultKind → Result Value FaultKind → Result Value FaultKind
conforming (Err kind) value = Err kind
conforming (Ok extents) value = value

abbrev pub packed_or_filled : Value → List Scalar → Arguments → Result Value FaultKind
packed_or_filled a picked xs = if has_argument 2 xs then packed_into a picked (argument_of absent 2 xs) else Ok
    (vector_value a.like picked)

abbrev pub packed : Value → Value → Arguments → Result Value FaultKind
packed a mask xs = conforming (joint a.extents mask.extents) (packed_or_filled a (chosen a mask (places a.extents)) xs)

-- where the mask is true, the next element of VECTOR: the one behind as many as there are trues before; else FIELD's
abbrev pub unpacked_at : Value → List Bool → Value → ℕ → Scalar
unpacked_at vector mask field k =
    if slice_index_or mask k false then element_of vector (length (filter (λ b. b) (take k mask))) else element_of field k

abbrev pub unpacked_by : Value → List ℕ → List Bool → Value → Result Value FaultKind
unpacked_by vector extents truths field =
    if nat_lt (length vector.elements) (length (filter (λ b. b) truths)) then Err fault.Argument
    else Ok (record {
      extents = extents;
      like = vector.like;
      elements = map (unpacked_at vector truths field)
          (count_to (length truths));
    })

abbrev pub unpacked : Value → Value → Value → Result Value FaultKind
unpacked vector mask field = conforming (joint mask.extents field.extents)
    (unpacked_by vector mask.extents (map truth_of mask.elements) field)

-- ---- RESHAPE

-- the numbers from 1 to n, each once
abbrev pub is_order : ℕ → List ℤ → Bool
is_order n order = nat_eq (length order) n && list_all (λ d. list_any (int_eq (pos (suc d))) order) (count_to n)

-- the entries in this order of the dimensions
abbrev pub by_order : List ℕ → List ℕ → List ℕ
by_order order xs = map (λ d. entry d xs) order

-- the element with a number of SOURCE, and then of PAD again and again
abbrev pub source_or_pad : Value → Value → ℕ → Scalar
source_or_pad source pad k =
    if nat_lt k (length source.elements) then element_of source k
    else element_of pad ((k - length source.elements) % length pad.elements)

-- the dimension that ORDER names first varies fastest
abbrev pub reshaped : Value → List ℕ → Value → List ℕ → Value
reshaped source extents pad order =
    by_place source.like extents (λ p. source_or_pad source pad (number_of (by_order order extents) (by_order order p)))

abbrev pub reshape_checked : Value → List ℤ → Value → List ℤ → Result Value FaultKind
reshape_checked source shape pad order =
    if list_any (λ z. int_lt z (pos 0)) shape || not (is_order (length shape) order)
    || (nat_lt (length source.elements) (size_of (map unsigned_abs shape)) && nat_eq (length pad.elements) 0)
    then Err fault.Argument
    else within_limit (reshaped source (map unsigned_abs shape) pad (map unsigned_abs order))

abbrev pub integers_of : Value → List ℤ
integers_of v = map integer_of v.elements

-- without ORDER the dimensions stand in their own order
abbrev pub order_or_own : ℕ → Bool → Value → List ℤ
order_or_own n true order = integers_of order
order_or_own n false order = map (λ d. pos (suc d)) (count_to n)

abbrev pub no_elements : Value
no_elements = vector_value nothing []

-- ---- all

-- BOUNDARY, or what a variable starts with
abbrev pub boundary_of : Arguments → Scalar
boundary_of xs = only (argument_of (scalar_value (blank_like (first_argument xs).like)) 2 xs)

abbrev pub rearrangement_of : Rearranging → Option ℕ → Arguments → Result Value FaultKind
rearrangement_of rearranging.Transpose dim xs = Ok (transposed (first_argument xs))
rearrangement_of rearranging.Cshift dim xs =
    Ok (cyclically_shifted (first_argument xs) (number_at 1 xs) (dim_or_one dim))
rearrangement_of rearranging.Eoshift dim xs =
    Ok (shifted_off (first_argument xs) (number_at 1 xs) (boundary_of xs) (dim_or_one dim))
rearrangement_of rearranging.Spread dim xs =
    within_limit (copies_along (first_argument xs) (dim_or_one dim) (at_least_none (number_at 2 xs)))
rearrangement_of rearranging.Pack dim xs = packed (first_argument xs) (second_argument xs) xs
rearrangement_of rearranging.Unpack dim xs = unpacked (first_argument xs) (second_argument xs) (argument_of absent 2 xs)
rearrangement_of rearranging.Reshape dim xs =
    reshape_checked (first_argument xs) (integers_of (second_argument xs)) (argument_of no_elements 2 xs)
    (order_or_own (length (second_argument xs).elements) (has_argument 3 xs) (argument_of absent 3 xs))
