-- Array values: the extents, and the elements in array element order, in which the first subscript varies fastest. A scalar is
-- a value without extents. A place of an array is the list of its subscripts, counted from 0. An array value has at most 2^24
-- elements: what makes one tests it. Where a unit isn't well typed a definition gives anything; no sentence on a source rests on
-- that.
use Rattle.std.specs.Prelude.{ℕ, ℤ, pos, ◌+◌, ◌*◌, ◌-◌, Bool, true, false, nat_eq, nat_le, if◌then◌else◌, List, [], ◌∷◌, map}
use Rattle.std.specs.Prelude.{length, replicate, slice_index_or, insert, remove, flat_map, Result, Ok, Err}
use Rattle.std.specs.Cmp.Lexicographic.{pointwise}
use Rattle.a95_base.specs.declared.fault.FaultKind.{FaultKind}
use Rattle.a95_base.specs.declared.fault.FaultKind.TheVariants as fault
use Rattle.a95_base.specs.declared.scalar.Scalar.{Scalar}
use Rattle.a95_base.specs.declared.scalar.Scalar.TheVariants as scalar
use Rattle.a95_base.specs.declared.scalar.Kind.{Kind}
use Rattle.a95_base.specs.declared.scalar.Kind.TheVariants as kind
use Rattle.a95_base.specs.Limits.{most_elements}
use Rattle.a95_base.specs.Lists.{count_to}

-- ---- scalars

-- what stands where a unit that isn't well typed has no value
abbrev pub nothing : Scalar
nothing = scalar.Int (pos 0)

abbrev pub integer_of : Scalar → ℤ
integer_of (scalar.Int z) = z
integer_of other = pos 0

abbrev pub truth_of : Scalar → Bool
truth_of (scalar.Log b) = b
truth_of other = false

abbrev pub text_of : Scalar → List ℕ
text_of (scalar.Text bytes) = bytes
text_of other = []

-- LEN
abbrev pub length_of : Scalar → ℕ
length_of x = length (text_of x)

-- what a variable without initial value starts with: 0, false, or blanks
abbrev pub blank_of : Kind → ℕ → Scalar
blank_of kind.Int n = scalar.Int (pos 0)
blank_of kind.Log n = scalar.Log false
blank_of kind.Text n = scalar.Text (replicate n 32)

-- the same for a variable of the kind and the length of a value
abbrev pub blank_like : Scalar → Scalar
blank_like (scalar.Int z) = blank_of kind.Int 0
blank_like (scalar.Log b) = blank_of kind.Log 0
blank_like (scalar.Text bytes) = blank_of kind.Text (length bytes)

-- ---- arrays

-- `like` has the kind and the length of the elements, which a value without elements has too
pub record Value : Type 0 where
  pub extents : List ℕ
  pub like : Scalar
  pub elements : List Scalar

abbrev pub scalar_value : Scalar → Value
scalar_value x = record { extents = []; like = x; elements = x ∷ [] }

abbrev pub vector_value : Scalar → List Scalar → Value
vector_value like xs = record { extents = length xs ∷ []; like = like; elements = xs }

-- the number of elements
abbrev pub size_of : List ℕ → ℕ
size_of [] = 1
size_of (n ∷ extents) = n * size_of extents

abbrev pub is_scalar : List ℕ → Bool
is_scalar [] = true
is_scalar (n ∷ extents) = false

abbrev pub is_shape : List ℕ → List ℕ → Bool
is_shape extents other = pointwise nat_eq extents other

-- the element with a number in array element order; a scalar stands for as many elements as are asked for
abbrev pub element_of : Value → ℕ → Scalar
element_of v k = slice_index_or v.elements (if is_scalar v.extents then 0 else k) v.like

-- the value of a scalar
abbrev pub only : Value → Scalar
only v = element_of v 0

-- ---- places

-- each way to choose one of each list, those of the first list fastest
abbrev pub choices : {A : Type 0} → List (List A) → List (List A)
choices [] = [] ∷ []
choices (xs ∷ more) = flat_map (λ ys. map (λ x. x ∷ ys) xs) (choices more)

-- the places of an array, in array element order
abbrev pub places : List ℕ → List (List ℕ)
places extents = choices (map count_to extents)

-- the number of a place in array element order
abbrev pub number_of : List ℕ → List ℕ → ℕ
number_of (n ∷ extents) (i ∷ place) = i + n * number_of extents place
number_of extents place = 0

abbrev pub at_place : Value → List ℕ → Scalar
at_place v place = element_of v (number_of v.extents place)

-- the array with what f gives at each place
abbrev pub by_place : Scalar → List ℕ → (List ℕ → Scalar) → Value
by_place like extents f = record { extents = extents; like = like; elements = map f (places extents) }

-- a dimension, counted from 1: its entry, the list without it, and the list with an entry put in there
abbrev pub entry : ℕ → List ℕ → ℕ
entry dim xs = slice_index_or xs (dim - 1) 0

abbrev pub without : ℕ → List ℕ → List ℕ
without dim xs = remove xs (dim - 1)

abbrev pub with_entry : ℕ → ℕ → List ℕ → List ℕ
with_entry dim x xs = insert xs (dim - 1) x

-- ---- tests

-- two shapes conform where they are equal or one is that of a scalar
abbrev pub joint : List ℕ → List ℕ → Result (List ℕ) FaultKind
joint [] other = Ok other
joint (n ∷ extents) [] = Ok (n ∷ extents)
joint (n ∷ extents) (m ∷ other) = if is_shape (n ∷ extents) (m ∷ other) then Ok (n ∷ extents) else Err fault.Shape

-- an array has at most so many elements
abbrev pub within_limit : Value → Result Value FaultKind
within_limit v = if nat_le (size_of v.extents) most_elements then Ok v else Err fault.TooLarge

-- the argument with a place
abbrev pub argument_of : {A : Type 0} → A → ℕ → List (ℕ × A) → A
argument_of absent place [] = absent
argument_of absent place (a ∷ more) = if nat_eq a.0 place then a.1 else argument_of absent place more

abbrev pub has_argument : {A : Type 0} → ℕ → List (ℕ × A) → Bool
has_argument place [] = false
has_argument place (a ∷ more) = if nat_eq a.0 place then true else has_argument place more
