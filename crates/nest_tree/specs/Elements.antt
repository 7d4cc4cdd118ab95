-- Element trees: one value in a turn of the nest around, evaluated from left to right. They are defined over any state that has
-- cells, so that a law may leave the rest of the state out.
use Rattle.std.specs.Prelude.{ℕ, ℤ, pos, neg_ℤ, ◌-◌, ◌^◌, ◌+ℤ◌, ◌-ℤ◌, ◌*ℤ◌, int_div, int_le, int_lt, Bool, true, false, ◌&&◌}
use Rattle.std.specs.Prelude.{if◌then◌else◌, Option, Some, None, is_some, List, [], ◌∷◌, slice_get, slice_index_or}
use Rattle.std.specs.Int.{int_min, int_max}
use Rattle.std.specs.Ordering.{int_eq}
use Rattle.a95_base.specs.declared.scalar.Scalar.{Scalar}
use Rattle.a95_base.specs.declared.scalar.Scalar.TheVariants as scalar
use Rattle.a95_base.specs.Integer.{wrapped}
use Rattle.a95_base.specs.Steps.{pure, ◌>>=◌}
use Rattle.a95_base.specs.Text.{trim}
use Rattle.array_meaning.specs.Values.{nothing, integer_of, truth_of, text_of, length_of, size_of}
use Rattle.array_meaning.specs.Scalars.{unary_of, binary_of, elemental_of}
use Rattle.array_meaning.specs.State.{Dimension, extent_of, extents_of, Array, Variable}
use Rattle.nest_tree.specs.declared.tree.Blank.{Blank}
use Rattle.nest_tree.specs.declared.tree.Exact.{Exact}
use Rattle.nest_tree.specs.declared.tree.Exact.TheVariants as exact
use Rattle.nest_tree.specs.declared.tree.Question.{Question}
use Rattle.nest_tree.specs.declared.tree.Question.TheVariants as question
use Rattle.nest_tree.specs.Plain.{Tree, Literal, Number, Constant, Fixed, Read, Cell, Entry, Turn, Place, Asked, Unary, Binary}
use Rattle.nest_tree.specs.Plain.{Exactly, Wrapped, Each, Trim, Len, Applied, Trees, no_tree, tree, Guard}
use Rattle.nest_tree.specs.State.{Cells, StepOn, on, found, given, sees, block_in}
use Rattle.nest_tree.specs.Places.{at_turn, Aim, aimed, looked, cell_of, list_entry}

-- ---- exact integers

abbrev pub int : ℤ → Scalar
int z = scalar.Int z

abbrev pub least_exact : ℤ
least_exact = neg_ℤ (pos (2 ^ 63))

-- an exact integer has 64 bits
abbrev pub in_64_bits : ℤ → Option Scalar
in_64_bits z = if int_le least_exact z && int_lt z (pos (2 ^ 63)) then Some (int z) else None

abbrev pub exact_of : Exact → ℤ → ℤ → Option Scalar
exact_of exact.Plus x y = in_64_bits (x +ℤ y)
exact_of exact.Minus x y = in_64_bits (x -ℤ y)
exact_of exact.Times x y = in_64_bits (x *ℤ y)
exact_of exact.Over x y = if int_eq y (pos 0) then None else in_64_bits (int_div x y)
exact_of exact.Most x y = Some (int (int_max x y))
exact_of exact.Least x y = Some (int (int_min x y))
exact_of exact.Below x y = Some (scalar.Log (int_lt x y))
exact_of exact.AtMost x y = Some (scalar.Log (int_le x y))
exact_of exact.Same x y = Some (scalar.Log (int_eq x y))

-- ---- what is asked about an array

abbrev pub of_bounds : Variable → (Array → Option Scalar) → Option Scalar
of_bounds v f = on v.held f

abbrev pub of_found : (Dimension → ℤ) → Option Dimension → Option Scalar
of_found f None = None
of_found f (Some d) = Some (int (f d))

abbrev pub of_dimension : (Dimension → ℤ) → ℕ → Array → Option Scalar
of_dimension f dim a = of_found f (slice_get a.bounds (dim - 1))

abbrev pub answered : Question → Variable → Option Scalar
answered (question.Lower dim) v = of_bounds v (of_dimension (λ d. d.lower) dim)
answered (question.Upper dim) v = of_bounds v (of_dimension (λ d. d.upper) dim)
answered (question.Extent dim) v = of_bounds v (of_dimension (λ d. pos (extent_of d)) dim)
answered question.Size v = of_bounds v (λ a. Some (int (pos (size_of (extents_of a.bounds)))))
answered question.Length v = Some (int (pos (length_of v.blank)))
answered question.Allocated v = Some (scalar.Log (is_some v.held))

-- ---- trees

-- what a reference to an elemental function does: the block of its result, what that starts with, the procedure, the line, and
-- the arguments with their places
abbrev pub Application : Type 0 → Type 0
Application S = ℕ → Blank → ℕ → ℕ → List (ℕ × Scalar) → StepOn S Scalar

abbrev pub at_number : Aim → Scalar
at_number aim = int (pos aim.number)

module _ {S : Type 0} (cells : S → Cells) (constants : List Scalar) (applies : Application S) (line : ℕ) where
  abbrev mutual
    pub element : List ℕ → Tree → StepOn S Scalar
    element turn (Literal x) = pure x
    element turn (Number z) = pure (int z)
    element turn (Constant n) = pure (slice_index_or constants n nothing)
    element turn (Fixed k) = sees cells (λ m. Some (m.temps.setting.kept k))
    element turn (Read a) = sees cells (λ m. looked m turn a)
    element turn (Cell n t) = do
      i ← element turn t
      sees cells (λ m. cell_of (block_in m n) (integer_of i))
    element turn (Entry l t) = do
      i ← element turn t
      sees cells (list_entry l (integer_of i))
    element turn (Turn loop) = pure (int (pos (at_turn turn loop)))
    element turn (Place a) = sees cells (λ m. on (aimed m turn a) (λ aim. Some (at_number aim)))
    element turn (Asked q n) = sees cells (λ m. answered q (block_in m n))
    element turn (Unary op t) = do
      x ← element turn t
      pure (unary_of op x)
    element turn (Binary op t u) = do
      x ← element turn t
      y ← element turn u
      given line (binary_of op x y)
    element turn (Exactly op t u) = do
      x ← element turn t
      y ← element turn u
      found (exact_of op (integer_of x) (integer_of y))
    element turn (Wrapped t) = do
      x ← element turn t
      pure (int (wrapped (integer_of x)))
    element turn (Each which ts) = do
      xs ← elements turn ts
      given line (elemental_of which xs)
    element turn (Trim t) = do
      x ← element turn t
      pure (scalar.Text (trim (text_of x)))
    element turn (Len t) = do
      x ← element turn t
      pure (int (pos (length_of x)))
    element turn (Applied r blank p ts) = do
      xs ← elements turn ts
      applies r blank p line xs

    pub elements : List ℕ → Trees → StepOn S (List (ℕ × Scalar))
    elements turn no_tree = pure []
    elements turn (tree place t ts) = do
      x ← element turn t
      xs ← elements turn ts
      pure ((place, x) ∷ xs)

  -- the value where the guard is true
  abbrev pub where_true : List ℕ → Tree → Bool → StepOn S (Option Scalar)
  where_true turn t true = do
    x ← element turn t
    pure (Some x)
  where_true turn t false = pure None

module _ {S : Type 0} (cells : S → Cells) (constants : List Scalar) (applies : Application S) (line : ℕ) where
  -- the same where the value stands under a guard or none, which has a line of its own
  abbrev pub guarded : List ℕ → Option Guard → Tree → StepOn S (Option Scalar)
  guarded turn None t = where_true cells constants applies line turn t true
  guarded turn (Some guard) t = do
    b ← element cells constants applies guard.line turn guard.test
    where_true cells constants applies line turn t (truth_of b)
