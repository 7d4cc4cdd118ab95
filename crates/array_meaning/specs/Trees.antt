-- The element tree of an expression: what is left when its parts are evaluated. Its leaves are values. It has a shape, if its
-- values conform, and gives one element after the other.
use Rattle.std.specs.Prelude.{ℕ, zero, suc, Bool, true, false, Option, Some, None, List, [], ◌∷◌, map, Result, Ok, Err}
use Rattle.a95_base.specs.declared.fault.FaultKind.{FaultKind}
use Rattle.a95_base.specs.declared.scalar.Scalar.{Scalar}
use Rattle.a95_base.specs.Steps.{pure, ◌>>=◌}
use Rattle.f95_unit.specs.declared.operation.UnaryOp.{UnaryOp}
use Rattle.f95_unit.specs.declared.operation.BinaryOp.{BinaryOp}
use Rattle.f95_unit.specs.declared.operation.Elemental.{Elemental}
use Rattle.array_meaning.specs.Values.{Value, scalar_value, size_of, element_of, joint}
use Rattle.array_meaning.specs.Scalars.{unary_of, binary_of, unary_like, binary_like, elemental_of, elemental_like}
use Rattle.array_meaning.specs.State.{Step, given}
use Rattle.array_meaning.specs.Sections.{Section}

-- a leaf that was read from a designator keeps the section: an actual argument asks for it
mutual
  pub data Tree : Type 0 where
    Held : Value → Option Section → Tree
    UnaryOf : UnaryOp → Tree → Tree
    BinaryOf : BinaryOp → Tree → Tree → Tree
    Each : Elemental → Trees → Tree
    CallEach : (procedure : ℕ) (like : Scalar) → Trees → Tree

  pub data Trees : Type 0 where
    no_tree : Trees
    tree : (place : ℕ) → Tree → Trees → Trees

abbrev pub held : Value → Tree
held v = Held v None

-- in brackets a designator is a value
abbrev pub bracketed : Tree → Tree
bracketed (Held v section) = Held v None
bracketed other = other

-- what a call is given: a value, and the section of a designator that stands by itself
pub record Passed : Type 0 where
  pub value : Value
  pub section : Option Section

abbrev pub passed_value : Value → Passed
passed_value v = record { value = v; section = None }

abbrev pub section_of_leaf : Tree → Option Section
section_of_leaf (Held v section) = section
section_of_leaf other = None

-- what a call does, for its procedure, its line and its actuals with their places: its value is that of a function
abbrev pub Caller : Type 0
Caller = ℕ → ℕ → List (ℕ × Passed) → Step Value

-- ---- the shape, or the fault where two shapes don't conform

abbrev pub joined_shapes : Result (List ℕ) FaultKind → Result (List ℕ) FaultKind → Result (List ℕ) FaultKind
joined_shapes (Err kind) other = Err kind
joined_shapes (Ok extents) (Err kind) = Err kind
joined_shapes (Ok extents) (Ok other) = joint extents other

abbrev mutual
  pub shape : Tree → Result (List ℕ) FaultKind
  shape (Held v section) = Ok v.extents
  shape (UnaryOf op t) = shape t
  shape (BinaryOf op t u) = joined_shapes (shape t) (shape u)
  shape (Each which ts) = shapes ts
  shape (CallEach p like ts) = shapes ts

  pub shapes : Trees → Result (List ℕ) FaultKind
  shapes no_tree = Ok []
  shapes (tree place t ts) = joined_shapes (shape t) (shapes ts)

-- ---- the kind and the length of the elements

abbrev mutual
  pub like : Tree → Scalar
  like (Held v section) = v.like
  like (UnaryOf op t) = unary_like op (like t)
  like (BinaryOf op t u) = binary_like op (like t) (like u)
  like (Each which ts) = elemental_like which (likes ts)
  like (CallEach p x ts) = x

  pub likes : Trees → List (ℕ × Scalar)
  likes no_tree = []
  likes (tree place t ts) = (place, like t) ∷ likes ts

-- ---- one element, from left to right

abbrev pub passed_scalars : List (ℕ × Scalar) → List (ℕ × Passed)
passed_scalars xs = map (λ x. (x.0, passed_value (scalar_value x.1))) xs

module _ (calls : Caller) (line : ℕ) where
  abbrev mutual
    pub element : Tree → ℕ → Step Scalar
    element (Held v section) k = pure (element_of v k)
    element (UnaryOf op t) k = do
      x ← element t k
      pure (unary_of op x)
    element (BinaryOf op t u) k = do
      x ← element t k
      y ← element u k
      given line (binary_of op x y)
    element (Each which ts) k = do
      xs ← elements ts k
      given line (elemental_of which xs)
    element (CallEach p x ts) k = do
      xs ← elements ts k
      v ← calls p line (passed_scalars xs)
      pure (element_of v 0)

    pub elements : Trees → ℕ → Step (List (ℕ × Scalar))
    elements no_tree k = pure []
    elements (tree place t ts) k = do
      x ← element t k
      xs ← elements ts k
      pure ((place, x) ∷ xs)

  -- so many elements, from a number on
  unfoldable pub all_from : ℕ → ℕ → Tree → Step (List Scalar)
  all_from k zero t = pure []
  all_from k (suc n) t = do
    x ← element t k
    xs ← all_from (suc k) n t
    pure (x ∷ xs)

  -- the elements at the true places of a mask alone
  unfoldable pub masked_from : ℕ → List Bool → Tree → Step (List (Option Scalar))
  masked_from k [] t = pure []
  masked_from k (true ∷ mask) t = do
    x ← element t k
    xs ← masked_from (suc k) mask t
    pure (Some x ∷ xs)
  masked_from k (false ∷ mask) t = do
    xs ← masked_from (suc k) mask t
    pure (None ∷ xs)

  -- the elements of two arrays, place by place
  unfoldable pub pairs_from : ℕ → ℕ → Tree → Tree → Step (List (Scalar × Scalar))
  pairs_from k zero t u = pure []
  pairs_from k (suc n) t u = do
    x ← element t k
    y ← element u k
    more ← pairs_from (suc k) n t u
    pure ((x, y) ∷ more)

  -- the whole value: the shape, then all elements
  unfoldable pub whole : Tree → Step Value
  whole t = do
    extents ← given line (shape t)
    xs ← all_from 0 (size_of extents) t
    pure (record { extents = extents; like = like t; elements = xs })

  -- an expression's value, from its parts on
  abbrev pub valued : Step Tree → Step Value
  valued parts = do
    t ← parts
    whole t

  abbrev pub passed : Step Tree → Step Passed
  passed parts = do
    t ← parts
    v ← whole t
    pure (record { value = v; section = section_of_leaf t })

  -- two arrays of one reduction: the parts of both, the shapes, then place by place
  abbrev pub paired : ℕ → ℕ → Step Tree → Step Tree → Step (List (ℕ × Value))
  paired place other first second = do
    t ← first
    u ← second
    extents ← given line (joined_shapes (shape t) (shape u))
    both ← pairs_from 0 (size_of extents) t u
    pure ((place, record { extents = extents; like = like t; elements = map (λ p. p.0) both })
        ∷ (other, record { extents = extents; like = like u; elements = map (λ p. p.1) both }) ∷ [])
