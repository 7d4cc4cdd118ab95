-- What the variables and blocks of the machine have to do with a state of the nest run. An array that holds nothing and a block
-- that doesn't live are both None.
use Rattle.std.specs.Prelude.{◌≡◌, ◌≢◌, ℕ, suc, ◌+◌, ◌*◌, ◌<◌, ◌≤◌, ◌^◌, ℤ, pos, Bool, true, false, List, [], ◌∷◌, map, length, Option, Some, None, slice_get}
use Rattle.std.specs.Int.{w64, int_wrap}
use Rattle.a95_base.specs.declared.scalar.Scalar.{Scalar}
use Rattle.a95_base.specs.declared.scalar.Scalar.TheVariants as scalar
use Rattle.a95_base.specs.Integer.{wrapped}
use Rattle.a95_base.specs.Limits.{most_elements, longest_text}
use Rattle.a95_base.specs.Lists.{Every}
use Rattle.array_meaning.specs.Values.{integer_of, truth_of, text_of, length_of, size_of}
use Rattle.array_meaning.specs.State.{Dimension as Bounds, Array, extent_of, extents_of}
use Rattle.nest_tree.specs.declared.access.Name.{Name}
use Rattle.nest_tree.specs.declared.access.Name.TheVariants as name
use Rattle.nest_tree.specs.declared.unit.Sort.{Sort}
use Rattle.nest_tree.specs.declared.unit.Sort.TheVariants as sort
use Rattle.nest_tree.specs.Plain.{Procedure}
use Rattle.nest_tree.specs.State.{Memory, NestState, memory_of, block_in}
use Rattle.nest_tree.specs.Places.{at_turn, empty_like}
use Rattle.nest_tree.specs.Sound.{sort_of_name}
use Rattle.loop_tree.specs.State.{Cells, Ints, Texts, Block, cells_numbered}
use Rattle.loop_tree.specs.Values.{number_at, text_at, block_at}
use Rattle.loop_laws.specs.At.{Variables}
use Rattle.nest_emit.specs.Numbers.{array_number, array_count, lower_number, extent_number, length_number, scalar_number, leaving_number, first_free, loop_number}
use Rattle.nest_emit.specs.Trees.{number_for}

-- ---- values

-- a scalar is one of the sort; an INTEGER has 32 bits, and an exact integer 64
abbrev pub IsOf : Sort → Scalar → Type 0
IsOf sort.Exact x = (x ≡ scalar.Int (integer_of x)) × (int_wrap w64 (integer_of x) ≡ integer_of x)
IsOf sort.Int x = (x ≡ scalar.Int (integer_of x)) × (wrapped (integer_of x) ≡ integer_of x)
IsOf sort.Log x = x ≡ scalar.Log (truth_of x)
IsOf sort.Text x = x ≡ scalar.Text (text_of x)

-- the integer, or the text, that the machine has for a scalar of the sort
abbrev pub StandsFor : Sort → ℤ → List ℕ → Scalar → Type 0
StandsFor sort.Text z bytes x = bytes ≡ text_of x
StandsFor s z bytes x = z ≡ number_for x

pub record Shows (s : Sort) (z : ℤ) (bytes : List ℕ) (x : Scalar) : Type 0 where
  pub of : IsOf s x
  pub value : StandsFor s z bytes x

-- ---- arrays

abbrev pub cells_of : Sort → List Scalar → Cells
cells_of sort.Text xs = Texts (map text_of xs)
cells_of s xs = Ints (map number_for xs)

abbrev pub held : List Block → Option ℕ → Option Cells
held blocks None = None
held blocks (Some n) = cells_numbered blocks n

abbrev pub cells_held : Sort → Option Array → Option Cells
cells_held s None = None
cells_held s (Some a) = Some (cells_of s a.elements)

-- the references to blocks of integers, or those to blocks of texts
abbrev pub references : Sort → List (Option ℕ) → List (Option ℕ) → List (Option ℕ)
references sort.Text ints texts = texts
references s ints texts = ints

-- the block of an array of the sort
abbrev pub block_of : Sort → Variables → ℕ → Option ℕ
block_of s v array = block_at (references s v.int_blocks v.text_blocks) array

-- the bounds of the dimensions from this one on, an extent modulo 2 ^ 64
abbrev pub BoundsAt : List ℤ → ℕ → ℕ → List Bounds → Type 0
BoundsAt ints array dim [] = Unit {0}
BoundsAt ints array dim (d ∷ bounds) =
    (number_at ints (lower_number array dim) ≡ d.lower)
    × (number_at ints (extent_number array dim) ≡ int_wrap w64 (pos (extent_of d)))
    × BoundsAt ints array (suc dim) bounds

-- a lower bound and an extent that an integer of the machine holds
abbrev pub Narrow : Bounds → Type 0
Narrow d = (int_wrap w64 d.lower ≡ d.lower) × (extent_of d < 2 ^ 63)

-- what is held is whole, of its sort, and has its bounds in their variables
pub record Stands (s : Sort) (ints : List ℤ) (array : ℕ) (a : Array) : Type 0 where
  pub sized : length a.elements ≡ size_of (extents_of a.bounds)
  pub small : size_of (extents_of a.bounds) ≤ most_elements
  pub sorted : Every (IsOf s) a.elements
  pub rank : length a.bounds ≤ 7
  pub narrow : Every Narrow a.bounds
  pub bounds : BoundsAt ints array 0 a.bounds

abbrev pub StandsIf : Sort → List ℤ → ℕ → Option Array → Type 0
StandsIf s ints array None = Unit {0}
StandsIf s ints array (Some a) = Stands s ints array a

-- what is held in a declared variable of texts: each has the length of the variable, which stands in its integer
pub record Fitted (ints : List ℤ) (array : ℕ) (blank : Scalar) (a : Array) : Type 0 where
  pub text : blank ≡ scalar.Text (text_of blank)
  pub length : number_at ints (length_number array) ≡ pos (length_of blank)
  pub small : length_of blank ≤ longest_text
  pub elements : Every (λ x. length_of x ≡ length_of blank) a.elements

abbrev pub FittedIf : List ℤ → ℕ → Scalar → Option Array → Type 0
FittedIf ints array blank None = Unit {0}
FittedIf ints array blank (Some a) = Fitted ints array blank a

-- what a block that holds something grows by: zeros, or texts without characters
pub record Grows (s : Sort) (blank : Scalar) : Type 0 where
  pub of : IsOf s (empty_like blank)
  pub number : number_for (empty_like blank) ≡ pos 0
  pub text : text_of (empty_like blank) ≡ []

abbrev pub GrowsIf : Sort → Scalar → Option Array → Type 0
GrowsIf s blank None = Unit {0}
GrowsIf s blank (Some a) = Grows s blank

abbrev pub is_text : Option Sort → Bool
is_text (Some sort.Text) = true
is_text other = false

abbrev pub is_text_scalar : Scalar → Bool
is_text_scalar (scalar.Text bytes) = true
is_text_scalar other = false

-- the arrays of a procedure in their blocks. No number is given twice, so the blocks of two arrays are two, living or not
pub record Arrays (q : Procedure) (m : Memory) (v : Variables) : Type 0 where
  pub many : length m.variables ≡ length q.variables
  pub plain : (n : Name) (s : Sort) → sort_of_name q n ≡ Some s → is_text (Some s) ≡ false →
      is_text_scalar (block_in m n).blank ≡ false
  pub seen : (n : Name) (s : Sort) → sort_of_name q n ≡ Some s →
      held v.blocks (block_of s v (array_number q n)) ≡ cells_held s (block_in m n).held
  pub whole : (n : Name) (s : Sort) → sort_of_name q n ≡ Some s → StandsIf s v.ints (array_number q n) (block_in m n).held
  pub fitted : (i : ℕ) → sort_of_name q (name.Own i) ≡ Some sort.Text →
      FittedIf v.ints i (block_in m (name.Own i)).blank (block_in m (name.Own i)).held
  pub grows : (n : Name) (s : Sort) → sort_of_name q n ≡ Some s → GrowsIf s (block_in m n).blank (block_in m n).held
  pub apart : (n k : Name) (s r : Sort) (number : ℕ) → sort_of_name q n ≡ Some s → sort_of_name q k ≡ Some r →
      block_of s v (array_number q n) ≡ Some number → block_of r v (array_number q k) ≡ Some number → n ≡ k
  pub below : (n : Name) (s : Sort) (number : ℕ) → sort_of_name q n ≡ Some s →
      block_of s v (array_number q n) ≡ Some number → number < v.made

-- ---- the whole

-- where a run stands: within so many turns, of which at most so many are left
pub record Around : Type 0 where
  pub limit : ℕ
  pub most : ℕ

pub record Kin (q : Procedure) (around : Around) (n : NestState) (v : Variables) : Type 0 where
  pub scalars : (k : ℕ) (s : Sort) → slice_get q.scalars k ≡ Some s →
      Shows s (number_at v.ints (scalar_number q k)) (text_at v.texts (scalar_number q k)) (n.cells.temps.setting.kept k)
  pub arrays : Arrays q (memory_of n.cells) v
  pub pending : v.pending ≡ n.pending
  pub input : v.input ≡ n.cells.plain.input
  pub callers : v.callers ≡ []
  pub few : n.cells.plain.left ≤ around.most
  pub budget : around.limit ≤ n.cells.plain.left + n.entries

-- the loops of the innermost nest are at this turn
pub record AtTurn (nests loops : ℕ) (turn : List ℕ) (v : Variables) : Type 0 where
  pub each : (loop : ℕ) → 1 ≤ loop → loop ≤ loops → number_at v.indices (loop_number nests loop) ≡ pos (at_turn turn loop)
  pub small : (loop : ℕ) → 1 ≤ loop → loop ≤ loops → at_turn turn loop < 2 ^ 63

-- ---- what stays

-- what the lines of a tree leave alone: all but the variables from number t on
pub record Keeps (t : ℕ) (v w : Variables) : Type 0 where
  pub ints : (x : ℕ) → x < t → number_at w.ints x ≡ number_at v.ints x
  pub texts : (x : ℕ) → x < t → text_at w.texts x ≡ text_at v.texts x
  pub indices : w.indices ≡ v.indices
  pub line : w.line ≡ v.line

-- what the lines of a statement leave alone, within so many nests: what others hold for now below number t, and their loops
pub record Stays (q : Procedure) (nests t : ℕ) (v w : Variables) : Type 0 where
  pub ints : (x : ℕ) → x < t → first_free q ≤ x → number_at w.ints x ≡ number_at v.ints x
  pub indices : (x : ℕ) → x < 16 * nests → number_at w.indices x ≡ number_at v.indices x

-- all that the arrays of a state have to do with is as before, and all that its other parts have to do with
pub record SameArrays (q : Procedure) (v w : Variables) : Type 0 where
  pub ints : (x : ℕ) → x < 16 * array_count q → number_at w.ints x ≡ number_at v.ints x
  pub int_blocks : w.int_blocks ≡ v.int_blocks
  pub text_blocks : w.text_blocks ≡ v.text_blocks
  pub blocks : w.blocks ≡ v.blocks
  pub made : w.made ≡ v.made

pub record SameOthers (v w : Variables) : Type 0 where
  pub pending : w.pending ≡ v.pending
  pub input : w.input ≡ v.input
  pub callers : w.callers ≡ v.callers

pub record SameFor (q : Procedure) (v w : Variables) : Type 0 where
  pub ints : (x : ℕ) → x < leaving_number q → number_at w.ints x ≡ number_at v.ints x
  pub texts : (x : ℕ) → x < leaving_number q → text_at w.texts x ≡ text_at v.texts x
  pub int_blocks : w.int_blocks ≡ v.int_blocks
  pub text_blocks : w.text_blocks ≡ v.text_blocks
  pub blocks : w.blocks ≡ v.blocks
  pub made : w.made ≡ v.made
  pub others : SameOthers v w

-- all that scalar k of the lowering has nothing to do with is as before
pub record SameButScalar (q : Procedure) (k : ℕ) (v w : Variables) : Type 0 where
  pub ints : (x : ℕ) → x ≢ scalar_number q k → number_at w.ints x ≡ number_at v.ints x
  pub texts : (x : ℕ) → x ≢ scalar_number q k → text_at w.texts x ≡ text_at v.texts x
  pub int_blocks : w.int_blocks ≡ v.int_blocks
  pub text_blocks : w.text_blocks ≡ v.text_blocks
  pub blocks : w.blocks ≡ v.blocks
  pub made : w.made ≡ v.made
  pub others : SameOthers v w
