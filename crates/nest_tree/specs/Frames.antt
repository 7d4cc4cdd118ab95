-- What statements leave alone: each array, scalar and list of the procedure that they don't store into, however they come out.
use Rattle.std.specs.Prelude.{◌≡◌, ℕ, Bool, true, false, Option, Some, None, List, [], ◌∷◌}
use Rattle.a95_base.specs.declared.scalar.Scalar.{Scalar}
use Rattle.nest_tree.specs.declared.access.Name.{Name}
use Rattle.nest_tree.specs.declared.access.Name.TheVariants as name
use Rattle.nest_tree.specs.Plain.{Tree, Literal, Number, Constant, Fixed, Read, Cell, Entry, Turn, Place, Asked, Unary, Binary}
use Rattle.nest_tree.specs.Plain.{Exactly, Wrapped, Each, Trim, Len, Applied, Trees, no_tree, tree, Guard, Passed, Value, Whole}
use Rattle.nest_tree.specs.Plain.{ResultIn, Statement, Set, Test, Store, StoreCell, Make, Grow, Rebound, Free, MakeList, StoreEntry}
use Rattle.nest_tree.specs.Plain.{FreeList, Nest, If, While, Call, Put, Write, Take, Skip, Exit, Cycle, Return, Stop, Statements}
use Rattle.nest_tree.specs.Plain.{no_statement, statement, NestUnit}
use Rattle.nest_tree.specs.State.{Memory, memory_of, NestState, block_in}
use Rattle.nest_tree.specs.Statements.{Given, Caller, all_act}
use Rattle.nest_tree.specs.Run.{called}

-- what a statement may store into
pub data Spot : Type 0 where
  ScalarAt : (number : ℕ) → Spot
  ListAt : (list : ℕ) → Spot
  ArrayAt : Name → Spot

-- ---- the spots of statements: each is one of those that are allowed

-- one of the spots that are allowed
abbrev pub Is : (Spot → Bool) → Spot → Type 0
Is allowed spot = allowed spot ≡ true

module _ (allowed : Spot → Bool) where
  abbrev mutual
    pub InTree : Tree → Type 0
    InTree (Literal x) = Unit {0}
    InTree (Number z) = Unit {0}
    InTree (Constant n) = Unit {0}
    InTree (Fixed k) = Unit {0}
    InTree (Read a) = Unit {0}
    InTree (Cell n t) = InTree t
    InTree (Entry l t) = InTree t
    InTree (Turn loop) = Unit {0}
    InTree (Place a) = Unit {0}
    InTree (Asked q n) = Unit {0}
    InTree (Unary op t) = InTree t
    InTree (Binary op t u) = InTree t × InTree u
    InTree (Exactly op t u) = InTree t × InTree u
    InTree (Wrapped t) = InTree t
    InTree (Each which ts) = InTrees ts
    InTree (Trim t) = InTree t
    InTree (Len t) = InTree t
    InTree (Applied r blank p ts) = Is allowed (ArrayAt (name.Temp r)) × InTrees ts

    pub InTrees : Trees → Type 0
    InTrees no_tree = Unit {0}
    InTrees (tree place t ts) = InTree t × InTrees ts

  abbrev pub InGuard : Option Guard → Type 0
  InGuard None = Unit {0}
  InGuard (Some guard) = InTree guard.test

  abbrev pub InPassed : List Passed → Type 0
  InPassed [] = Unit {0}
  InPassed (Value t ∷ more) = InTree t × InPassed more
  InPassed (Whole n ∷ more) = Is allowed (ArrayAt n) × InPassed more
  InPassed (ResultIn t ∷ more) = Is allowed (ArrayAt (name.Temp t)) × InPassed more

  abbrev mutual
    pub InStatement : Statement → Type 0
    InStatement (Set line k t) = Is allowed (ScalarAt k) × InTree t
    InStatement (Test line kind t) = InTree t
    InStatement (Store p) = Is allowed (ArrayAt p.target.name) × InGuard p.guard × InTree p.value
    InStatement (StoreCell line n t u) = Is allowed (ArrayAt n) × InTree t × InTree u
    InStatement (Make line b) = Is allowed (ArrayAt b.name)
    InStatement (Grow line n a) = Is allowed (ArrayAt n)
    InStatement (Rebound line n spans) = Is allowed (ArrayAt n)
    InStatement (Free line n) = Is allowed (ArrayAt n)
    InStatement (MakeList line l a) = Is allowed (ListAt l)
    InStatement (StoreEntry line l t u) = Is allowed (ListAt l) × InTree t × InTree u
    InStatement (FreeList line l) = Is allowed (ListAt l)
    InStatement (Nest own frame headers checks body) = InAll checks × InAll body
    InStatement (If line test yes_part no_part) = InTree test × InAll yes_part × InAll no_part
    InStatement (While line head test body) = InAll head × InTree test × InAll body
    InStatement (Call line p passed) = InPassed passed
    InStatement (Put line t) = InTree t
    InStatement Write = Unit {0}
    InStatement (Take line k read) = Is allowed (ScalarAt k)
    InStatement (Skip line read) = Unit {0}
    InStatement (Exit out) = Unit {0}
    InStatement (Cycle out) = Unit {0}
    InStatement Return = Unit {0}
    InStatement Stop = Unit {0}

    pub InAll : Statements → Type 0
    InAll no_statement = Unit {0}
    InAll (statement s more) = InStatement s × InAll more

-- ---- what stays

abbrev pub SameAt : Spot → Memory → Memory → Type 0
SameAt (ScalarAt k) m m' = m'.temps.setting.kept k ≡ m.temps.setting.kept k
SameAt (ListAt l) m m' = m'.temps.setting.lists l ≡ m.temps.setting.lists l
SameAt (ArrayAt n) m m' = block_in m' n ≡ block_in m n

-- a call leaves all that its caller has to the caller
pub record CallsApart (calls : Caller) : Type 0 where
  pub apart : (p line : ℕ) (givens : List (ℕ × Given)) (n : NestState)
      → memory_of (calls p line givens n).after.cells ≡ memory_of n.cells

abbrev pub CalledApart : Type 0
CalledApart = (unit : NestUnit) (depth : ℕ) → CallsApart (called unit depth)

-- what isn't among the spots of statements stays, for any calls that leave the caller's memory
abbrev pub OthersStay : Type 0
OthersStay = (constants : List Scalar) (calls : Caller) → CallsApart calls → (allowed : Spot
    → Bool) (turn : List ℕ) (body : Statements)
    → InAll allowed body → (spot : Spot) → allowed spot ≡ false → (n : NestState)
    → SameAt spot (memory_of n.cells) (memory_of (all_act constants calls turn body n).after.cells)
