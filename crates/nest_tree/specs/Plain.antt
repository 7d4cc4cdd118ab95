-- Trees, statements and units as plain data, in which a list inside a tree is a type of its own block. Meanings and laws stand on
-- this; `View` makes it of the unit that the code holds. What holds no tree is the code's own types.
use Rattle.std.specs.Prelude.{ℕ, ℤ, Bool, Option, List}
use Rattle.a95_base.specs.declared.fault.FaultKind.{FaultKind}
use Rattle.a95_base.specs.declared.scalar.Scalar.{Scalar}
use Rattle.f95_unit.specs.declared.operation.UnaryOp.{UnaryOp}
use Rattle.f95_unit.specs.declared.operation.BinaryOp.{BinaryOp}
use Rattle.f95_unit.specs.declared.operation.Elemental.{Elemental}
use Rattle.rank_shape.specs.Order.{Level}
use Rattle.nest_tree.specs.declared.access.Access.{Access}
use Rattle.nest_tree.specs.declared.access.Amount.{Amount}
use Rattle.nest_tree.specs.declared.access.Name.{Name}
use Rattle.nest_tree.specs.declared.frame.Header.{Header}
use Rattle.nest_tree.specs.declared.statement.Block.{Block}
use Rattle.nest_tree.specs.declared.statement.Span.{Span}
use Rattle.nest_tree.specs.declared.tree.Blank.{Blank}
use Rattle.nest_tree.specs.declared.tree.Exact.{Exact}
use Rattle.nest_tree.specs.declared.tree.Question.{Question}
use Rattle.nest_tree.specs.declared.unit.Declared.{Declared}
use Rattle.nest_tree.specs.declared.unit.Sort.{Sort}

-- ---- element trees

mutual
  pub data Tree : Type 0 where
    Literal : Scalar → Tree
    Number : ℤ → Tree
    Constant : (number : ℕ) → Tree
    Fixed : (number : ℕ) → Tree
    Read : Access → Tree
    Cell : Name → (number : Tree) → Tree
    Entry : (list : ℕ) (number : Tree) → Tree
    Turn : (loop : ℕ) → Tree
    Place : Access → Tree
    Asked : Question → Name → Tree
    Unary : UnaryOp → Tree → Tree
    Binary : BinaryOp → Tree → Tree → Tree
    Exactly : Exact → Tree → Tree → Tree
    Wrapped : Tree → Tree
    Each : Elemental → Trees → Tree
    Trim : Tree → Tree
    Len : Tree → Tree
    Applied : (result : ℕ) (blank : Blank) (procedure : ℕ) → Trees → Tree

  -- arguments in the order of the text, each with its place among the dummies
  pub data Trees : Type 0 where
    no_tree : Trees
    tree : (place : ℕ) → Tree → Trees → Trees

-- ---- statements

-- a mask that stands in the nest, with the line of its own statement
pub record Guard : Type 0 where
  pub line : ℕ
  pub test : Tree

pub record Piece : Type 0 where
  pub line : ℕ
  pub target : Access
  pub guard : Option Guard
  pub value : Tree

-- the loops of a nest
pub record Frame : Type 0 where
  pub extents : List Amount
  pub order : List Level

pub data Passed : Type 0 where
  Value : Tree → Passed
  Whole : Name → Passed
  ResultIn : (block : ℕ) → Passed

mutual
  pub data Statement : Type 0 where
    Set : (line number : ℕ) → Tree → Statement
    Test : (line : ℕ) (kind : FaultKind) → Tree → Statement
    Store : Piece → Statement
    StoreCell : (line : ℕ) → Name → (number value : Tree) → Statement
    Make : (line : ℕ) → Block → Statement
    Grow : (line : ℕ) → Name → Amount → Statement
    Rebound : (line : ℕ) → Name → List Span → Statement
    Free : (line : ℕ) → Name → Statement
    MakeList : (line list : ℕ) → Amount → Statement
    StoreEntry : (line list : ℕ) (number value : Tree) → Statement
    FreeList : (line list : ℕ) → Statement
    Nest : (own : Bool) → Frame → List Header → (checks body : Statements) → Statement
    If : (line : ℕ) (test : Tree) (yes_part no_part : Statements) → Statement
    While : (line : ℕ) (head : Statements) (test : Tree) (body : Statements) → Statement
    Call : (line procedure : ℕ) → List Passed → Statement
    Put : (line : ℕ) → Tree → Statement
    Write : Statement
    Take : (line number behind : ℕ) → Statement
    Skip : (line behind : ℕ) → Statement
    Exit : (out : ℕ) → Statement
    Cycle : (out : ℕ) → Statement
    Return : Statement
    Stop : Statement

  pub data Statements : Type 0 where
    no_statement : Statements
    statement : Statement → Statements → Statements

-- one list behind the other
abbrev pub joined : Statements → Statements → Statements
joined no_statement more = more
joined (statement s rest) more = statement s (joined rest more)

-- ---- the whole

pub record Procedure : Type 0 where
  pub line : ℕ
  pub variables : List Declared
  pub scalars : List Sort
  pub blocks : List Sort
  pub lists : ℕ
  pub body : Statements

pub record NestUnit : Type 0 where
  pub constants : List Scalar
  pub main : Procedure
  pub procedures : List Procedure
