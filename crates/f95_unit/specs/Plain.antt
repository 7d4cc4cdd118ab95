-- The typed unit as plain data, in which a list inside a tree is a type of its own block. Meanings, predicates and laws stand on
-- this; `View` makes it of the unit that the code holds. Facts, operators and what else holds no tree are the code's own types.
use Rattle.std.specs.Prelude.{ℕ, Bool, Option, List}
use Rattle.a95_base.specs.declared.scalar.Scalar.{Scalar}
use Rattle.f95_unit.specs.declared.facts.Facts.{Facts}
use Rattle.f95_unit.specs.declared.operation.UnaryOp.{UnaryOp}
use Rattle.f95_unit.specs.declared.operation.BinaryOp.{BinaryOp}
use Rattle.f95_unit.specs.declared.operation.Elemental.{Elemental}
use Rattle.f95_unit.specs.declared.operation.Inquiry.{Inquiry}
use Rattle.f95_unit.specs.declared.operation.Reduction.{Reduction}
use Rattle.f95_unit.specs.declared.operation.Rearranging.{Rearranging}
use Rattle.f95_unit.specs.declared.stmt.Range.{Range}
use Rattle.f95_unit.specs.declared.unit.DeclaredType.{DeclaredType}
use Rattle.f95_unit.specs.declared.unit.Role.{Role}

-- ---- expressions

mutual
  pub data Expr : Type 0 where
    typed : (facts : Facts) (node : Node) → Expr

  pub data Node : Type 0 where
    Literal : Scalar → Node
    Constant : (number : ℕ) → Node
    Index : (level : ℕ) → Node
    Named : Designator → Node
    Brackets : Expr → Node
    Unary : UnaryOp → Expr → Node
    Binary : BinaryOp → Expr → Expr → Node
    Constructor : Items → Node
    Elementwise : Elemental → Arguments → Node
    Trim : Expr → Node
    Asked : Inquiry → (dim : Option ℕ) → Subject → Node
    Reduced : Reduction → (dim : Option ℕ) → Arguments → Node
    Rearranged : Rearranging → (dim : Option ℕ) → Arguments → Node
    Called : Call → Node

  -- a variable by its number, and what of it is named
  pub data Designator : Type 0 where
    at : (variable : ℕ) (access : Access) (part : Part) → Designator

  pub data Access : Type 0 where
    Whole : Access
    Subscripted : Subscripts → Access

  pub data Subscripts : Type 0 where
    no_subscript : Subscripts
    subscript : Subscript → Subscripts → Subscripts

  pub data Subscript : Type 0 where
    One : Expr → Subscript
    Vector : Expr → Subscript
    SubscriptTriplet : (first last stride : Bound) → Subscript

  pub data Bound : Type 0 where
    Absent : Bound
    Given : Expr → Bound

  -- the bytes of each element that are named
  pub data Part : Type 0 where
    AllOf : Part
    BytesOf : (first last : Bound) → Part

  -- the values of a constructor, implied DOs among them
  pub data Items : Type 0 where
    no_item : Items
    value : Expr → Items → Items
    loop : (body : Items) (first last : Expr) (step : Bound) (more : Items) → Items

  -- arguments in the order of the text, each with its place among the dummies
  pub data Arguments : Type 0 where
    no_argument : Arguments
    argument : (place : ℕ) → Expr → Arguments → Arguments

  pub data Subject : Type 0 where
    Name : (variable : ℕ) → Subject
    Of : Expr → Subject

  pub data Call : Type 0 where
    call : (procedure : ℕ) → Arguments → Call

-- ---- assignments

pub record Target : Type 0 where
  pub facts : Facts
  pub designator : Designator

pub record Assign : Type 0 where
  pub line : ℕ
  pub target : Target
  pub value : Expr

mutual
  pub data Where : Type 0 where
    masked : (line : ℕ) (mask : Expr) (body : MaskedBody) (others : Others) → Where

  pub data MaskedBody : Type 0 where
    no_masked : MaskedBody
    assigning : Assign → MaskedBody → MaskedBody
    narrowed : Where → MaskedBody → MaskedBody

  -- each ELSEWHERE, with its mask where it has one
  pub data Others : Type 0 where
    no_other : Others
    elsewhere : (line : ℕ) (mask : Option Expr) (body : MaskedBody) (more : Others) → Others

pub record Triplet : Type 0 where
  pub first : Expr
  pub last : Expr
  pub stride : Bound

pub record Forall : Type 0 where
  pub line : ℕ
  pub triplets : List Triplet
  pub mask : Option Expr
  pub body : List Assign

-- ---- statements

pub record Span : Type 0 where
  pub lower : Bound
  pub upper : Expr

pub record Allocation : Type 0 where
  pub variable : ℕ
  pub spans : List Span

mutual
  pub data Stmt : Type 0 where
    Assigns : Assign → Stmt
    Masks : Where → Stmt
    ForAll : Forall → Stmt
    Calls : (line : ℕ) → Call → Stmt
    Allocate : (line : ℕ) → List Allocation → Stmt
    Deallocate : (line : ℕ) → List ℕ → Stmt
    Print : (line : ℕ) → List Expr → Stmt
    Read : (line : ℕ) → List Target → Stmt
    If : Branches → (otherwise : Stmts) → Stmt
    Select : (line : ℕ) (selector : Expr) → Cases → (otherwise : Stmts) → Stmt
    Do : (line variable : ℕ) (first last : Expr) (step : Bound) (body : Stmts) → Stmt
    While : (line : ℕ) (condition : Expr) (body : Stmts) → Stmt
    Forever : (line : ℕ) (body : Stmts) → Stmt
    Exit : (line out : ℕ) → Stmt
    Cycle : (line out : ℕ) → Stmt
    Return : (line : ℕ) → Stmt
    Stop : (line : ℕ) → Stmt

  pub data Stmts : Type 0 where
    no_stmt : Stmts
    stmt : Stmt → Stmts → Stmts

  pub data Branches : Type 0 where
    no_branch : Branches
    branch : (line : ℕ) (condition : Expr) (body : Stmts) (more : Branches) → Branches

  pub data Cases : Type 0 where
    no_case : Cases
    case : (ranges : List Range) (body : Stmts) (more : Cases) → Cases

-- ---- the whole

pub data Bounds : Type 0 where
  Scalars : Bounds
  Explicit : List Span → Bounds
  Assumed : (lowers : List Bound) → Bounds
  Deferred : (rank : ℕ) → Bounds

pub record Entity : Type 0 where
  pub line : ℕ
  pub of : DeclaredType
  pub bounds : Bounds
  pub role : Role
  pub initial : Option Expr

pub record Procedure : Type 0 where
  pub line : ℕ
  pub recursive : Bool
  pub pure : Bool
  pub elemental : Bool
  pub entities : List Entity
  pub result : Option ℕ
  pub body : Stmts

pub record Program : Type 0 where
  pub constants : List Scalar
  pub main : Procedure
  pub procedures : List Procedure
