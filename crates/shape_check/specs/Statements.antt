-- The statements of a nested source as plain data, with all that this phase asks of them. Declarations are those of `names_types`.
use Rattle.std.specs.Prelude.{ℕ, Bool, List, map, Option}
use Rattle.f95_tree.specs.Forms.{Word}
use Rattle.names_types.specs.Plain.{Expr, Reference, Bound, Part, Procedure as Declared, Host as DeclaredHost}
use Rattle.names_types.specs.Plain.{Module as DeclaredModule, Source as DeclaredSource}

-- ---- actions

pub record Assignment : Type 0 where
  pub to : Reference
  pub value : Expr

-- with its keyword, where it has one
pub record Actual : Type 0 where
  pub keyword : Option Word
  pub value : Expr

pub record Span : Type 0 where
  pub lower : Bound
  pub upper : Expr

pub record Allocation : Type 0 where
  pub name : Word
  pub spans : List Span

pub record Index : Type 0 where
  pub name : Word
  pub first : Expr
  pub last : Expr
  pub stride : Bound

pub record Header : Type 0 where
  pub indices : List Index
  pub mask : Option Expr

-- an assignment at its line
pub record Sited : Type 0 where
  pub line : ℕ
  pub of : Assignment

pub data Action : Type 0 where
  Assign : Assignment → Action
  CallOf : Word → List Actual → Action
  Allocate : List Allocation → Action
  Deallocate : List Word → Action
  Print : List Expr → Action
  Read : List Reference → Action
  Stop : Action
  Return : Action
  Continue : Action
  Exit : Option Word → Action
  Cycle : Option Word → Action
  WhereOne : Expr → Assignment → Action
  ForallOne : Header → Assignment → Action

-- ---- blocks

mutual
  pub data WhereBlock : Type 0 where
    where_block : (line : ℕ) (mask : Expr) (body : Masked) (others : Others) → WhereBlock

  pub data Masked : Type 0 where
    no_masked : Masked
    assigning : Sited → Masked → Masked
    narrowed : WhereBlock → Masked → Masked

  pub data Others : Type 0 where
    no_other : Others
    elsewhere : (line : ℕ) (mask : Option Expr) (body : Masked) (more : Others) → Others

pub data CaseRange : Type 0 where
  One : Expr → CaseRange
  From : Expr → CaseRange
  UpTo : Expr → CaseRange
  Between : (lower upper : Expr) → CaseRange

pub data Control : Type 0 where
  Forever : Control
  Counted : (variable : Word) (first last : Expr) (step : Bound) → Control
  While : Expr → Control

mutual
  pub data Stmt : Type 0 where
    Act : (line : ℕ) → Action → Stmt
    IfOne : (line : ℕ) → Expr → Action → Stmt
    If : Branches → (otherwise : Stmts) → Stmt
    Select : (line : ℕ) (selector : Expr) → Cases → Stmt
    Do : (line : ℕ) (name : Option Word) → Control → (body : Stmts) → Stmt
    Where : WhereBlock → Stmt
    Forall : (line : ℕ) → Header → List Sited → Stmt

  pub data Stmts : Type 0 where
    no_stmt : Stmts
    stmt : Stmt → Stmts → Stmts

  -- IF and each ELSE IF
  pub data Branches : Type 0 where
    no_branch : Branches
    branch : (line : ℕ) (condition : Expr) (body : Stmts) (more : Branches) → Branches

  -- no ranges stand for DEFAULT
  pub data Cases : Type 0 where
    no_case : Cases
    case : (line : ℕ) (ranges : Option (List CaseRange)) (body : Stmts) (more : Cases) → Cases

-- ---- units

pub record Procedure : Type 0 where
  pub declared : Declared
  pub recursive : Bool
  pub pure : Bool
  pub elemental : Bool
  pub body : Stmts

pub record Module : Type 0 where
  pub name : Word
  pub part : Part
  pub procedures : List Procedure

-- the line is that of the first statement of the main program
pub record Source : Type 0 where
  pub modules : List Module
  pub line : ℕ
  pub part : Part
  pub body : Stmts
  pub procedures : List Procedure

-- ---- the same without statements, as the rules on names see it

abbrev pub host_of : Part → List Procedure → DeclaredHost
host_of part procedures = record { part = part; procedures = map (λ (p : Procedure). p.declared) procedures }

abbrev pub module_of : Module → DeclaredModule
module_of m = record { name = m.name; host = host_of m.part m.procedures }

abbrev pub declared_source : Source → DeclaredSource
declared_source s = record { modules = map module_of s.modules; main = host_of s.part s.procedures }
