-- The nested source as plain data, in which a list inside a tree is a type of its own block: what this phase looks at. Definitions,
-- rules and laws stand on this; `View` makes it of the nested source. Of statements only the names stand here that they name.
use Rattle.std.specs.Prelude.{ℕ, ℤ, List, Option}
use Rattle.a95_base.specs.declared.scalar.Scalar.{Scalar}
use Rattle.f95_tree.specs.Forms.{Word}
use Rattle.f95_tree.specs.declared.terminal.Operator.{Operator}
use Rattle.f95_tree.specs.declared.terminal.Sign.{Sign}
use Rattle.f95_tree.specs.declared.declaration.Intent.{Intent}
use Rattle.names_types.specs.declared.mention.Mention.{Mention}

-- ---- expressions

mutual
  pub data Expr : Type 0 where
    Literal : Scalar → Expr
    Named : Reference → Expr
    Bracketed : Expr → Expr
    Constructor : Values → Expr
    Signed : Sign → Expr → Expr
    Binary : Operator → Expr → Expr → Expr

  -- a name alone, with what stands in brackets behind it, and with a substring behind that
  pub data Reference : Type 0 where
    Whole : Word → Reference
    Applied : Word → Items → Reference
    Substring : Word → Items → (lower upper : Bound) → Reference

  pub data Bound : Type 0 where
    Absent : Bound
    Given : Expr → Bound

  pub data Items : Type 0 where
    no_item : Items
    plain : Expr → Items → Items
    keyword : Word → Expr → Items → Items
    triplet : (lower upper stride : Bound) → Items → Items

  -- the values of a constructor, implied DOs among them
  pub data Values : Type 0 where
    no_value : Values
    value : Expr → Values → Values
    loop : (body : Values) (variable : Word) (first last : Expr) (step : Bound) (more : Values) → Values

-- ---- declarations

-- the length of a CHARACTER: a number, an expression, or `*`
pub data Length : Type 0 where
  Number : ℤ → Length
  Computed : Expr → Length
  Assumed : Length

pub data TypeSpec : Type 0 where
  Integer : TypeSpec
  Logical : TypeSpec
  Character : Length → TypeSpec

-- `upper`, `lower : upper`, `lower :`, `:`
pub data Dim : Type 0 where
  Upper : Expr → Dim
  Both : (lower upper : Expr) → Dim
  Lower : Expr → Dim
  Deferred : Dim

pub data Attribute : Type 0 where
  Parameter : Attribute
  Allocatable : Attribute
  Dimension : List Dim → Attribute
  Intended : Intent → Attribute

pub record Entity : Type 0 where
  pub name : Word
  pub dims : Option (List Dim)
  pub initial : Option Expr

pub record Declaration : Type 0 where
  pub line : ℕ
  pub of : TypeSpec
  pub attributes : List Attribute
  pub entities : List Entity

-- ---- units

-- USE with the names of ONLY
pub record Use : Type 0 where
  pub line : ℕ
  pub «module» : Word
  pub only : Option (List Word)

-- what a program unit or a procedure has of its own; `mentions` are those of its statements
pub record Part : Type 0 where
  pub uses : List Use
  pub declarations : List Declaration
  pub mentions : List Mention

-- the type that stands before FUNCTION, and the name of the result
pub record Function : Type 0 where
  pub of : Option TypeSpec
  pub result : Word

-- a subroutine, or a function
pub record Procedure : Type 0 where
  pub line : ℕ
  pub name : Word
  pub dummies : List Word
  pub function : Option Function
  pub part : Part

-- a module or the main program, with its procedures
pub record Host : Type 0 where
  pub part : Part
  pub procedures : List Procedure

pub record Module : Type 0 where
  pub name : Word
  pub host : Host

pub record Source : Type 0 where
  pub modules : List Module
  pub main : Host
