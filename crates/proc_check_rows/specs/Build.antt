-- Short words for small units.
use Rattle.std.specs.Prelude.{ℕ, zero, suc, pos, Bool, true, false, Option, Some, None, List, [], ◌∷◌, replicate}
use Rattle.a95_base.specs.declared.scalar.Scalar.TheVariants as scalar
use Rattle.a95_base.specs.declared.scalar.Kind.TheVariants as kind
use Rattle.f95_unit.specs.declared.facts.Facts.{Facts}
use Rattle.f95_unit.specs.declared.unit.DeclaredType.{DeclaredType}
use Rattle.f95_unit.specs.declared.unit.DeclaredType.TheVariants as of_type
use Rattle.f95_unit.specs.declared.unit.Length.TheVariants as long
use Rattle.f95_unit.specs.declared.unit.Role.TheVariants as role
use Rattle.f95_unit.specs.declared.unit.Intent.{Intent}
use Rattle.f95_unit.specs.Plain.{Expr, typed, Literal, Named, Called, at, Whole, AllOf, Absent, Bounds, Scalars, Explicit}
use Rattle.f95_unit.specs.Plain.{Arguments, no_argument, argument, Stmt, Stmts, no_stmt, stmt, call, Calls, Assigns, Entity}
use Rattle.f95_unit.specs.Plain.{Procedure, Program}

-- ---- facts and expressions

abbrev pub ints : ℕ → Facts
ints rank = record { kind = kind.Int; length = None; extents = replicate rank None }

abbrev pub logs : ℕ → Facts
logs rank = record { kind = kind.Log; length = None; extents = replicate rank None }

abbrev pub texts : ℕ → Facts
texts n = record { kind = kind.Text; length = Some n; extents = [] }

abbrev pub some_text : Facts
some_text = record { kind = kind.Text; length = None; extents = [] }

abbrev pub number : ℕ → Expr
number n = typed (ints 0) (Literal (scalar.Int (pos n)))

abbrev pub truth : Expr
truth = typed (logs 0) (Literal (scalar.Log true))

-- an INTEGER variable of a rank
abbrev pub variable : ℕ → ℕ → Expr
variable rank n = typed (ints rank) (Named (at n Whole AllOf))

abbrev pub function_call : ℕ → ℕ → Arguments → Expr
function_call rank p es = typed (ints rank) (Called (call p es))

abbrev pub placed_from : ℕ → List Expr → Arguments
placed_from place [] = no_argument
placed_from place (e ∷ more) = argument place e (placed_from (suc place) more)

-- arguments by their places
abbrev pub actuals : List Expr → Arguments
actuals es = placed_from 0 es

-- ---- statements

abbrev pub stmts : List Stmt → Stmts
stmts [] = no_stmt
stmts (s ∷ more) = stmt s (stmts more)

abbrev pub calls : ℕ → ℕ → List Expr → Stmt
calls line p es = Calls line (call p (actuals es))

-- an INTEGER scalar gets a value
abbrev pub sets : ℕ → ℕ → Expr → Stmt
sets line n e = Assigns (record { line = line; target = record { facts = ints 0; designator = at n Whole AllOf }; value = e })

-- ---- declarations

abbrev pub integer : DeclaredType
integer = of_type.Integer

abbrev pub character : ℕ → DeclaredType
character n = of_type.Character (long.Fixed n)

abbrev pub character_star : DeclaredType
character_star = of_type.Character long.Assumed

-- as many dimensions from 1 to 3
abbrev pub to_three : ℕ → Bounds
to_three zero = Scalars
to_three (suc n) = Explicit (replicate (suc n) (record { lower = Absent; upper = number 3 }))

abbrev pub own : ℕ → DeclaredType → ℕ → Entity
own line of rank = record { line = line; of = of; bounds = to_three rank; role = role.Own; initial = None }

abbrev pub dummy : ℕ → DeclaredType → ℕ → ℕ → Intent → Entity
dummy line of rank place intent =
    record { line = line; of = of; bounds = to_three rank; role = role.Dummy place intent; initial = None }

-- ---- procedures

pub record Prefixes : Type 0 where
  pub recursive : Bool
  pub pure : Bool
  pub elemental : Bool

abbrev pub no_prefix : Prefixes
no_prefix = record { recursive = false; pure = false; elemental = false }

abbrev pub with_recursive : Prefixes
with_recursive = record { recursive = true; pure = false; elemental = false }

abbrev pub with_pure : Prefixes
with_pure = record { recursive = false; pure = true; elemental = false }

abbrev pub with_elemental : Prefixes
with_elemental = record { recursive = false; pure = false; elemental = true }

abbrev pub procedure : Prefixes → ℕ → List Entity → Option ℕ → List Stmt → Procedure
procedure ps line entities result body =
    record {
      line = line;
      recursive = ps.recursive;
      pure = ps.pure;
      elemental = ps.elemental;
      entities = entities;
      result = result;
      body = stmts body;
    }

abbrev pub subroutine : Prefixes → ℕ → List Entity → List Stmt → Procedure
subroutine ps line entities body = procedure ps line entities None body

-- a function with the number of its result
abbrev pub function : Prefixes → ℕ → List Entity → ℕ → List Stmt → Procedure
function ps line entities result body = procedure ps line entities (Some result) body

abbrev pub program : List Entity → List Stmt → List Procedure → Program
program entities body procedures =
    record { constants = []; main = procedure no_prefix 1 entities None body; procedures = procedures }
