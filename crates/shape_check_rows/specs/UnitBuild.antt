-- Short words for typed units.
use Rattle.std.specs.Prelude.{ℕ, pos, false, List, [], ◌∷◌, Option, Some, None}
use Rattle.a95_base.specs.declared.scalar.Scalar.{Scalar}
use Rattle.a95_base.specs.declared.scalar.Scalar.TheVariants as scalar
use Rattle.a95_base.specs.declared.scalar.Kind.TheVariants as kind
use Rattle.f95_unit.specs.declared.facts.Facts.{Facts}
use Rattle.f95_unit.specs.declared.unit.DeclaredType.TheVariants as declared_type
use Rattle.f95_unit.specs.declared.unit.Role.{Role}
use Rattle.f95_unit.specs.declared.unit.Role.TheVariants as role
use Rattle.f95_unit.specs.declared.unit.Intent.TheVariants as intent
use Rattle.f95_unit.specs.Plain.{Expr, typed, Literal, Constant, Index, Named, Designator, at, Whole, Subscripted, subscript}
use Rattle.f95_unit.specs.Plain.{no_subscript, One, SubscriptTriplet, Absent, Given, AllOf, Target, Assign, Forall, Span, Stmt}
use Rattle.f95_unit.specs.Plain.{Stmts, no_stmt, stmt, Bounds, Explicit, Scalars, Entity, Procedure, Program}

-- an INTEGER of these extents
abbrev pub ints : List (Option ℕ) → Facts
ints extents = record { kind = kind.Int; length = None; extents = extents }

abbrev pub number : ℕ → Expr
number n = typed (ints []) (Literal (scalar.Int (pos n)))

abbrev pub constant : ℕ → Expr
constant n = typed (ints []) (Constant n)

abbrev pub index_at : ℕ → Expr
index_at k = typed (ints []) (Index k)

abbrev pub whole : ℕ → Designator
whole n = at n Whole AllOf

abbrev pub variable : ℕ → Expr
variable n = typed (ints []) (Named (whole n))

abbrev pub section : ℕ → Expr → Expr → Designator
section n f l = at n (Subscripted (subscript (SubscriptTriplet (Given f) (Given l) Absent) no_subscript)) AllOf

abbrev pub element : ℕ → Expr → Designator
element n e = at n (Subscripted (subscript (One e) no_subscript)) AllOf

abbrev pub target : Facts → Designator → Target
target f d = record { facts = f; designator = d }

abbrev pub assigns : ℕ → Target → Expr → Assign
assigns line t e = record { line = line; target = t; value = e }

-- with one index
abbrev pub for_all : ℕ → Expr → Expr → Assign → Forall
for_all line f l a = record {
  line = line;
  triplets = record { first = f; last = l; stride = Absent } ∷ [];
  mask = None;
  body =
      a ∷ [];
}

abbrev pub stmts : List Stmt → Stmts
stmts [] = no_stmt
stmts (s ∷ more) = stmt s (stmts more)

abbrev pub spans : List Expr → List Span
spans [] = []
spans (e ∷ more) = record { lower = Absent; upper = e } ∷ spans more

abbrev pub to_extents : List Expr → Bounds
to_extents es = Explicit (spans es)

abbrev pub integer_as : ℕ → Bounds → Role → Entity
integer_as line bounds r = record { line = line; of = declared_type.Integer; bounds = bounds; role = r; initial = None }

abbrev pub own : ℕ → Bounds → Entity
own line bounds = integer_as line bounds role.Own

-- INTENT(IN)
abbrev pub dummy : ℕ → ℕ → Entity
dummy line place = integer_as line Scalars (role.Dummy place intent.In)

abbrev pub procedure_at : ℕ → List Entity → Option ℕ → List Stmt → Procedure
procedure_at line entities result body = record {
  line = line;
  recursive = false;
  pure = false;
  elemental = false;
  entities = entities;
  result = result;
  body = stmts body;
}

abbrev pub main_program : List Entity → List Stmt → Procedure
main_program entities body = procedure_at 1 entities None body

abbrev pub function_at : ℕ → List Entity → ℕ → List Stmt → Procedure
function_at line entities result body = procedure_at line entities (Some result) body

abbrev pub subroutine_at : ℕ → List Entity → List Stmt → Procedure
subroutine_at line entities body = procedure_at line entities None body

abbrev pub unit : List Scalar → Procedure → List Procedure → Program
unit constants m procedures = record { constants = constants; main = m; procedures = procedures }
