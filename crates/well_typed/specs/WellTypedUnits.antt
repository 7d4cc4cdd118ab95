-- Well typed declarations, procedures and units.
use Rattle.std.specs.Prelude.{◌≡◌, List, [], ◌++◌, map}
use Rattle.a95_base.specs.declared.scalar.Scalar.{Scalar}
use Rattle.a95_base.specs.Lists.{Every}
use Rattle.f95_unit.specs.Plain.{Expr, Bounds, Scalars, Explicit, Assumed, Deferred, Entity, Procedure, Program}
use Rattle.well_typed.specs.Known.{facts_of, variable_facts}
use Rattle.well_typed.specs.Questions.{Assigns}
use Rattle.well_typed.specs.Entities.{variable_of, variables_of, callees_of, without_bounds}
use Rattle.well_typed.specs.WellTyped.{Settled, TypedExpr, TypedBound}
use Rattle.well_typed.specs.WellTypedStatements.{Maybe, TypedSpan, TypedStmts}
use Rattle.well_typed.specs.declared.known.Callee.{Callee}
use Rattle.well_typed.specs.declared.known.Variable.{Variable}

-- bounds, beside what is known of variables before any bounds are; they refer to no function of the source
abbrev pub TypedBounds : List Scalar → (before : List Variable) → Bounds → Type 0
TypedBounds constants before Scalars = Unit {0}
TypedBounds constants before (Explicit spans) = Every (TypedSpan constants before [] 0) spans
TypedBounds constants before (Assumed lowers) = Every (TypedBound constants before [] 0) lowers
TypedBounds constants before (Deferred rank) = Unit {0}

-- an initial value that may be assigned to the variable
abbrev pub TypedInitial : List Scalar → List Variable → List Callee → Variable → Expr → Type 0
TypedInitial constants variables callees v e =
    TypedExpr constants variables callees 0 e × Settled (Assigns (variable_facts v) (facts_of e))

abbrev pub TypedEntity : List Scalar → List Variable → List Callee → Entity → Type 0
TypedEntity constants variables callees e = TypedBounds constants (map without_bounds variables) e.bounds
    × Maybe (TypedInitial constants variables callees (variable_of constants e)) e.initial

-- declarations and statements, beside what the declarations tell
abbrev pub TypedProcedure : List Scalar → List Callee → Procedure → Type 0
TypedProcedure constants callees p = Every (TypedEntity constants (variables_of constants p.entities) callees) p.entities
    × TypedStmts constants (variables_of constants p.entities) callees 0 [] p.body

-- The first constants of a unit are those that have a name in the source, and expressions name no others.
pub record WellTyped (u : Program) : Type 0 where
  pub named : List Scalar
  pub cases : List Scalar
  pub constants : u.constants ≡ named ++ cases
  pub main : TypedProcedure named (callees_of named u.procedures) u.main
  pub procedures : Every (TypedProcedure named (callees_of named u.procedures)) u.procedures
