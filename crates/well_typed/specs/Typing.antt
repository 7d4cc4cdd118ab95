-- What a typed expression is, by its parts: of operators, of intrinsic functions with their arguments, of references to ELEMENTAL
-- functions of the source.
use Rattle.std.specs.Prelude.{ℕ, Bool, true, false, not, List, [], ◌∷◌, Option, None, Some, slice_get}
use Rattle.a95_base.specs.declared.scalar.Scalar.{Scalar}
use Rattle.constant_operators.specs.Operators.{operator_facts, sign_facts}
use Rattle.f95_tree.specs.declared.terminal.Operator.{Operator}
use Rattle.f95_tree.specs.declared.terminal.Sign.{Sign}
use Rattle.f95_unit.specs.declared.facts.Facts.{Facts}
use Rattle.f95_unit.specs.Plain.{Expr, typed, Named, Designator, at, Whole, AllOf, Arguments, no_argument, argument}
use Rattle.proc_calls.specs.Rules.{mismatches}
use Rattle.well_typed.specs.Shapes.{Extents, facts, each, joint, joint_of}
use Rattle.well_typed.specs.Known.{facts_of, extents_of, integer_known, known_entries}
use Rattle.well_typed.specs.Intrinsics.{shaped}
use Rattle.well_typed.specs.declared.known.Callee.{Callee}
use Rattle.well_typed.specs.declared.known.Given.{Given}
use Rattle.well_typed.specs.declared.known.Variable.{Variable}

-- ---- operators: kind and length by the operands' kinds, extents by both

abbrev pub signed_facts : Sign → Facts → Facts
signed_facts s f = shaped f.extents (sign_facts s (each f))

abbrev pub operation_facts : Operator → Facts → Facts → Facts
operation_facts op f g = shaped (joint f.extents g.extents) (operator_facts op (each f) (each g))

-- ---- arguments of intrinsic functions

abbrev pub is_allocatable_variable : Option Variable → Bool
is_allocatable_variable None = false
is_allocatable_variable (Some v) = v.allocatable

abbrev pub is_allocatable_place : List Variable → Designator → Bool
is_allocatable_place variables (at n Whole AllOf) = is_allocatable_variable (slice_get variables n)
is_allocatable_place variables (at n access part) = false

abbrev pub is_allocatable_name : List Variable → Expr → Bool
is_allocatable_name variables (typed f (Named d)) = is_allocatable_place variables d
is_allocatable_name variables (typed f other_node) = false

abbrev pub given : List Scalar → List Variable → ℕ → Expr → Given
given constants variables place e = record {
  place = place;
  facts = facts_of e;
  known = integer_known constants e;
  entries = known_entries constants e;
  allocatable = is_allocatable_name variables e;
}

abbrev pub givens : List Scalar → List Variable → Arguments → List Given
givens constants variables no_argument = []
givens constants variables (argument place e more) = given constants variables place e ∷ givens constants variables more

-- ---- ELEMENTAL functions of the source: their value has the shape of the arguments

abbrev pub shapes_in : Arguments → List Extents
shapes_in no_argument = []
shapes_in (argument place e more) = extents_of e ∷ shapes_in more

abbrev pub element_facts : Facts → Arguments → Facts
element_facts f es = facts f.kind f.length (joint_of (shapes_in es))

-- the arguments are as the rules on calls want them
abbrev pub match : Callee → Arguments → Bool
match p es = not (mismatches p.interface true es)
