-- What the declarations of a unit tell of its variables and its procedures.
use Rattle.std.specs.Prelude.{ℤ, pos, Bool, true, false, List, [], map, replicate, Option, Some, None, option_map, slice_get}
use Rattle.a95_base.specs.declared.scalar.Scalar.{Scalar}
use Rattle.constant_operators.specs.Operators.{then_option}
use Rattle.f95_unit.specs.declared.facts.Facts.{Facts}
use Rattle.f95_unit.specs.declared.unit.Intent.TheVariants as intent
use Rattle.f95_unit.specs.declared.unit.Role.{Role}
use Rattle.f95_unit.specs.declared.unit.Role.TheVariants as role
use Rattle.f95_unit.specs.Plain.{Bound, Span, Bounds, Scalars, Explicit, Assumed, Deferred, Entity, Procedure}
use Rattle.proc_calls.specs.Interfaces.{kind_of, known_length, interface_of}
use Rattle.well_typed.specs.Shapes.{facts}
use Rattle.well_typed.specs.Known.{dim, declared_extents, bound_known, integer_known}
use Rattle.well_typed.specs.declared.known.Callee.{Callee}
use Rattle.well_typed.specs.declared.known.Dim.{Dim}
use Rattle.well_typed.specs.declared.known.Variable.{Variable}

abbrev pub is_input : Role → Bool
is_input role.Own = false
is_input (role.Dummy place intent.In) = true
is_input (role.Dummy place other) = false

abbrev pub is_deferred : Bounds → Bool
is_deferred (Deferred rank) = true
is_deferred other = false

-- nothing is known of a dimension
abbrev pub unknown_dim : Dim
unknown_dim = dim None None

-- the length of a function's value isn't known before a run
abbrev pub result_facts : Variable → Facts
result_facts v = facts v.kind None (declared_extents v.dims)

module _ (constants : List Scalar) where
  -- a lower bound that is left out is 1
  abbrev pub lower_known : Bound → Option ℤ
  lower_known lower = bound_known constants (Some (pos 1)) lower

  abbrev pub span_dim : Span → Dim
  span_dim s = dim (lower_known s.lower) (integer_known constants s.upper)

  abbrev pub assumed_dim : Bound → Dim
  assumed_dim lower = dim (lower_known lower) None

  -- the bounds that the declaration makes constant; an allocatable array gets its bounds at run
  abbrev pub known_dims : Bounds → List Dim
  known_dims Scalars = []
  known_dims (Explicit spans) = map span_dim spans
  known_dims (Assumed lowers) = map assumed_dim lowers
  known_dims (Deferred rank) = replicate rank unknown_dim

  abbrev pub variable_of : Entity → Variable
  variable_of e = record {
    kind = kind_of e.of;
    length = known_length e.of;
    dims = known_dims e.bounds;
    allocatable = is_deferred e.bounds;
    input = is_input e.role;
  }

  abbrev pub variables_of : List Entity → List Variable
  variables_of entities = map variable_of entities

  abbrev pub result_of : Procedure → Option Facts
  result_of p = option_map result_facts (then_option p.result (slice_get (variables_of p.entities)))

  abbrev pub callee_of : Procedure → Callee
  callee_of p = record { interface = interface_of p; result = result_of p }

  abbrev pub callees_of : List Procedure → List Callee
  callees_of procedures = map callee_of procedures

-- a variable while the bounds of the scope aren't known yet
abbrev pub without_bounds : Variable → Variable
without_bounds v = record v { dims = map (λ (d : Dim). unknown_dim) v.dims }
