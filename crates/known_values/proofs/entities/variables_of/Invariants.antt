use Rattle.std.proofs.Common.{◌≡◌, ◌++◌, map, drop}
use Rattle.f95_unit.specs.View.{entity_of}
use Rattle.well_typed.specs.Entities.{variables_of}
use Rattle.known_values.proofs.entities.variables_of.Given as goal

abbrev pub invariant-loop-e : goal.invariant-loop-e
invariant-loop-e l =
    l.variables ++ variables_of l.constants (map entity_of (drop l.e-index l.entities))
    ≡ variables_of l.constants (map entity_of l.entities)
