use Rattle.std.proofs.Common.{◌≡◌, ◌++◌, map, drop}
use Rattle.f95_unit.specs.View.{procedure_of}
use Rattle.well_typed.specs.Entities.{callees_of}
use Rattle.known_values.proofs.entities.callees_of.Given as goal

abbrev pub invariant-loop-p : goal.invariant-loop-p
invariant-loop-p l =
    l.callees ++ callees_of l.constants (map procedure_of (drop l.p-index l.procedures))
    ≡ callees_of l.constants (map procedure_of l.procedures)
