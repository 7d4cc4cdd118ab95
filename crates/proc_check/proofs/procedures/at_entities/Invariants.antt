use Rattle.std.proofs.Common.{◌≡◌, drop, fold, map}
use Rattle.f95_unit.specs.View.{entity_of, procedure_of}
use Rattle.proc_check.specs.Walk.{through_entity}
use Rattle.proc_check.proofs.procedures.at_entities.Given as goal

abbrev pub invariant-loop-e : goal.invariant-loop-e
invariant-loop-e l =
    fold (through_entity (procedure_of l.p)) l.found (map entity_of (drop l.e-index l.entities))
    ≡ fold (through_entity (procedure_of l.p)) l.fn.found (map entity_of l.entities)
