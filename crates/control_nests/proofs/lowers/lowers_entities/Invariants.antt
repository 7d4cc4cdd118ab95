use Rattle.std.proofs.Common.{◌≡◌, ◌&&◌, drop, map}
use Rattle.std.specs.List.{list_all}
use Rattle.f95_unit.specs.View.{entity_of}
use Rattle.control_lower.specs.Lowers.{lowers_entity}
use Rattle.control_nests.proofs.lowers.lowers_entities.Given as goal

abbrev pub invariant-loop-e : goal.invariant-loop-e
invariant-loop-e l =
    (l.all && list_all lowers_entity (map entity_of (drop l.e-index l.es))) ≡ list_all lowers_entity (map entity_of l.es)
