use Rattle.std.proofs.Common.{◌≡◌, drop, map}
use Rattle.f95_unit.specs.View.{entity_of}
use Rattle.proc_calls.specs.Interfaces.{all_placed, dummies_of}
use Rattle.proc_calls.proofs.interface.dummies_of.Given as goal

abbrev pub invariant-loop-e : goal.invariant-loop-e
invariant-loop-e l = all_placed (map entity_of (drop l.e-index l.entities)) l.dummies ≡ dummies_of (map entity_of l.entities)
