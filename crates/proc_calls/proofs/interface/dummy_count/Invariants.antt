use Rattle.std.proofs.Common.{◌≡◌, ◌+◌, ◌≤◌, drop, map}
use Rattle.f95_unit.specs.View.{entity_of}
use Rattle.proc_calls.specs.Interfaces.{dummy_count}
use Rattle.proc_calls.proofs.interface.dummy_count.Given as goal

abbrev pub invariant-loop-e : goal.invariant-loop-e
invariant-loop-e l = (l.count + dummy_count (map entity_of (drop l.e-index l.entities)) ≡ dummy_count (map entity_of l.entities))
    × (l.count ≤ l.e-index)
