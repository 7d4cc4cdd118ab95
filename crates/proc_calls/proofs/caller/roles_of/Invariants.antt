use Rattle.std.proofs.Common.{◌≡◌, ◌++◌, drop, map}
use Rattle.f95_unit.specs.View.{entity_of}
use Rattle.proc_calls.specs.Rules.{roles_of}
use Rattle.proc_calls.proofs.caller.roles_of.Given as goal

abbrev pub invariant-loop-e : goal.invariant-loop-e
invariant-loop-e l = l.roles ++ roles_of (map entity_of (drop l.e-index l.entities)) ≡ roles_of (map entity_of l.entities)
