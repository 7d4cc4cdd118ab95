use Rattle.std.proofs.Common.{◌≡◌, drop, fold, map}
use Rattle.f95_unit.specs.View.{assign_of}
use Rattle.proc_check.specs.Walk.{through_assign}
use Rattle.proc_check.proofs.assignments.in_assigns.Given as goal

abbrev pub invariant-loop-a : goal.invariant-loop-a
invariant-loop-a l =
    fold (through_assign l.c l.dos) l.found (map assign_of (drop l.a-index l.body))
    ≡ fold (through_assign l.c l.dos) l.fn.found (map assign_of l.body)
