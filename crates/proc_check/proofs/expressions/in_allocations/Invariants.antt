use Rattle.std.proofs.Common.{◌≡◌, drop, fold, map}
use Rattle.f95_unit.specs.View.{allocation_of}
use Rattle.proc_check.specs.Walk.{telling, through_allocation}
use Rattle.proc_check.proofs.expressions.in_allocations.Given as goal

abbrev pub invariant-loop-a : goal.invariant-loop-a
invariant-loop-a l =
    fold (through_allocation (telling l.c l.line l.dos)) l.found (map allocation_of (drop l.a-index l.objects))
    ≡ fold (through_allocation (telling l.c l.line l.dos)) l.fn.found (map allocation_of l.objects)
