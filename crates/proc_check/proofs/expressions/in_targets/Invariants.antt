use Rattle.std.proofs.Common.{◌≡◌, drop, fold, map}
use Rattle.f95_unit.specs.View.{target_of}
use Rattle.proc_check.specs.Walk.{telling, through_target}
use Rattle.proc_check.proofs.expressions.in_targets.Given as goal

abbrev pub invariant-loop-t : goal.invariant-loop-t
invariant-loop-t l =
    fold (through_target (telling l.c l.line l.dos)) l.found (map target_of (drop l.t-index l.targets))
    ≡ fold (through_target (telling l.c l.line l.dos)) l.fn.found (map target_of l.targets)
