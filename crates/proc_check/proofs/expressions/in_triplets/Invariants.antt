use Rattle.std.proofs.Common.{◌≡◌, drop, fold, map}
use Rattle.f95_unit.specs.View.{triplet_of}
use Rattle.proc_check.specs.Walk.{telling, through_triplet}
use Rattle.proc_check.proofs.expressions.in_triplets.Given as goal

abbrev pub invariant-loop-t : goal.invariant-loop-t
invariant-loop-t l =
    fold (through_triplet (telling l.c l.line l.dos)) l.found (map triplet_of (drop l.t-index l.triplets))
    ≡ fold (through_triplet (telling l.c l.line l.dos)) l.fn.found (map triplet_of l.triplets)
