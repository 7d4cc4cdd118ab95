use Rattle.std.proofs.Common.{◌≡◌, replicate, None}
use Rattle.intrinsic_facts.proofs.moving.unknown_extents.Given as goal

abbrev pub invariant-loop-dimension : goal.invariant-loop-dimension
invariant-loop-dimension l = l.made ≡ replicate l._dimension None
