use Rattle.std.proofs.Common.{◌≡◌, drop}
use Rattle.rank_shape.specs.Shape.{naturals, number_of}
use Rattle.rank_shape.proofs.shape.number_in.Given as goal

abbrev pub invariant-loop-k : goal.invariant-loop-k
invariant-loop-k g l = l.number ≡ number_of (drop l.k (naturals l.extents)) (drop l.k (naturals l.at))
