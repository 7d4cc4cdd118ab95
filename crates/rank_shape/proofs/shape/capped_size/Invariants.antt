use Rattle.std.proofs.Common.{◌≡◌, ◌+◌, ◌*◌, ◌^◌, ◌≤◌, min, drop}
use Rattle.rank_shape.specs.Shape.{naturals, size_of}
use Rattle.rank_shape.proofs.shape.capped_size.Given as goal

abbrev pub invariant-loop-k : goal.invariant-loop-k
invariant-loop-k g l = record {
  left : min (l.size * size_of (drop l.k (naturals l.extents))) (2 ^ 24 + 1) ≡ min (size_of (naturals l.extents)) (2 ^ 24 + 1);
  small : l.size ≤ 2 ^ 24 + 1;
}
