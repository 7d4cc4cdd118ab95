use Rattle.std.proofs.Common.{◌≡◌, ◌≤◌, ◌<◌, ◌^◌, ◌++◌, length, take, drop, map, pos}
use Rattle.rank_shape.specs.Shape.{naturals, place_at, size_of}
use Rattle.rank_shape.proofs.shape.place_in.Given as goal

abbrev pub invariant-loop-k : goal.invariant-loop-k
invariant-loop-k g l = record {
  long : length l.at ≡ g.row.R;
  same : take l.k l.at ++ map pos (place_at (drop l.k (naturals l.extents)) l.left)
      ≡ map pos (place_at (naturals l.extents) l.number);
  below : l.left < size_of (drop l.k (naturals l.extents));
  small : l.left ≤ 2 ^ 24;
}
