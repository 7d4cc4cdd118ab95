use Rattle.std.proofs.Common.{◌≡◌, ◌≤◌, ◌<◌, ◌^◌, length, drop, map}
use Rattle.rank_shape.specs.Shape.{naturals, AreNatural}
use Rattle.rank_shape.specs.Turn.{turns_in, visited}
use Rattle.rank_shape.proofs.tour.place_of_turn.Given as goal

abbrev pub invariant-loop-level : goal.invariant-loop-level
invariant-loop-level g l = record {
  long : length l.at ≡ g.row.R;
  natural : AreNatural l.at;
  turns : l.inner ≡ turns_in (drop l.level l.order) l.shape;
  small : l.inner ≤ 2 ^ 24;
  below : l.left < l.inner;
  same : visited (drop l.level l.order) l.shape (naturals l.at) l.left ≡ visited l.order l.shape (map (λ extent. 0) l.shape) l.turn;
}
