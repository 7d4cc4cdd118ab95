use Rattle.std.proofs.Common.{◌≡◌, ◌-◌, ◌++◌, length, take}
use Rattle.a95_base.specs.Lists.{down_to_one}
use Rattle.rank_shape.proofs.order.Order.element_order.Given as goal

abbrev pub invariant-loop-level : goal.invariant-loop-level
invariant-loop-level g l = record {
  long : length l.loops ≡ g.row.R;
  same : take l.level l.loops ++ down_to_one (g.row.R - l.level) ≡ down_to_one g.row.R;
}
