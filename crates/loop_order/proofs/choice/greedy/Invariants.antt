use Rattle.std.proofs.Common.{◌≡◌, ◌-◌, ◌++◌, length, take}
use Rattle.std.specs.Prelude.{option_map}
use Rattle.a95_base.specs.Lists.{down_to_one}
use Rattle.rank_shape.specs.Order.{levels}
use Rattle.loop_order.specs.Legal.{distances_of}
use Rattle.loop_order.specs.Choice.{choice}
use Rattle.loop_order.specs.Left.{loops_left, open_distances}
use Rattle.loop_order.proofs.choice.greedy.Given as goal

abbrev pub invariant-loop-level : goal.invariant-loop-level
invariant-loop-level g l = record {
  loops_long : length l.loops ≡ g.row.R;
  down_long : length l.down ≡ g.row.R;
  taken_long : length l.taken ≡ g.row.R;
  same : choice g.row.R (down_to_one g.row.R) (distances_of g.row.R l.dists)
      ≡ option_map (λ inner. levels (take l.level l.loops) (take l.level l.down) ++ inner)
      (choice (g.row.R - l.level) (loops_left g.row.R l.taken) (open_distances l.taken (distances_of g.row.R l.dists)));
}
