use Rattle.std.proofs.Common.{◌≡◌, ◌||◌, ◌+◌, drop}
use Rattle.loop_order.specs.Legal.{distances_of}
use Rattle.loop_order.specs.Choice.{some_entry, is_unknown, is_up, is_down}
use Rattle.loop_order.specs.Left.{open_distances}
use Rattle.loop_order.proofs.choice.asked_of.Given as goal

abbrev pub invariant-loop-dist : goal.invariant-loop-dist
invariant-loop-dist g l = record {
  unknown :
      (l.asked.unknown
      || some_entry is_unknown (l.dim + 1) (open_distances l.taken (distances_of g.row.R (drop l.dist-index l.dists))))
      ≡ some_entry is_unknown (l.dim + 1) (open_distances l.taken (distances_of g.row.R l.dists));
  up : (l.asked.up || some_entry is_up (l.dim + 1) (open_distances l.taken (distances_of g.row.R (drop l.dist-index l.dists))))
      ≡ some_entry is_up (l.dim + 1) (open_distances l.taken (distances_of g.row.R l.dists));
  down : (l.asked.down
      || some_entry is_down (l.dim + 1) (open_distances l.taken (distances_of g.row.R (drop l.dist-index l.dists))))
      ≡ some_entry is_down (l.dim + 1) (open_distances l.taken (distances_of g.row.R l.dists));
}
