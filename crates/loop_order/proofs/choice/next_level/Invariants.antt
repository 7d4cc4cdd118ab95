use Rattle.std.proofs.Common.{◌≡◌}
use Rattle.std.specs.Prelude.{find}
use Rattle.loop_order.specs.Legal.{distances_of}
use Rattle.loop_order.specs.Choice.{suits}
use Rattle.loop_order.specs.Left.{loops_left, open_distances}
use Rattle.loop_order.proofs.choice.next_level.Given as goal

abbrev pub invariant-loop-dim : goal.invariant-loop-dim
invariant-loop-dim g l =
    find (λ loop. suits loop (open_distances l.taken (distances_of g.row.R l.dists))) (loops_left l.dim l.taken)
    ≡ find (λ loop. suits loop (open_distances l.taken (distances_of g.row.R l.dists))) (loops_left g.row.R l.taken)
