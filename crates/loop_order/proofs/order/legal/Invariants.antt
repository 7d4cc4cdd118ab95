use Rattle.std.proofs.Common.{◌≡◌, drop}
use Rattle.std.specs.List.{list_all}
use Rattle.loop_order.specs.Legal.{distances_of, settles}
use Rattle.loop_order.proofs.order.legal.Given as goal

abbrev pub invariant-loop-dist : goal.invariant-loop-dist
invariant-loop-dist g l = list_all (settles l.order) (distances_of g.row.R (drop l.dist-index l.dists))
    ≡ list_all (settles l.order) (distances_of g.row.R l.dists)
