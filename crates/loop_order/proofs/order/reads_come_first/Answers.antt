use Rattle.loop_order.specs.Legal.{distances_of}
use Rattle.loop_order.proofs.Turns.{reads_first}
use Rattle.loop_order.proofs.order.reads_come_first.Goals as goal

pub returns : goal.returns
returns g c = reads_first g.row.R c.args.order.now (distances_of g.row.R c.args.dists.now) c.args.shape.now c.known.ensures.order
    c.requires
