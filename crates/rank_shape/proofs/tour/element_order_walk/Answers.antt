use Rattle.rank_shape.proofs.Elements.{element_tour}
use Rattle.rank_shape.proofs.tour.element_order_walk.Goals as goal

pub returns : goal.returns
returns g c = element_tour g.row.R c.args.shape.now c.known.ensures.long
