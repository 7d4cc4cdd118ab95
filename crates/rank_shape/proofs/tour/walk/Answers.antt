use Rattle.rank_shape.proofs.Reorders.{order_whole}
use Rattle.rank_shape.proofs.tour.walk.Goals as goal

pub returns-clause-whole : goal.returns-clause-whole
returns-clause-whole g c = order_whole g.row.R c.args.shape c.args.order c.known.ensures.long c.known-2.ensures.order
