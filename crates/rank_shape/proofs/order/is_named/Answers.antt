use Rattle.rank_shape.proofs.Orders.{has_answer}
use Rattle.rank_shape.proofs.order.is_named.Goals as goal

pub returns : goal.returns
returns g c = has_answer c.args.loops.now c.args.number c.contains.result c.contains.ensures.cases
