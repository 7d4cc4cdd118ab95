use Rattle.rank_shape.proofs.Orders.{one_more_named}
use Rattle.rank_shape.proofs.order.names_all.Goals as goal

pub loop-k-preserved : goal.loop-k-preserved
loop-k-preserved g c = one_more_named c.args.loops.now c.loop-k.k c.loop-k.invariant (c.is_named.ensures.0 c.if-not-is_named.false)
