use Rattle.std.proofs.Common.{arith}
use Rattle.rank_shape.proofs.Orders.{order_from}
use Rattle.rank_shape.proofs.order.Order.new.Goals as goal

pub invariant_of-result : goal.invariant_of-result
invariant_of-result g c = order_from g.row.R c.args.loops c.args.down c.requires (omega arith) (omega arith)
    (c.names_all.ensures.0 c.if-not-names_all.false)
