use Rattle.std.proofs.Common.{length, sym, ap, ◌∙◌}
use Rattle.rank_shape.proofs.Steps.{order_length}
use Rattle.rank_shape.proofs.order.Order.known.Goals as goal

pub returns-clause-long : goal.returns-clause-long
returns-clause-long g c = ap length (sym c.self.view_is) ∙ order_length g.row.R _ c.self.invariant.order
