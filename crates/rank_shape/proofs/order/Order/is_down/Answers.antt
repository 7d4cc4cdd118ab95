use Rattle.std.proofs.Common.{sym, ap, ◌∙◌, arith}
use Rattle.rank_shape.specs.Order.{level_at}
use Rattle.rank_shape.proofs.Orders.{level_down}
use Rattle.rank_shape.proofs.order.Order.is_down.Goals as goal

pub returns : goal.returns
returns g c =
    sym (level_down c.self.inside.loops c.self.inside.down c.args.level (omega arith) (omega arith))
    ∙ ap (λ order. (level_at order c.args.level).down) c.self.view_is
