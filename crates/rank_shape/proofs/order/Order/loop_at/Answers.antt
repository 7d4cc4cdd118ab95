use Rattle.std.proofs.Common.{sym, ap, ◌∙◌, arith}
use Rattle.rank_shape.specs.Order.{level_at}
use Rattle.rank_shape.proofs.Orders.{level_number, field_in_range}
use Rattle.rank_shape.proofs.order.Order.loop_at.Goals as goal

pub returns-clause-number : goal.returns-clause-number
returns-clause-number g c =
    sym (level_number c.self.inside.loops c.self.inside.down c.args.level (omega arith) (omega arith))
    ∙ ap (λ order. (level_at order c.args.level).number) c.self.view_is

pub returns-clause-least : goal.returns-clause-least
returns-clause-least g c =
    (field_in_range g.row.R c.self.inside.loops c.self.inside.down c.args.level c.self.invariant c.requires).0

pub returns-clause-most : goal.returns-clause-most
returns-clause-most g c = (field_in_range g.row.R c.self.inside.loops c.self.inside.down c.args.level c.self.invariant c.requires).1
