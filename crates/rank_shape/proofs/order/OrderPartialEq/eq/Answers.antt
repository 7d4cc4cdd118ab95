use Rattle.std.proofs.Common.{ap, ◌∙◌, nat_eq, ◌&&◌, arith}
use mathlib.Core.Bool.{beq}
use lib.Pointwise.{pointwise}
use Rattle.rank_shape.specs.Order.{loops_of, downs_of}
use Rattle.rank_shape.proofs.Orders.{levels_of_fields}
use Rattle.rank_shape.proofs.order.OrderPartialEq.eq.Goals as goal

pub returns : goal.returns
returns g c =
    let self_is = levels_of_fields c.args.self.now c.t1-1.inside.loops c.t1-1.inside.down (omega arith) c.t1-1.view_is in
    let other_is = levels_of_fields c.args.other.now c.t2-1.inside.loops c.t2-1.inside.down (omega arith) c.t2-1.view_is in
    c.and_eq.ensures
    ∙ ap (λ b. b && pointwise beq c.t1-1.inside.down c.t2-1.inside.down)
    (c.eq.ensures ∙ ap (λ xs. pointwise nat_eq xs c.t2-1.inside.loops) self_is.0
    ∙ ap (λ xs. pointwise nat_eq (loops_of c.args.self.now) xs) other_is.0)
    ∙ ap (λ xs. pointwise nat_eq (loops_of c.args.self.now) (loops_of c.args.other.now) && pointwise beq xs c.t2-1.inside.down)
    self_is.1
    ∙ ap (λ xs. pointwise nat_eq (loops_of c.args.self.now) (loops_of c.args.other.now)
    && pointwise beq (downs_of c.args.self.now) xs) other_is.1
