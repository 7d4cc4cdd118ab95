use Rattle.std.proofs.Common.{◌<◌, ◌∙◌, to_z, of_z, w32, ap, sym, subst, arith}
use Rattle.std.specs.Prelude.{int_div}
use Rattle.std.proofs.lemmas.Int.{to_z-of_z}
use Rattle.constant_operators.specs.Operators.{within}
use Rattle.constant_operators.proofs.Within.{divided_is, divided, same_two}
use Rattle.constant_operators.proofs.scalars.quotient.Goals as goal

pub returns : goal.returns
returns c =
    let x = to_z w32 (of_z w32 c.args.x) in
    let y = to_z w32 (of_z w32 c.args.y) in
    let same_x = to_z-of_z w32 c.args.x c.ranges.x in
    let same_y = to_z-of_z w32 c.args.y c.ranges.y in
    let other : 0 < of_z w32 c.args.y = omega (arith, c.if-y-eq0.false) in
    let some : 0 < of_z w32 y = subst (λ z. 0 < of_z w32 z) (sym same_y) other in
    c.integer_or_spoilt.ensures
    ∙ (divided_is c.checked_div.result x y some c.checked_div.ensures
    ∙ (ap within (same_two int_div x y c.args.x c.args.y same_x same_y)
    ∙ divided c.args.x c.args.y (λ e. c.if-y-eq0.false (ap (of_z w32) e))))
