use Rattle.std.proofs.Common.{◌∙◌, ◌+ℤ◌, to_z, of_z, w32, ap}
use Rattle.std.proofs.lemmas.Int.{to_z-of_z}
use Rattle.constant_operators.specs.Operators.{within}
use Rattle.constant_operators.proofs.Within.{checked_is, same_two}
use Rattle.constant_operators.proofs.scalars.sum.Goals as goal

pub returns : goal.returns
returns c =
    let x = to_z w32 (of_z w32 c.args.x) in
    let y = to_z w32 (of_z w32 c.args.y) in
    c.integer_or_spoilt.ensures
    ∙ (checked_is c.checked_add.result (x +ℤ y) c.checked_add.ensures
    ∙ ap within
    (same_two (λ a b. a +ℤ b) x y c.args.x c.args.y (to_z-of_z w32 c.args.x c.ranges.x) (to_z-of_z w32 c.args.y c.ranges.y)))
