use Rattle.std.proofs.Common.{◌∙◌, to_z, of_z, w32, ap}
use Rattle.std.specs.Prelude.{neg_ℤ}
use Rattle.std.proofs.lemmas.Int.{to_z-of_z}
use Rattle.constant_operators.specs.Operators.{within}
use Rattle.constant_operators.proofs.Within.{checked_is}
use Rattle.constant_operators.proofs.scalars.negated.Goals as goal

pub returns : goal.returns
returns c =
    c.integer_or_spoilt.ensures
    ∙ (checked_is c.checked_neg.result (neg_ℤ (to_z w32 (of_z w32 c.args.x))) c.checked_neg.ensures
    ∙ ap (λ x. within (neg_ℤ x)) (to_z-of_z w32 c.args.x c.ranges.x))
