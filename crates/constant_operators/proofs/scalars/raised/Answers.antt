use Rattle.std.proofs.Common.{◌∙◌, to_z, of_z, w32, ap}
use Rattle.std.specs.Int.{int_pow}
use Rattle.std.proofs.lemmas.Int.{to_z-of_z}
use Rattle.constant_operators.specs.Operators.{within}
use Rattle.constant_operators.proofs.Within.{checked_is}
use Rattle.constant_operators.proofs.scalars.raised.Goals as goal

pub returns : goal.returns
returns c =
    c.integer_or_spoilt.ensures
    ∙ (checked_is c.checked_pow.result (int_pow (to_z w32 (of_z w32 c.args.x)) c.args.n) c.checked_pow.ensures
    ∙ ap (λ x. within (int_pow x c.args.n)) (to_z-of_z w32 c.args.x c.ranges.x))
