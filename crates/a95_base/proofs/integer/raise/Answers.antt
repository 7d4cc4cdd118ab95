use Rattle.std.proofs.Common.{◌≡◌, FitsSigned, w32, ◌∙◌, rules}
use Rattle.std.specs.Int.{int_wrapping_pow}
use Rattle.std.proofs.lemmas.Int.{to_z-of_z}
use Rattle.a95_base.proofs.Powers.{pow_wraps}
use Rattle.a95_base.proofs.integer.raise.Goals as goal

pub returns : goal.returns
returns c =
    let fits_a : FitsSigned w32 c.args.a = c.ranges.a in
    let fits : FitsSigned w32 c.wrapping_pow.result = search rules in
    let power_ : c.wrapping_pow.result ≡ int_wrapping_pow w32 c.args.a c.args.exponent = simp to_z-of_z at c.wrapping_pow.ensures in
    to_z-of_z w32 c.wrapping_pow.result fits ∙ power_ ∙ pow_wraps c.args.a c.args.exponent fits_a
