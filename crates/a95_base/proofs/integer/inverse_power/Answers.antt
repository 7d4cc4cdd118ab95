use Rattle.std.proofs.Common.{◌≡◌, ◌<◌, pos, ap, ◌∙◌, sym, arith}
use Rattle.std.specs.Prelude.{negsuc, unsigned_abs}
use Rattle.std.proofs.lemmas.Int.{ints}
use Rattle.a95_base.specs.Integer.{power_of}
use Rattle.a95_base.proofs.Powers.{power_of_one, power_of_less_even, power_of_less_odd, power_of_more, even_exponent, odd_exponent}
use Rattle.a95_base.proofs.integer.inverse_power.Goals as goal

pub returns-in-1 : goal.returns-in-1
returns-in-1 c =
    let is : c.args.a ≡ pos 1 = omega (arith, ints) in
    sym (ap (λ a. power_of a c.args.n) is ∙ power_of_one c.args.n c.requires.negative)

pub returns-then-n-eq0 : goal.returns-then-n-eq0
returns-then-n-eq0 c =
    let is : c.args.a ≡ negsuc 0 = omega (arith, ints) in
    let even = even_exponent c.args.n c.ranges.n c.requires.negative c.if-n-eq0.true in
    sym (ap (λ a. power_of a c.args.n) is ∙ power_of_less_even c.args.n c.requires.negative even)

pub returns-else-n-eq0 : goal.returns-else-n-eq0
returns-else-n-eq0 c =
    let is : c.args.a ≡ negsuc 0 = omega (arith, ints) in
    let odd = odd_exponent c.args.n c.ranges.n c.requires.negative c.if-n-eq0.false in
    sym (ap (λ a. power_of a c.args.n) is ∙ power_of_less_odd c.args.n c.requires.negative odd)

pub returns-in_default : goal.returns-in_default
returns-in_default c =
    let more : 1 < unsigned_abs c.args.a = omega (arith, ints) in
    sym (power_of_more c.args.a c.args.n more c.requires.negative)
