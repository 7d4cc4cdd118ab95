use Rattle.std.proofs.Common.{FitsSigned, w32, of_z, ap, ◌∙◌, rules, Some}
use Rattle.std.proofs.lemmas.Int.{to_z-of_z}
use Rattle.a95_base.proofs.Quotients.{divided}
use Rattle.a95_base.proofs.integer.divide.Goals as goal

pub returns : goal.returns
returns c =
    let fits_a : FitsSigned w32 c.args.a = c.ranges.a in
    let fits_b : FitsSigned w32 c.args.b = c.ranges.b in
    let fits : FitsSigned w32 c.wrapping_div.result = search rules in
    let quotient = simp to_z-of_z at c.wrapping_div.ensures in
    ap Some (to_z-of_z w32 c.wrapping_div.result fits ∙ quotient)
    ∙ divided c.args.a c.args.b fits_a (λ e. c.if-b-eq0.false (ap (of_z w32) e))
