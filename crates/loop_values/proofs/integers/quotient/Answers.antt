use Rattle.std.proofs.Common.{FitsSigned, w64, ap, ◌∙◌, rules, Ok}
use Rattle.std.proofs.lemmas.Int.{to_z-of_z}
use Rattle.loop_values.proofs.Arithmetic.{quotient_is}
use Rattle.loop_values.proofs.integers.quotient.Goals as goal

pub returns : goal.returns
returns c =
    let fits_x : FitsSigned w64 c.args.x = c.ranges.x in
    let fits_y : FitsSigned w64 c.args.y = c.ranges.y in
    let fits : FitsSigned w64 c.wrapping_div.result = search rules in
    let divided = simp to_z-of_z at c.wrapping_div.ensures in
    ap Ok (to_z-of_z w64 c.wrapping_div.result fits ∙ divided) ∙ quotient_is c.args.x c.args.y fits_x c.if-y-eq0.false
