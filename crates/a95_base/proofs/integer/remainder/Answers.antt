use Rattle.std.proofs.Common.{FitsSigned, w32, of_z, ap, ◌∙◌, rules, Some}
use Rattle.std.proofs.lemmas.Int.{to_z-of_z}
use Rattle.a95_base.proofs.Quotients.{left_over}
use Rattle.a95_base.proofs.integer.remainder.Goals as goal

pub returns : goal.returns
returns c =
    let fits_a : FitsSigned w32 c.args.a = c.ranges.a in
    let fits_p : FitsSigned w32 c.args.p = c.ranges.p in
    let fits : FitsSigned w32 c.wrapping_rem.result = search rules in
    let rest = simp to_z-of_z at c.wrapping_rem.ensures in
    ap Some (to_z-of_z w32 c.wrapping_rem.result fits ∙ rest)
    ∙ left_over c.args.a c.args.p (λ e. c.if-p-eq0.false (ap (of_z w32) e))
