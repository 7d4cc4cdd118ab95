use Rattle.std.proofs.Common.{◌≡◌, FitsSigned, w32, w64, pos, ℤ, ap, ◌∙◌, sym, rules, Ok, refl}
use Rattle.std.specs.Prelude.{negsuc, unsigned_abs}
use Rattle.std.specs.Int.{FitsUnsignedBits}
use Rattle.std.proofs.lemmas.Int.{to_z-of_z}
use Rattle.a95_base.specs.Integer.{wrapped, raised}
use Rattle.loop_tree.specs.Values.{power_of}
use Rattle.loop_values.proofs.integers.power.Goals as goal

not_negative : (z : ℤ) → FitsUnsignedBits 32 z → z ≡ pos (unsigned_abs z)
not_negative (pos n) h = refl
not_negative (negsuc n) h = absurd h

pub returns-in-Ok : goal.returns-in-Ok
returns-in-Ok c =
    let fits_x : FitsSigned w64 c.args.x = c.ranges.x in
    let fits_y : FitsSigned w64 c.args.y = c.ranges.y in
    let fits_e : FitsSigned w32 c.wrap32.result = search rules in
    let fits_b : FitsSigned w32 c.wrap32-in-Ok.result = search rules in
    let fits_p : FitsSigned w32 c.raise.result = search rules in
    let fits_r : FitsSigned w64 c.from.result = search rules in
    let base : c.wrap32-in-Ok.result ≡ wrapped c.args.x = simp to_z-of_z at c.wrap32-in-Ok.ensures in
    let power_ : c.raise.result ≡ raised c.wrap32-in-Ok.result c.in-Ok.exponent = simp to_z-of_z at c.raise.ensures in
    let exponent_fits : FitsUnsignedBits 32 c.wrap32.result = simp to_z-of_z at c.in-Ok.ensures.0 in
    let exponent_is : c.in-Ok.exponent ≡ unsigned_abs c.wrap32.result = simp to_z-of_z at c.in-Ok.ensures.1 in
    let low : c.wrap32.result ≡ wrapped c.args.y = simp to_z-of_z at c.wrap32.ensures in
    let is : wrapped c.args.y ≡ pos c.in-Ok.exponent = sym low ∙ not_negative c.wrap32.result exponent_fits
    ∙ ap pos (sym exponent_is) in
    ap Ok (to_z-of_z w64 c.from.result fits_r ∙ c.from.ensures ∙ to_z-of_z w32 c.raise.result fits_p ∙ power_
    ∙ ap (λ b. raised b c.in-Ok.exponent) base)
    ∙ ap (power_of (wrapped c.args.x)) (sym is)
