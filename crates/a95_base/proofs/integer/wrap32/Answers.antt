use Rattle.std.proofs.Common.{◌^◌, w32, w64, pos, to_z, FitsSigned, sym, ap, ◌∙◌, rules}
use Rattle.std.proofs.lemmas.Int.{to_z-of_z}
use Rattle.std.specs.Prelude.{unsigned_abs}
use Rattle.std.specs.Int.{int_rem_euclid, int_wrap}
use Rattle.a95_base.proofs.Wrapping.{wrapped_is}
use Rattle.a95_base.proofs.integer.wrap32.Goals as goal

pub returns : goal.returns
unfolding int_wrap
returns c =
    let result_fits : FitsSigned w32 c.cast_signed.result = search rules in
    let rest_fits : FitsSigned w64 c.rem_euclid.result = search rules in
    to_z-of_z w32 c.cast_signed.result result_fits ∙ c.cast_signed.ensures
    ∙ ap (λ z. to_z w32 (unsigned_abs z)) (to_z-of_z w64 c.rem_euclid.result rest_fits ∙ c.rem_euclid.ensures.value
    ∙ ap (λ y. int_rem_euclid y (pos (2 ^ 32))) (to_z-of_z w64 c.args.x c.ranges.x))
    ∙ sym (wrapped_is c.args.x)
