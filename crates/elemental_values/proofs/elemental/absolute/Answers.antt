use Rattle.std.proofs.Common.{◌∙◌, ℤ, pos, w32, FitsSigned, SomeIff, subst}
use Rattle.std.specs.Prelude.{neg_ℤ, unsigned_abs}
use Rattle.std.proofs.lemmas.Int.{to_z-of_z}
use Rattle.elemental_values.proofs.Signs.{absolute_is}
use Rattle.elemental_values.proofs.elemental.absolute.Goals as goal

pub returns : goal.returns
returns c =
    let P : ℤ → Type 0 = λ x. SomeIff c.checked_abs.result (FitsSigned w32 (neg_ℤ x)) (pos (unsigned_abs x)) in
    let told : P c.args.x = subst P (to_z-of_z w32 c.args.x c.ranges.x) c.checked_abs.ensures in
    c.integer_or_spoilt.ensures ∙ absolute_is c.checked_abs.result c.args.x c.ranges.x told
