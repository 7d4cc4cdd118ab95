use Rattle.std.proofs.Common.{ℤ, pos, ◌+ℤ◌, ◌-ℤ◌, subst, sym, ap, ◌∙◌, FitsSigned, w64, rules}
use Rattle.std.specs.Prelude.{int_div}
use Rattle.std.specs.Int.{int_max}
use Rattle.std.proofs.lemmas.Int.{to_z-of_z}
use Rattle.a95_base.proofs.Integers.{max_natural}
use Rattle.section_algebra.proofs.Readings.{read, steps_read, quotient_read, quotient_wide}
use Rattle.section_algebra.proofs.triplet.triplet_count.Goals as goal

pub nonzero_div-last : goal.nonzero_div-last
nonzero_div-last c =
    let P : ℤ → Type 0 = FitsSigned w64 in (
      steps_read c.args.stride c.requires.stride c.requires.steps,
      subst P (sym (quotient_read c.args.first c.args.last c.args.stride c.requires.first c.requires.last c.requires.stride))
          (quotient_wide c.args.first c.args.last c.args.stride c.requires.first c.requires.last c.requires.stride),
    )

pub returns : goal.returns
returns c =
    let wide : FitsSigned w64 c.max.result = search rules in
    let q : ℤ = int_div (c.args.last -ℤ c.args.first +ℤ c.args.stride) c.args.stride in
    let q_is =
    ap read (quotient_read c.args.first c.args.last c.args.stride c.requires.first c.requires.last c.requires.stride)
    ∙ to_z-of_z w64 q (quotient_wide c.args.first c.args.last c.args.stride c.requires.first c.requires.last c.requires.stride)
    in
    to_z-of_z w64 c.max.result wide ∙ c.max.ensures.value ∙ ap (λ x. int_max x (pos 0)) q_is ∙ sym (max_natural q)
