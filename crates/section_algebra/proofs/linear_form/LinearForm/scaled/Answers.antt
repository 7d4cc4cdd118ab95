use Rattle.std.proofs.Common.{◌≡◌, ℕ, ℤ, ◌*ℤ◌, sym, ap, ◌∙◌, w32}
use Rattle.std.proofs.lemmas.Int.{to_z-of_z, wrapping_mul_is}
use Rattle.a95_base.specs.Integer.{wrapped, product_of}
use Rattle.a95_base.proofs.Wrapping.{wrapped_is}
use Rattle.a95_base.proofs.Integers.{integer_fits}
use Rattle.section_algebra.specs.Form.{sum_in}
use Rattle.section_algebra.proofs.Forms.{factors_scaled, value_scaled}
use Rattle.section_algebra.proofs.linear_form.LinearForm.scaled.Goals as goal

known : (c : goal.After-result-1) (values : ℕ → ℤ)
    → wrapped (sum_in values c.in_ok-terms.terms.items) ≡ wrapped (c.args.factor *ℤ sum_in values c.args.a.now.terms)
known c values =
    c.in_ok-terms.ensures.value values
    ∙ ap (λ z. wrapped (z *ℤ sum_in values c.deref.result.now)) (to_z-of_z w32 c.args.factor c.ranges.factor)
    ∙ ap (λ ts. wrapped (c.args.factor *ℤ sum_in values ts)) (c.deref.ensures.value ∙ ap (λ f. f.terms) c.a.view_is)

pub returns-clause-constant : goal.returns-clause-constant
returns-clause-constant c =
    wrapping_mul_is w32 c.args.factor c.a.inside.constant c.ranges.factor (integer_fits c.a.inside.constant c.a.invariant.constant)
    ∙ sym (wrapped_is (c.args.factor *ℤ c.a.inside.constant))
    ∙ ap (λ f. product_of c.args.factor f.constant) c.a.view_is

pub returns-clause-factors : goal.returns-clause-factors
returns-clause-factors c =
    λ atom. factors_scaled c.in_ok-terms.terms.items c.args.a.now.terms c.args.factor atom c.in_ok-terms.ensures.sum (known c)

pub returns-clause-value : goal.returns-clause-value
returns-clause-value c = λ values.
    value_scaled c.args.a.now.constant (sum_in values c.args.a.now.terms) (sum_in values c.in_ok-terms.terms.items)
    c.args.factor _ (returns-clause-constant c) (known c values)
