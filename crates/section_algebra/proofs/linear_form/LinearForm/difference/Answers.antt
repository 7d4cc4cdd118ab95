use Rattle.std.proofs.Common.{◌≡◌, ℕ, ℤ, ◌-ℤ◌, sym, ap, ◌∙◌, w32}
use Rattle.std.proofs.lemmas.Int.{wrapping_sub_is}
use Rattle.a95_base.specs.Integer.{wrapped, difference_of}
use Rattle.a95_base.proofs.Wrapping.{wrapped_is}
use Rattle.a95_base.proofs.Integers.{integer_fits}
use Rattle.section_algebra.specs.Form.{sum_in}
use Rattle.section_algebra.proofs.Forms.{factors_apart, value_apart}
use Rattle.section_algebra.proofs.linear_form.LinearForm.difference.Goals as goal

known : (c : goal.After-result-2-1) (values : ℕ → ℤ)
    → wrapped (sum_in values c.in_ok-terms.terms.items)
    ≡ wrapped (sum_in values c.args.a.now.terms -ℤ sum_in values c.args.b.now.terms)
known c values =
    c.in_ok-terms.ensures.value values
    ∙ ap (λ ts. wrapped (sum_in values ts -ℤ sum_in values c.deref-2.result.now))
    (c.deref.ensures.value ∙ ap (λ f. f.terms) c.a.view_is)
    ∙ ap (λ ts. wrapped (sum_in values c.args.a.now.terms -ℤ sum_in values ts))
    (c.deref-2.ensures.value ∙ ap (λ f. f.terms) c.b.view_is)

pub returns-clause-constant : goal.returns-clause-constant
returns-clause-constant c =
    wrapping_sub_is w32 c.a.inside.constant c.b.inside.constant (integer_fits c.a.inside.constant c.a.invariant.constant)
    (integer_fits c.b.inside.constant c.b.invariant.constant)
    ∙ sym (wrapped_is (c.a.inside.constant -ℤ c.b.inside.constant))
    ∙ ap (λ f. difference_of f.constant c.b.inside.constant) c.a.view_is
    ∙ ap (λ f. difference_of c.args.a.now.constant f.constant) c.b.view_is

pub returns-clause-factors : goal.returns-clause-factors
returns-clause-factors c =
    λ atom. factors_apart c.in_ok-terms.terms.items c.args.a.now.terms c.args.b.now.terms atom c.in_ok-terms.ensures.sum
    (known c)

pub returns-clause-value : goal.returns-clause-value
returns-clause-value c = λ values.
    value_apart c.args.a.now.constant c.args.b.now.constant (sum_in values c.args.a.now.terms)
    (sum_in values c.args.b.now.terms) (sum_in values c.in_ok-terms.terms.items) _ (returns-clause-constant c) (known c values)
