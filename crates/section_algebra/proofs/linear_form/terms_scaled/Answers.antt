use Rattle.std.proofs.Common.{ℕ, ◌+◌, ◌*ℤ◌, ◌<◌, get_or, take, drop, refl, sym, ap, ◌∙◌, arith, w32, to_z, of_z}
use Rattle.std.proofs.lemmas.Int.{to_z-of_z, wrapping_mul_is}
use Rattle.std.proofs.lemmas.List.{take_all}
use Rattle.a95_base.specs.Integer.{wrapped}
use Rattle.a95_base.proofs.Lists.{Every-weaker}
use Rattle.a95_base.proofs.Wrapping.{wrapped_is}
use Rattle.a95_base.proofs.Integers.{integer_fits}
use Rattle.section_algebra.specs.Form.{Term, sum_in, IsBelow}
use Rattle.section_algebra.specs.Merging.{Takes}
use Rattle.section_algebra.proofs.Forms.{no_term, takes_one, factor_at, next_above, still_below, scale_value}
use Rattle.section_algebra.proofs.linear_form.terms_scaled.Goals as goal

pub put-requires-clause-lesser : goal.put-requires-clause-lesser
put-requires-clause-lesser c =
    Every-weaker (λ t. IsBelow t.0.0 (drop c.loop-term.term-index c.args.a.now))
    (λ t. t.0.0 < (get_or c.args.a.now c.loop-term.term-index no_term).0.0)
    (λ t below. next_above c.args.a.now c.loop-term.term-index no_term t.0.0 c.loop-term-test.true below)
    c.loop-term.terms.items c.loop-term.invariant.below

pub loop-term-preserved : goal.loop-term-preserved
loop-term-preserved c =
    let k : ℕ = c.loop-term.term-index in
    let t : Term = get_or c.args.a.now k no_term in
    let taken : Takes c.args.a.now k t.0.0 (k + 1) t.1 =
    takes_one c.args.a.now k no_term t.0.0 c.requires c.loop-term-test.true refl in
    let grown = c.in_ok-put.ensures in
    record {
      sum = grown.sum;
      below = still_below c.loop-term.terms.items _ c.args.a.now k _ _ _ _ grown taken c.loop-term.invariant.below;
      value = λ values.
          scale_value (sum_in values c.loop-term.terms.items) (sum_in values (take k c.args.a.now)) _
          (to_z w32 (of_z w32 c.args.factor)) t.1 (values t.0.0) _ _ (c.loop-term.invariant.value values)
          (wrapping_mul_is w32 c.args.factor t.1 c.ranges.factor
          (integer_fits t.1 (factor_at c.args.a.now k no_term c.requires c.loop-term-test.true))
          ∙ sym (wrapped_is (c.args.factor *ℤ t.1)) ∙ ap (λ z. wrapped (z *ℤ t.1))
          (sym (to_z-of_z w32 c.args.factor c.ranges.factor)))
          (grown.value values) (taken.value values);
    }

pub returns-clause-value : goal.returns-clause-value
returns-clause-value c = λ values.
    c.loop-term.invariant.value values
    ∙ ap (λ z. wrapped (z *ℤ sum_in values (take c.loop-term.term-index c.args.a.now)))
    (to_z-of_z w32 c.args.factor c.ranges.factor)
    ∙ ap (λ ts. wrapped (c.args.factor *ℤ sum_in values ts))
    (take_all c.loop-term.term-index c.args.a.now (omega (arith, c.loop-term-test.false)))
