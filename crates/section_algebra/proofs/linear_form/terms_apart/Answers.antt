use Rattle.std.proofs.Common.{◌-ℤ◌, take, sym, ◌∙◌, FitsSigned, w32, rules}
use Rattle.std.proofs.lemmas.Int.{wrapping_sub_is}
use Rattle.a95_base.proofs.Wrapping.{wrapped_is}
use Rattle.section_algebra.specs.Form.{sum_in}
use Rattle.section_algebra.proofs.Forms.{still_below, merge_value}
use Rattle.section_algebra.proofs.linear_form.terms_apart.Goals as goal

pub loop-atom-preserved : goal.loop-atom-preserved
loop-atom-preserved c =
    let a = c.take_term-next_a.ensures in
    let b = c.take_term-next_b.ensures in
    let plus_fits : FitsSigned w32 c.take_term-next_a.result.1 = search rules in
    let minus_fits : FitsSigned w32 c.take_term-next_b.result.1 = search rules in
    let grown = c.in_ok-put.ensures in
    record {
      within_a = a.within;
      within_b = b.within;
      sum = grown.sum;
      below_a = still_below c.loop-atom.terms.items _ c.args.a.now c.loop-atom.from_a _ _ _ _ grown a c.loop-atom.invariant.below_a;
      below_b = still_below c.loop-atom.terms.items _ c.args.b.now c.loop-atom.from_b _ _ _ _ grown b c.loop-atom.invariant.below_b;
      value = λ values.
          merge_value (sum_in values c.loop-atom.terms.items) (sum_in values (take c.loop-atom.from_a c.args.a.now))
          (sum_in values (take c.loop-atom.from_b c.args.b.now)) c.take_term-next_a.result.1 c.take_term-next_b.result.1 _
          (values c.in-Some.atom.0) _ _ _
          (c.loop-atom.invariant.value values)
          (wrapping_sub_is w32 c.take_term-next_a.result.1 c.take_term-next_b.result.1 plus_fits minus_fits
          ∙ sym (wrapped_is (c.take_term-next_a.result.1 -ℤ c.take_term-next_b.result.1)))
          (grown.value values) (a.value values) (b.value values);
    }
