use Rattle.std.proofs.Common.{◌≡◌, ◌∙◌, ℕ, List, take, sym, ap, arith}
use Rattle.a95_base.specs.Text.{trim}
use Rattle.text_functions.proofs.Ends.{trim_step, trim_stop}
use Rattle.text_functions.proofs.blanks.without_end_blanks.Goals as goal
use Rattle.text_functions.proofs.blanks.without_end_blanks.Goals.{then-loop-length-test+else-text-length-eq32}
use Rattle.text_functions.proofs.blanks.without_end_blanks.Goals.{else-loop-length-test}

nothing_left : (text : List ℕ) (n : ℕ) → n ≡ 0 → trim (take n text) ≡ take n text
nothing_left text n e = ap (λ k. trim (take k text)) e ∙ sym (ap (λ k. take k text) e)

pub loop-length-preserved : goal.loop-length-preserved
loop-length-preserved c = record {
  within = omega (arith, c.loop-length.invariant.within);
  same = sym
      (trim_step c.args.text.now c.loop-length.length c.loop-length-test.true c.loop-length.invariant.within
      c.if-text-length-eq32.true) ∙ c.loop-length.invariant.same;
}

pub returns-clause-text : goal.returns-clause-text
returns-clause-text c =
    let n = c.loop-length.length in
    let whole : trim (take n c.args.text.now) ≡ take n c.args.text.now =
    elim c.loop-length-test.branch [
      | then-loop-length-test+else-text-length-eq32 w ↦ trim_stop c.args.text.now n w.loop-length-test.true
          c.loop-length.invariant.within w.if-text-length-eq32.false
      | else-loop-length-test w ↦ nothing_left c.args.text.now n (omega arith)
    ] in
    sym whole ∙ c.loop-length.invariant.same
