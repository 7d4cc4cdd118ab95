use Rattle.std.proofs.Common.{Result, Err, ◌<◌, ◌+◌, ◌∙◌, ℕ, zero, suc, nat_lt, true, false, ◌≡◌, Ok, ap, refl, sym, subst, arith}
use Rattle.loop_tree.proofs.Lessens.{left_over}
use Rattle.loop_rows.specs.declared.state.Core.{Core}
use Rattle.loop_machine.specs.declared.end.End.{End}
use Rattle.loop_machine.specs.declared.end.End.TheVariants as end
use Rattle.loop_rows.specs.Shown.{shown, lines_in}
use Rattle.loop_machine.specs.Steps.{Advances, Passed}
use Rattle.loop_machine.proofs.Steps.{advances_none, then_step, silent_step, step_lessens_left}
use Rattle.loop_machine.proofs.Runs.{no_fault, then_runs}
use Rattle.loop_machine.proofs.run.advance.Goals as goal

positive : (n : ℕ) → nat_lt 0 n ≡ true → 0 < n
positive zero e = absurd cc
positive (suc n) e = omega arith

pub loop-core-init : goal.loop-core-init
loop-core-init g c =
    record {
      advances = advances_none c.args.routines.now (shown c.args.routines.now c.args.core.now)
          (g.K.Sink.written c.args.sink.now);
      here = c.lines_at-lines.ensures;
      same = refl;
    }

-- a row

pub loop-core-smaller-then-next_row : goal.loop-core-smaller-then-next_row
loop-core-smaller-then-next_row g c =
    let fs = c.args.routines.now in
    let bytes = g.K.Sink.written c.loop-core.sink in
    step_lessens_left fs (shown fs c.loop-core.core) (shown fs c.next_row.new.core) bytes bytes
    (silent_step fs (shown fs c.loop-core.core) (shown fs c.next_row.new.core) false bytes
    (c.next_row.ensures.led c.if-next_row.true))

pub loop-core-preserved-then-next_row : goal.loop-core-preserved-then-next_row
loop-core-preserved-then-next_row g c =
    let fs = c.args.routines.now in
    let bytes = g.K.Sink.written c.loop-core.sink in
    let step = silent_step fs (shown fs c.loop-core.core) (shown fs c.next_row.new.core) false bytes
    (c.next_row.ensures.led c.if-next_row.true) in
    record {
      advances = then_step fs (shown fs c.args.core.now) (shown fs c.loop-core.core) (shown fs c.next_row.new.core) false
          (g.K.Sink.written c.args.sink.now) bytes bytes c.loop-core.invariant.advances step;
      here = c.loop-core.invariant.here ∙ ap (lines_in fs) (sym c.next_row.ensures.routine);
      same = c.loop-core.invariant.same;
    }

-- a turn

pub returns-then-next_turn-clause-advanced : goal.returns-then-next_turn-clause-advanced
returns-then-next_turn-clause-advanced g c =
    let fs = c.args.routines.now in
    let bytes = g.K.Sink.written c.loop-core.sink in
    let led = c.next_turn.ensures.led c.if-next_turn.true in
    let kept = c.next_row.ensures.stays c.if-next_row.false in
    let here = subst (λ (core : Core). Advances fs (shown fs c.args.core.now) 0 (shown fs core)
    (g.K.Sink.written c.args.sink.now) bytes) (sym kept) c.loop-core.invariant.advances in (
      positive c.args.left led.0,
      then_step fs (shown fs c.args.core.now) (shown fs c.next_row.new.core) (shown fs c.next_turn.new.core) true
          (g.K.Sink.written c.args.sink.now) bytes bytes here
          (silent_step fs (shown fs c.next_row.new.core) (shown fs c.next_turn.new.core) true bytes led.1),
    )

-- any line

pub returns-in-Ok-true-clause-advanced : goal.returns-in-Ok-true-clause-advanced
returns-in-Ok-true-clause-advanced g c =
    let fs = c.args.routines.now in
    let old = g.K.Sink.written c.args.sink.now in
    let bytes = g.K.Sink.written c.loop-core.sink in
    let kept = c.next_turn.ensures.stays c.if-next_turn.false ∙ c.next_row.ensures.stays c.if-next_row.false in
    let here = subst (λ (core : Core). Advances fs (shown fs c.args.core.now) 0 (shown fs core) old bytes) (sym kept)
    c.loop-core.invariant.advances in
    let passed = subst (λ turn. Passed fs (shown fs c.next_turn.new.core) (shown fs c.pass.new.core) c.args.left (Ok turn) bytes
    (g.K.Sink.written c.pass.new.sink)) c.in-Ok-true.field-0-test c.in-Ok-true.ensures.passed in (
      passed.0 refl,
      then_step fs (shown fs c.args.core.now) (shown fs c.next_turn.new.core) (shown fs c.pass.new.core) true old
          bytes (g.K.Sink.written c.pass.new.sink) here passed.1,
    )

pub loop-core-smaller : goal.loop-core-smaller
loop-core-smaller g c =
    let fs = c.args.routines.now in
    let bytes = g.K.Sink.written c.loop-core.sink in
    let kept = c.next_turn.ensures.stays c.if-next_turn.false ∙ c.next_row.ensures.stays c.if-next_row.false in
    let passed = subst (λ turn. Passed fs (shown fs c.next_turn.new.core) (shown fs c.pass.new.core) c.args.left (Ok turn) bytes
    (g.K.Sink.written c.pass.new.sink)) c.in-Ok-false.field-0-test c.in-Ok-false.ensures.passed in
    subst (λ (core : Core). left_over (shown fs c.pass.new.core) < left_over (shown fs core)) kept
    (step_lessens_left fs (shown fs c.next_turn.new.core) (shown fs c.pass.new.core) bytes (g.K.Sink.written c.pass.new.sink)
    passed.1)

pub loop-core-preserved : goal.loop-core-preserved
loop-core-preserved g c =
    let fs = c.args.routines.now in
    let old = g.K.Sink.written c.args.sink.now in
    let bytes = g.K.Sink.written c.loop-core.sink in
    let kept = c.next_turn.ensures.stays c.if-next_turn.false ∙ c.next_row.ensures.stays c.if-next_row.false in
    let here = subst (λ (core : Core). Advances fs (shown fs c.args.core.now) 0 (shown fs core) old bytes) (sym kept)
    c.loop-core.invariant.advances in
    let passed = subst (λ turn. Passed fs (shown fs c.next_turn.new.core) (shown fs c.pass.new.core) c.args.left (Ok turn) bytes
    (g.K.Sink.written c.pass.new.sink)) c.in-Ok-false.field-0-test c.in-Ok-false.ensures.passed in
    record {
      advances = then_step fs (shown fs c.args.core.now) (shown fs c.next_turn.new.core) (shown fs c.pass.new.core) false old
          bytes (g.K.Sink.written c.pass.new.sink) here passed.1;
      here = c.lines_at-lines-in-Ok-false.ensures;
      same = c.pass.ensures.same (no_fault c.pass.result _ c.in-Ok-false.is) ∙ c.loop-core.invariant.same;
    }

pub returns-in-Err-clause-advanced : goal.returns-in-Err-clause-advanced
returns-in-Err-clause-advanced g c =
    let fs = c.args.routines.now in
    let old = g.K.Sink.written c.args.sink.now in
    let bytes = g.K.Sink.written c.loop-core.sink in
    let kept = c.next_turn.ensures.stays c.if-next_turn.false ∙ c.next_row.ensures.stays c.if-next_row.false in
    let here = subst (λ (core : Core). Advances fs (shown fs c.args.core.now) 0 (shown fs core) old bytes) (sym kept)
    c.loop-core.invariant.advances in
    let none : 0 + c.args.left ≡ c.args.left = omega arith in
    then_runs fs (shown fs c.args.core.now) (shown fs c.next_turn.new.core) (shown fs c.pass.new.core) 0 c.args.left c.args.left
    c.in-Err.end old bytes (g.K.Sink.written c.pass.new.sink) none here c.in-Err.ensures.passed
