use Rattle.std.proofs.Common.{◌≡◌, ◌+◌, ◌-◌, ◌∙◌, Result, Ok, Err, refl, subst, arith}
use Rattle.loop_machine.specs.declared.end.End.{End}
use Rattle.loop_machine.specs.declared.end.End.TheVariants as end
use Rattle.loop_rows.specs.Shown.{shown}
use Rattle.loop_machine.specs.Steps.{Advances}
use Rattle.loop_machine.proofs.Steps.{advances_none, advances_then, advances_silently}
use Rattle.loop_machine.proofs.Runs.{no_fault, then_runs}
use Rattle.loop_machine.proofs.run.go.Goals as goal

pub loop-left-init : goal.loop-left-init
loop-left-init g c =
    let fs = c.args.routines.now in
    let bytes = g.K.Sink.written c.args.sink.now in
    let spent : 0 ≡ c.args.turns - c.args.turns = omega arith in
    record {
      within = omega arith;
      advances = subst (λ k. Advances fs (shown fs c.args.core.now) k (shown fs c.args.core.now) bytes bytes) spent
          (advances_none fs (shown fs c.args.core.now) bytes);
      same = refl;
    }

pub returns-in-Err-clause-runs : goal.returns-in-Err-clause-runs
returns-in-Err-clause-runs g c =
    let fs = c.args.routines.now in
    let within = c.loop-left.invariant.within in
    let all : c.args.turns - c.loop-left.left + c.loop-left.left ≡ c.args.turns = omega arith in
    then_runs fs (shown fs c.args.core.now) (shown fs c.loop-left.core) (shown fs c.advance.new.core)
    (c.args.turns - c.loop-left.left) c.loop-left.left c.args.turns c.in-Err.end
    (g.K.Sink.written c.args.sink.now) (g.K.Sink.written c.loop-left.sink) (g.K.Sink.written c.advance.new.sink) all
    c.loop-left.invariant.advances c.in-Err.ensures.advanced

pub loop-left-preserved : goal.loop-left-preserved
loop-left-preserved g c =
    let fs = c.args.routines.now in
    let old = g.K.Sink.written c.args.sink.now in
    let new = g.K.Sink.written c.advance.new.sink in
    let some = c.in-Ok.ensures.advanced.0 in
    let within = c.loop-left.invariant.within in
    let used = c.sweep-used.result in
    let fits = c.sweep-used.ensures.within in
    let same = c.from-left.ensures in
    let spent : c.args.turns - c.loop-left.left + 1 + used ≡ c.args.turns - (c.loop-left.left - 1 - c.from-left.result) =
    omega (arith, same) in
    let turn = advances_then fs (shown fs c.args.core.now) (shown fs c.loop-left.core) (shown fs c.advance.new.core)
    (c.args.turns - c.loop-left.left) 1
    old (g.K.Sink.written c.loop-left.sink) new c.loop-left.invariant.advances c.in-Ok.ensures.advanced.1 in
    record {
      within = omega (arith, same);
      advances = subst (λ k. Advances fs (shown fs c.args.core.now) k (shown fs c.sweep-used.new.core) old new) spent
          (advances_silently fs (shown fs c.args.core.now) (shown fs c.advance.new.core) (shown fs c.sweep-used.new.core)
          (c.args.turns - c.loop-left.left + 1) used old new turn c.sweep-used.ensures.led);
      same = c.advance.ensures.same (no_fault c.advance.result _ c.in-Ok.is) ∙ c.loop-left.invariant.same;
    }
