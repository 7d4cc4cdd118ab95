use Rattle.std.proofs.Common.{subst, List}
use Rattle.loop_tree.specs.declared.tree.Function.{Function}
use Rattle.loop_rows.specs.Shown.{shown}
use Rattle.loop_machine.specs.Running.{Running, RunsTo}
use Rattle.loop_machine.proofs.Runs.{runs_decide}
use Rattle.loop_machine.proofs.machine.Machine.run.Goals as goal

pub returns-clause-runs : goal.returns-clause-runs
returns-clause-runs g c = λ none.
    let old = g.K.Sink.written c.args.sink.now in
    let new = g.K.Sink.written c.go-end.new.sink in
    let fs = c.self.inside.routines in
    let ran = subst (λ (x : List Function). RunsTo x (shown x c.self.inside.core) c.args.turns c.go-end.result
    (shown x c.go-end.new.core) old new) c.as_slice.ensures c.go-end.ensures.runs in
    subst (λ (m : Running). RunsTo m.functions m.state c.args.turns c.go-end.result (shown fs c.go-end.new.core) old new)
    c.self.view_is ran

pub returns-clause-decided : goal.returns-clause-decided
returns-clause-decided g c = λ none written outcome runs.
    runs_decide c.args.self.now.functions c.args.self.now.state c.args.turns (shown c.self.inside.routines c.go-end.new.core)
    c.go-end.result
    (g.K.Sink.written c.args.sink.now) (g.K.Sink.written c.go-end.new.sink) (returns-clause-runs g c none) written outcome runs
