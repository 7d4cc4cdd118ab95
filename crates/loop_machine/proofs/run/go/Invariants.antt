use Rattle.std.proofs.Common.{◌≡◌, ◌≤◌, ◌-◌}
use Rattle.loop_rows.specs.Shown.{shown}
use Rattle.loop_machine.specs.Steps.{Advances}
use Rattle.loop_machine.proofs.run.go.Given as goal

abbrev pub invariant-loop-left : goal.invariant-loop-left
invariant-loop-left g l = record {
  within : l.left ≤ l.turns;
  advances : Advances l.routines (shown l.routines l.fn.core) (l.turns - l.left) (shown l.routines l.core)
      (g.K.Sink.written l.fn.sink) (g.K.Sink.written l.sink);
  same : g.K.Sink.faults l.sink ≡ g.K.Sink.faults l.fn.sink;
}

abbrev pub decreases-loop-left : goal.decreases-loop-left
decreases-loop-left g l = l.left
