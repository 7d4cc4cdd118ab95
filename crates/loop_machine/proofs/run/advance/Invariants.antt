use Rattle.std.proofs.Common.{◌≡◌}
use Rattle.loop_tree.proofs.Lessens.{left_over}
use Rattle.loop_rows.specs.Shown.{shown, lines_in}
use Rattle.loop_machine.specs.Steps.{Advances}
use Rattle.loop_machine.proofs.run.advance.Given as goal

abbrev pub invariant-loop-core : goal.invariant-loop-core
invariant-loop-core g l = record {
  advances : Advances l.routines (shown l.routines l.fn.core) 0 (shown l.routines l.core) (g.K.Sink.written l.fn.sink)
      (g.K.Sink.written l.sink);
  here : l.lines ≡ lines_in l.routines l.core.active.routine;
  same : g.K.Sink.faults l.sink ≡ g.K.Sink.faults l.fn.sink;
}

abbrev pub decreases-loop-core : goal.decreases-loop-core
decreases-loop-core g l = left_over (shown l.routines l.core)
