use Rattle.std.proofs.Common.{◌≡◌, length, string_bytes}
use Rattle.loop_writer.proofs.Written.{Written}
use Rattle.loop_writer.proofs.writing.write.Given as goal

abbrev pub invariant-loop-held : goal.invariant-loop-held
invariant-loop-held g l = record {
  written : Written (g.P.Producer.left l.fn.pieces) (g.P.Producer.left l.pieces) l.count (g.K.Sink.written l.fn.out)
      (g.K.Sink.written l.out) (string_bytes l.held);
  faults : g.K.Sink.faults l.out ≡ g.K.Sink.faults l.fn.out;
}

abbrev pub decreases-loop-held : goal.decreases-loop-held
decreases-loop-held g l = length (g.P.Producer.left l.pieces)
