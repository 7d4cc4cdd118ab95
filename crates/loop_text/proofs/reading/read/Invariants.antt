use Rattle.std.proofs.Common.{length}
use Rattle.loop_text.proofs.Progress.{Progress}
use Rattle.loop_text.proofs.reading.read.Given as goal

abbrev pub invariant-loop-end : goal.invariant-loop-end
invariant-loop-end l = Progress l.bytes l.rest l.count l.reader

abbrev pub decreases-loop-end : goal.decreases-loop-end
decreases-loop-end l = length l.rest
