use Rattle.std.proofs.Common.{◌≡◌, ◌-◌, ◌≤◌, length, take}
use Rattle.std.specs.Io.KnownBytes.{Appends}
use Rattle.io_edge.proofs.streams.WriterSinkSink.put.Given as goal

-- what the writer took so far is the front of the piece
abbrev pub invariant-loop-at : goal.invariant-loop-at
invariant-loop-at g l =
    let contents = g.W.Write.contents in
    record {
      within : l.at ≤ length l.bytes;
      front : Appends (contents l.fn.self.writer) (contents l.self.writer) (take l.at l.bytes);
      count : l.self.faults ≡ l.fn.self.faults;
    }

abbrev pub decreases-loop-at : goal.decreases-loop-at
decreases-loop-at g l = length l.bytes - l.at
