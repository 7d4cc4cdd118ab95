use Rattle.std.proofs.Common.{◌+◌, ◌-◌, ◌^◌, ◌≤◌}
use Rattle.std.specs.Io.{StartsWith, appended_bytes}
use Rattle.std.specs.Io.KnownBytes.{Consumes}
use Rattle.std.specs.Prelude.{vec_len}
use Rattle.io_edge.proofs.files.append_all.Given as goal

-- what was appended so far is what the reader lost
abbrev pub invariant-loop-reader : goal.invariant-loop-reader
invariant-loop-reader g l =
    let remaining = g.R.Read.remaining in
    record {
      longer : l.start ≤ vec_len l.into;
      front : StartsWith l.into.items l.fn.into.items;
      taken : Consumes (remaining l.fn.reader) (remaining l.reader) (appended_bytes l.fn.into.items l.into.items);
    }

abbrev pub decreases-loop-reader : goal.decreases-loop-reader
decreases-loop-reader g l = (2 ^ 32 + 1 + l.start) - vec_len l.into
