use Rattle.std.proofs.Common.{◌≡◌, ◌+◌, ◌-◌, ◌≤◌, ◌^◌, length}
use Rattle.std.specs.Io.KnownBytes.{Consumes}
use Rattle.f95a_core.proofs.intake.take_all.Given as goal

-- the bytes are those that were taken
abbrev pub invariant-loop-piece : goal.invariant-loop-piece
invariant-loop-piece g l = record {
  taken : Consumes (g.S.Source.left l.fn.input) (g.S.Source.left l.input) l.bytes.items;
  within : length l.bytes.items ≤ 2 ^ 24 + 1;
  room : length l.piece ≡ 2 ^ 16;
  later : g.S.Source.faults l.fn.input ≤ g.S.Source.faults l.input;
}

abbrev pub decreases-loop-piece : goal.decreases-loop-piece
decreases-loop-piece g l = 2 ^ 24 + 1 - length l.bytes.items
