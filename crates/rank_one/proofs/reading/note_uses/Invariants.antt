use Rattle.std.proofs.Common.{◌≡◌, ◌++◌, map, drop}
use Rattle.rank_one.specs.Noting.{use_break}
use Rattle.rank_one.proofs.reading.note_uses.Given as goal

abbrev pub invariant-loop-used : goal.invariant-loop-used
invariant-loop-used l = l.breaks ++ map use_break (drop l.used-index l.uses) ≡ l.initial.breaks ++ map use_break l.uses
