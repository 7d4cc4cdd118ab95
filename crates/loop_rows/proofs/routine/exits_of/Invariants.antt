use Rattle.std.proofs.Common.{◌≡◌, ◌≤◌, length, drop}
use Rattle.loop_rows.specs.Exits.{open_before, table_from}
use Rattle.loop_rows.proofs.routine.exits_of.Given as goal

abbrev pub invariant-loop-at : goal.invariant-loop-at
invariant-loop-at l = record {
  within : l.at ≤ length l.lines;
  end : l.end ≡ length l.lines;
  opens : l.open ≡ open_before l.end l.at (drop l.at l.lines);
  table : l.exits ≡ table_from l.end l.at (drop l.at l.lines);
}

abbrev pub decreases-loop-at : goal.decreases-loop-at
decreases-loop-at l = l.at
