use Rattle.std.proofs.Common.{◌≡◌, ◌+◌, ◌-◌, length}
use Rattle.loop_machine.specs.Plans.{Plans}
use Rattle.loop_machine.proofs.sweep.plan.Given as goal

abbrev pub invariant-loop-row : goal.invariant-loop-row
invariant-loop-row l = record {
  rows : Plans l.core.active.int_blocks l.core.active.line l.k l.lines l.from l.rows.items;
  place : l.place ≡ l.from + length l.rows.items;
}

abbrev pub decreases-loop-row : goal.decreases-loop-row
decreases-loop-row l = length l.lines - l.place
