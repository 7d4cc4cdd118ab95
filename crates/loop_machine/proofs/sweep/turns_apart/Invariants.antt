use Rattle.std.proofs.Common.{◌≡◌, ◌≤◌, ◌+◌, ◌*◌, ◌-◌, drop, length}
use Rattle.loop_tree.specs.Values.{number_at}
use Rattle.loop_rows.specs.Shown.{shown}
use Rattle.loop_machine.specs.Steps.{ReachesSilently}
use Rattle.loop_machine.specs.Plans.{assembled, placed}
use Rattle.loop_machine.proofs.sweep.turns_apart.Given as goal

abbrev pub invariant-loop-row : goal.invariant-loop-row
invariant-loop-row l = record {
  within : l.used ≤ l.may;
  led : ReachesSilently l.routines (shown l.routines (assembled l.fn.core l.fn.ints l.fn.blocks)) l.used
      (shown l.routines (placed (assembled l.core l.ints l.blocks) (l.fn.core.active.place + (length l.plan - length l.rest))));
  rows : length l.rest ≤ length l.plan;
  behind : drop (length l.plan - length l.rest) l.plan ≡ l.rest;
  routine : l.core.active.routine ≡ l.fn.core.active.routine;
  braces : l.core.active.braces ≡ l.fn.core.active.braces;
  line : l.core.active.line ≡ l.fn.core.active.line;
  int_blocks : l.core.active.int_blocks ≡ l.fn.core.active.int_blocks;
  own : l.own ≡ number_at l.core.active.indices l.k;
}

abbrev pub decreases-loop-row : goal.decreases-loop-row
decreases-loop-row l = (l.may - l.used) * (length l.plan + 1) + length l.rest
