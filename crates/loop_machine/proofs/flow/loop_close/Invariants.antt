use Rattle.std.proofs.Common.{◌≡◌, drop, length}
use Rattle.std.specs.Prelude.{map}
use Rattle.loop_tree.specs.Machine.{exits, first_exit, loop_end}
use Rattle.loop_rows.specs.Shown.{lines_in, brace}
use Rattle.loop_machine.proofs.flow.loop_close.Given as goal

abbrev pub invariant-loop-braces : goal.invariant-loop-braces
invariant-loop-braces l = record {
  same : loop_end (map (brace (lines_in l.routines l.routine)) l.braces) (exits (drop l.closing (lines_in l.routines l.routine)))
      ≡ loop_end (map (brace (lines_in l.routines l.routine)) l.fn.braces) (exits (drop l.place (lines_in l.routines l.routine)));
  closes : first_exit (exits (drop l.closing (lines_in l.routines l.routine))) ≡ drop l.closing (lines_in l.routines l.routine);
}

abbrev pub decreases-loop-braces : goal.decreases-loop-braces
decreases-loop-braces l = length l.braces
