use Rattle.std.proofs.Common.{◌≡◌, drop}
use Rattle.std.specs.List.{list_all}
use Rattle.loop_tree.specs.Machine.{is_usable}
use Rattle.loop_rows.specs.Shown.{shown}
use Rattle.loop_rows.proofs.arguments.all_usable.Given as goal

abbrev pub invariant-loop-argument : goal.invariant-loop-argument
invariant-loop-argument l = list_all (is_usable (shown l.routines l.core)) (drop l.argument-index l.arguments)
    ≡ list_all (is_usable (shown l.routines l.core)) l.arguments
