use Rattle.std.proofs.Common.{◌≡◌, take}
use Rattle.loop_rows.specs.Shown.{shown}
use Rattle.loop_rows.specs.Callees.{entered}
use Rattle.loop_rows.proofs.arguments.entered.Given as goal

abbrev pub invariant-loop-argument : goal.invariant-loop-argument
invariant-loop-argument l = l.callee ≡ entered (shown l.routines l.core) l.n (take l.argument-index l.arguments)
