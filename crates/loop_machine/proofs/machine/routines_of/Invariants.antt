use Rattle.std.proofs.Common.{◌≡◌, ◌++◌, length}
use Rattle.loop_machine.proofs.machine.routines_of.Given as goal

abbrev pub invariant-loop-function : goal.invariant-loop-function
invariant-loop-function l = l.left ++ l.made ≡ l.fn.functions

abbrev pub decreases-loop-function : goal.decreases-loop-function
decreases-loop-function l = length l.left
