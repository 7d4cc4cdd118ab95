use Rattle.std.proofs.Common.{◌≡◌, ◌&&◌, drop}
use Rattle.proc_calls.specs.View.{arguments_of}
use Rattle.control_lower.specs.Lowers.{lowers_all}
use Rattle.control_nests.proofs.lowers.+expressions.Given as goal

abbrev pub invariant-lowers_all-loop-a : goal.invariant-lowers_all-loop-a
invariant-lowers_all-loop-a l = (l.all && lowers_all (arguments_of (drop l.a-index l.es))) ≡ lowers_all (arguments_of l.es)
