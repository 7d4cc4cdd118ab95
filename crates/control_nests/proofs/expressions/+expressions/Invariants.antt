use Rattle.std.proofs.Common.{◌≡◌, drop}
use Rattle.f95_unit.specs.View.{line_of}
use Rattle.proc_calls.specs.View.{arguments_of}
use Rattle.control_lower.specs.Trees as made
use Rattle.control_nests.specs.View.{all_then}
use Rattle.control_nests.proofs.expressions.+expressions.Given as goal

abbrev pub invariant-arguments-loop-a : goal.invariant-arguments-loop-a
invariant-arguments-loop-a l =
    all_then (line_of l.line) l.all (arguments_of (drop l.a-index l.es))
    ≡ made.arguments (line_of l.line) l.fn.taken (arguments_of l.es)
