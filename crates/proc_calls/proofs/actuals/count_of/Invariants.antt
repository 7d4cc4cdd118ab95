use Rattle.std.proofs.Common.{◌≡◌, ◌+◌, ◌≤◌, drop}
use Rattle.proc_calls.specs.View.{arguments_of}
use Rattle.proc_calls.specs.Rules.{argument_count}
use Rattle.proc_calls.proofs.actuals.count_of.Given as goal

abbrev pub invariant-loop-a : goal.invariant-loop-a
invariant-loop-a l =
    (l.count + argument_count (arguments_of (drop l._a-index l.es)) ≡ argument_count (arguments_of l.es))
    × (l.count ≤ l._a-index)
