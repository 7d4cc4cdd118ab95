use Rattle.std.proofs.Common.{◌≡◌, drop}
use Rattle.proc_calls.specs.View.{arguments_of}
use Rattle.proc_calls.specs.Rules.{some_actual, is_array_actual}
use Rattle.proc_calls.proofs.actuals.has_array.Given as goal

abbrev pub invariant-loop-a : goal.invariant-loop-a
invariant-loop-a l =
    some_actual is_array_actual l.i.dummies (arguments_of (drop l.a-index l.es))
    ≡ some_actual is_array_actual l.i.dummies (arguments_of l.es)
