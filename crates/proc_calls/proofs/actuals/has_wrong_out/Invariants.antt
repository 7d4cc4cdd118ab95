use Rattle.std.proofs.Common.{◌≡◌, drop}
use Rattle.proc_calls.specs.View.{arguments_of}
use Rattle.proc_calls.specs.Rules.{some_actual, is_no_place}
use Rattle.proc_calls.proofs.actuals.has_wrong_out.Given as goal

abbrev pub invariant-loop-a : goal.invariant-loop-a
invariant-loop-a l =
    some_actual (is_no_place l.roles l.dos) l.i.dummies (arguments_of (drop l.a-index l.es))
    ≡ some_actual (is_no_place l.roles l.dos) l.i.dummies (arguments_of l.es)
