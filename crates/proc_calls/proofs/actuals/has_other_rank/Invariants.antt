use Rattle.std.proofs.Common.{◌≡◌, drop}
use Rattle.proc_calls.specs.View.{arguments_of}
use Rattle.proc_calls.specs.Rules.{some_actual, is_other_rank}
use Rattle.proc_calls.proofs.actuals.has_other_rank.Given as goal

abbrev pub invariant-loop-a : goal.invariant-loop-a
invariant-loop-a l =
    some_actual (is_other_rank l.greatest) l.i.dummies (arguments_of (drop l.a-index l.es))
    ≡ some_actual (is_other_rank l.greatest) l.i.dummies (arguments_of l.es)
