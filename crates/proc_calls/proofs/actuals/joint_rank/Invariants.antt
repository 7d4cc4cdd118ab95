use Rattle.std.proofs.Common.{◌≡◌, max, drop}
use Rattle.proc_calls.specs.View.{arguments_of}
use Rattle.proc_calls.specs.Rules.{joint_rank}
use Rattle.proc_calls.proofs.actuals.joint_rank.Given as goal

abbrev pub invariant-loop-a : goal.invariant-loop-a
invariant-loop-a l = max l.greatest (joint_rank (arguments_of (drop l.a-index l.es))) ≡ joint_rank (arguments_of l.es)
