use Rattle.std.proofs.Common.{◌≡◌, drop}
use Rattle.proc_calls.specs.View.{subscripts_of}
use Rattle.proc_calls.specs.Rules.{has_vector}
use Rattle.proc_calls.proofs.actuals.has_vector.Given as goal

abbrev pub invariant-loop-s : goal.invariant-loop-s
invariant-loop-s l = has_vector (subscripts_of (drop l.s-index l.subscripts)) ≡ has_vector (subscripts_of l.subscripts)
