use Rattle.std.proofs.Common.{◌≡◌, replicate, true}
use Rattle.proc_calls.proofs.actuals.all_free.Given as goal

abbrev pub invariant-loop-place : goal.invariant-loop-place
invariant-loop-place l = l.free.items ≡ replicate l._place true
