use Rattle.std.proofs.Common.{◌≡◌, replicate, None}
use Rattle.proc_calls.proofs.interface.empty_places.Given as goal

abbrev pub invariant-loop-place : goal.invariant-loop-place
invariant-loop-place l = l.places ≡ replicate l._place None
