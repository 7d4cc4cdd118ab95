use Rattle.std.proofs.Common.{◌≡◌, drop}
use Rattle.std.specs.List.{list_any}
use Rattle.proc_calls.proofs.actuals.is_one_left.Given as goal

abbrev pub invariant-loop-is_free : goal.invariant-loop-is_free
invariant-loop-is_free l = list_any (λ b. b) (drop l.is_free-index l.free) ≡ list_any (λ b. b) l.free
