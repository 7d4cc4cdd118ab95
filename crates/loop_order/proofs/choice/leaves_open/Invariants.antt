use Rattle.std.proofs.Common.{◌≡◌, drop}
use Rattle.loop_order.specs.Left.{is_open}
use Rattle.loop_order.proofs.choice.leaves_open.Given as goal

abbrev pub invariant-loop-dim : goal.invariant-loop-dim
invariant-loop-dim g l = is_open (drop l.dim l.taken) (drop l.dim l.entries) ≡ is_open l.taken l.entries
