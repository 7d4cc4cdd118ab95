use Rattle.std.proofs.Common.{◌≡◌, drop}
use Rattle.loop_order.specs.Legal.{settles}
use Rattle.loop_order.proofs.order.is_settled.Given as goal

abbrev pub invariant-loop-level : goal.invariant-loop-level
invariant-loop-level g l = settles (drop l.level l.order) l.entries ≡ settles l.order l.entries
