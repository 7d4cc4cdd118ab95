use Rattle.std.proofs.Common.{ℕ, ◌≤◌}
use Rattle.a95_base.specs.Lists.{Member}
use Rattle.rank_shape.proofs.order.names_all.Given as goal

abbrev pub invariant-loop-k : goal.invariant-loop-k
invariant-loop-k g l = (j : ℕ) → 1 ≤ j → j ≤ l.k → Member l.loops j
