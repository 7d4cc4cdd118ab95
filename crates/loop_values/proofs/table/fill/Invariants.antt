use Rattle.std.proofs.Common.{◌≡◌, ◌++◌, replicate}
use Rattle.loop_values.proofs.table.fill.Given as goal

abbrev pub invariant-loop : goal.invariant-loop
invariant-loop g l = l.low.items ≡ l.fn.low.items ++ replicate l.counter g.T.First.first
