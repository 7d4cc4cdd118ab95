use Rattle.std.proofs.Common.{◌≡◌, ◌++◌, replicate}
use Rattle.loop_heap.proofs.slot.add_texts.Given as goal

abbrev pub invariant-loop : goal.invariant-loop
invariant-loop l = l.cells.items ≡ l.fn.cells.items ++ replicate l.counter (replicate l.size 32)
