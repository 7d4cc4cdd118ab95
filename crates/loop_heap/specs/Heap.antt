-- The blocks of a running program.
use Rattle.std.specs.Prelude.{ℕ, ◌+◌, List, ◌∷◌, Result, Ok}
use Rattle.loop_tree.specs.declared.stuck.StuckState.{StuckState}
use Rattle.loop_tree.specs.State.{Cells, Block}
use Rattle.loop_tree.specs.Values.{and_then}

-- the living blocks, newest first, and how many were ever made
pub record Heap : Type 0 where
  pub blocks : List Block
  pub made : ℕ

-- a block is made
abbrev pub with_new : Heap → Cells → Heap
with_new heap cells = record { blocks = record { number = heap.made; cells = cells } ∷ heap.blocks; made = heap.made + 1 }

-- the same, unless stuck
abbrev pub with_made : Heap → Result Cells StuckState → Result Heap StuckState
with_made heap cells = and_then cells (λ new. Ok (with_new heap new))
