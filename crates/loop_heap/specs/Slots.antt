-- Blocks in the order in which they were made, some of which were freed: how the code keeps them. No public clause
-- cites this.
use Rattle.std.specs.Prelude.{◌≡◌, ℕ, zero, suc, ◌+◌, ◌<◌, ◌≤◌, Bool, is_some, List, [], ◌∷◌, ◌++◌, length, get_or, Option, None}
use Rattle.std.specs.Prelude.{Some, Result, Ok, Err}
use Rattle.loop_tree.specs.declared.stuck.StuckState.{StuckState}
use Rattle.loop_tree.specs.declared.stuck.StuckState.TheVariants as stuck
use Rattle.loop_tree.specs.State.{Cells, Block, cells_at, cells_or_stuck}
use Rattle.loop_tree.specs.Values.{and_then}

-- what was made under a number, and the cells while it lives
pub record Kept : Type 0 where
  pub number : ℕ
  pub cells : Option Cells

abbrev pub block_of : ℕ → Option Cells → List Block
block_of n None = []
block_of n (Some cells) = record { number = n; cells = cells } ∷ []

-- the living blocks, newest first
abbrev pub living : List Kept → List Block
living [] = []
living (k ∷ ks) = living ks ++ block_of k.number k.cells

abbrev pub is_living : Kept → Bool
is_living k = is_some k.cells

-- the numbers rise, from `low` on and below `top`
abbrev pub IsRising : ℕ → ℕ → List Kept → Type 0
IsRising low top [] = low ≤ top
IsRising low top (k ∷ ks) = (low ≤ k.number) × IsRising (k.number + 1) top ks

-- other cells, where there are some
abbrev pub changed_slot : Kept → (Cells → Result Cells StuckState) → Result Kept StuckState
changed_slot k change =
    and_then (cells_or_stuck k.cells)
    (λ cells. and_then (change cells) (λ new. Ok (record { number = k.number; cells = Some new })))

-- the place of the block that a reference leads to, past the end where it leads to none that lives
pub record IsPlace (slots : List Kept) (link : Option ℕ) (at : ℕ) : Type 0 where
  pub found : (d : Kept) → at < length slots → link ≡ Some (get_or slots at d).number
  pub none : length slots ≤ at → cells_at (living slots) link ≡ Err stuck.NoBlock

-- the cells of a slot, if there is one
abbrev pub slot_cells : Option Kept → Result Cells StuckState
slot_cells None = Err stuck.NoBlock
slot_cells (Some k) = cells_or_stuck k.cells

-- the slots after the one at a place was freed
abbrev pub without_cells : List Kept → ℕ → List Kept
without_cells [] at = []
without_cells (k ∷ ks) zero = record { number = k.number; cells = None } ∷ ks
without_cells (k ∷ ks) (suc at) = k ∷ without_cells ks at
