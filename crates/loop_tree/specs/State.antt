-- What a running LoopC program consists of.
use Rattle.std.specs.Prelude.{ℕ, zero, suc, ℤ, pos, ◌+◌, ◌==◌, Bool, not, nat_lt, if◌then◌else◌, List, [], ◌∷◌, map, filter, Option}
use Rattle.std.specs.Prelude.{Some, None, Result, Ok, Err}
use Rattle.a95_base.specs.Outcome.{Stop}
use Rattle.a95_base.specs.declared.scalar.Scalar.{Scalar}
use Rattle.loop_tree.specs.declared.stuck.StuckState.{StuckState}
use Rattle.loop_tree.specs.declared.stuck.StuckState.TheVariants as stuck
use Rattle.loop_tree.specs.declared.atom.Atom.{Atom}
use Rattle.loop_tree.specs.declared.tree.CodeLine.{CodeLine}

-- an open brace: that of a choice, or of a loop with the lines of its body
pub data Brace : Type 0 where
  Choice : Brace
  Upward : (k : ℕ) (bound : Atom) (body : List CodeLine) → Brace
  Downward : (k : ℕ) (body : List CodeLine) → Brace
  Forever : (body : List CodeLine) → Brace

-- the cells of a block
pub data Cells : Type 0 where
  Ints : (cells : List ℤ) → Cells
  Texts : (cells : List (List ℕ)) → Cells

-- a living block. Blocks are numbered as they are made, and no number is given twice
pub record Block : Type 0 where
  pub number : ℕ
  pub cells : Cells

-- An active call: the lines that come next, the open braces, innermost first, the variables of each letter by their
-- numbers (those past the end have their first value), the line that f_at set, and the number of blocks that were
-- made before the call.
pub record Frame : Type 0 where
  pub rest : List CodeLine
  pub braces : List Brace
  pub ints : List ℤ
  pub indices : List ℤ
  pub texts : List (List ℕ)
  pub int_blocks : List (Option ℕ)
  pub text_blocks : List (Option ℕ)
  pub line : ℕ
  pub mark : ℕ

-- The innermost call, its callers, innermost first, the living blocks, how many were ever made, the values of the
-- pending record, and the input that is left.
pub record State : Type 0 where
  pub now : Frame
  pub callers : List Frame
  pub blocks : List Block
  pub made : ℕ
  pub pending : List Scalar
  pub input : List ℕ

-- what ends a program: what ends a source, or that it has no step
pub data End : Type 0 where
  Comes : (stop : Stop) → End
  Stuck : (why : StuckState) → End

-- what one step does: it may begin a turn and write a record
pub data Next : Type 0 where
  Goes : (turn : Bool) (written : List ℕ) (state : State) → Next
  Ends : (how : End) → Next

-- ---- variables

-- the variables after number n is set, where the others start at `first`
unfoldable pub with_at : {A : Type 0} → A → List A → ℕ → A → List A
with_at first [] zero value = value ∷ []
with_at first [] (suc n) value = first ∷ with_at first [] n value
with_at first (x ∷ xs) zero value = value ∷ xs
with_at first (x ∷ xs) (suc n) value = x ∷ with_at first xs n value

abbrev pub with_frame : State → Frame → State
with_frame s frame = record s { now = frame }

abbrev pub with_rest : State → List CodeLine → State
with_rest s rest = record s { now = record s.now { rest = rest } }

abbrev pub with_place : State → List CodeLine → List Brace → State
with_place s rest braces = record s { now = record s.now { rest = rest; braces = braces } }

abbrev pub set_int : State → ℕ → ℤ → State
set_int s n value = record s { now = record s.now { ints = with_at (pos 0) s.now.ints n value } }

abbrev pub set_index : State → ℕ → ℤ → State
set_index s k value = record s { now = record s.now { indices = with_at (pos 0) s.now.indices k value } }

abbrev pub set_text : State → ℕ → List ℕ → State
set_text s n value = record s { now = record s.now { texts = with_at [] s.now.texts n value } }

abbrev pub set_int_block : State → ℕ → Option ℕ → State
set_int_block s n block = record s { now = record s.now { int_blocks = with_at None s.now.int_blocks n block } }

abbrev pub set_text_block : State → ℕ → Option ℕ → State
set_text_block s n block = record s { now = record s.now { text_blocks = with_at None s.now.text_blocks n block } }

-- ---- blocks

abbrev pub cells_numbered : List Block → ℕ → Option Cells
cells_numbered [] n = None
cells_numbered (b ∷ bs) n = if b.number == n then Some b.cells else cells_numbered bs n

-- the cells of the block that a reference leads to; stuck where it leads to none that lives
abbrev pub cells_or_stuck : Option Cells → Result Cells StuckState
cells_or_stuck None = Err stuck.NoBlock
cells_or_stuck (Some cells) = Ok cells

abbrev pub cells_at : List Block → Option ℕ → Result Cells StuckState
cells_at blocks None = Err stuck.NoBlock
cells_at blocks (Some n) = cells_or_stuck (cells_numbered blocks n)

-- the blocks after the one of this number got other cells, was freed, and after those from a number on were freed
abbrev pub with_cells : List Block → ℕ → Cells → List Block
with_cells blocks n cells = map (λ (b : Block). if b.number == n then record { number = n; cells = cells } else b) blocks

abbrev pub without : List Block → ℕ → List Block
without blocks n = filter (λ (b : Block). not (b.number == n)) blocks

abbrev pub made_before : List Block → ℕ → List Block
made_before blocks mark = filter (λ (b : Block). nat_lt b.number mark) blocks

-- a block that is made
abbrev pub with_new_block : State → Cells → State
with_new_block s cells = record s { blocks = record { number = s.made; cells = cells } ∷ s.blocks; made = s.made + 1 }

abbrev pub with_blocks : State → List Block → State
with_blocks s blocks = record s { blocks = blocks }
