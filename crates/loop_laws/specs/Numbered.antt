-- Variables and blocks by their numbers: what is set, made, changed and freed has this value, and every other is as before.
use Rattle.std.specs.Prelude.{◌≡◌, ◌≢◌, ℕ, ◌<◌, ◌≤◌, List, ◌∷◌, get_or, Some, None}
use Rattle.loop_tree.specs.State.{Cells, Block, with_at, cells_numbered, with_cells, without, made_before}

abbrev pub SetHere : (A : Type 0) → Type 0
SetHere A = (first : A) (variables : List A) (n : ℕ) (value : A) → get_or (with_at first variables n value) n first ≡ value

abbrev pub SetElsewhere : (A : Type 0) → Type 0
SetElsewhere A = (first : A) (variables : List A) (n m : ℕ) (value : A) → n ≢ m →
    get_or (with_at first variables n value) m first ≡ get_or variables m first

-- a new block has its number, whatever the others have
abbrev pub MadeHere : Type 0
MadeHere = (blocks : List Block) (n : ℕ) (cells : Cells) →
    cells_numbered (record { number = n; cells = cells } ∷ blocks) n ≡ Some cells

abbrev pub MadeElsewhere : Type 0
MadeElsewhere = (blocks : List Block) (n m : ℕ) (cells : Cells) → n ≢ m →
    cells_numbered (record { number = n; cells = cells } ∷ blocks) m ≡ cells_numbered blocks m

-- a living block whose cells change
abbrev pub ChangedHere : Type 0
ChangedHere = (blocks : List Block) (n : ℕ) (old new : Cells) → cells_numbered blocks n ≡ Some old →
    cells_numbered (with_cells blocks n new) n ≡ Some new

abbrev pub ChangedElsewhere : Type 0
ChangedElsewhere = (blocks : List Block) (n m : ℕ) (new : Cells) → n ≢ m →
    cells_numbered (with_cells blocks n new) m ≡ cells_numbered blocks m

abbrev pub FreedHere : Type 0
FreedHere = (blocks : List Block) (n : ℕ) → cells_numbered (without blocks n) n ≡ None

abbrev pub FreedElsewhere : Type 0
FreedElsewhere = (blocks : List Block) (n m : ℕ) → n ≢ m → cells_numbered (without blocks n) m ≡ cells_numbered blocks m

-- behind a call, the blocks that it made are gone and the others are as it left them
abbrev pub MadeInCall : Type 0
MadeInCall = (blocks : List Block) (mark n : ℕ) → mark ≤ n → cells_numbered (made_before blocks mark) n ≡ None

abbrev pub MadeBeforeCall : Type 0
MadeBeforeCall = (blocks : List Block) (mark n : ℕ) → n < mark →
    cells_numbered (made_before blocks mark) n ≡ cells_numbered blocks n
