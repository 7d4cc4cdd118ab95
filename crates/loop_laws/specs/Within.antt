-- What rows read and change where nothing is wrong: a block that lives, an index within it, a size that is allowed.
use Rattle.std.specs.Prelude.{◌≡◌, ℕ, ◌<◌, ◌≤◌, ◌-◌, ℤ, pos, Bool, true, List, length, set, replicate, Option, Some, Result, Ok}
use Rattle.loop_tree.specs.declared.stuck.StuckState.{StuckState}
use Rattle.loop_tree.specs.State.{Cells, Ints, Texts, Block, cells_numbered, cells_at, with_cells, without}
use Rattle.loop_tree.specs.Values.{number_at, text_at, ints_at, texts_at, int_cell, text_cell, largest, zeros, texts_of_length}
use Rattle.loop_tree.specs.Values.{cell_count, more_cells, grown, holds, truth}
use Rattle.loop_tree.specs.Machine.{changed, freed, store_int, store_text}

-- ---- a reference to a living block

abbrev pub CellsThere : Type 0
CellsThere = (blocks : List Block) (r : Option ℕ) (n : ℕ) (cells : Cells) → r ≡ Some n → cells_numbered blocks n ≡ Some cells →
    cells_at blocks r ≡ Ok cells

abbrev pub IntsThere : Type 0
IntsThere = (blocks : List Block) (r : Option ℕ) (n : ℕ) (cells : List ℤ) → r ≡ Some n →
    cells_numbered blocks n ≡ Some (Ints cells) → ints_at blocks r ≡ Ok cells

abbrev pub TextsThere : Type 0
TextsThere = (blocks : List Block) (r : Option ℕ) (n : ℕ) (cells : List (List ℕ)) → r ≡ Some n →
    cells_numbered blocks n ≡ Some (Texts cells) → texts_at blocks r ≡ Ok cells

abbrev pub ChangeThere : Type 0
ChangeThere = (blocks : List Block) (r : Option ℕ) (n : ℕ) (cells new : Cells) (change : Cells → Result Cells StuckState) →
    r ≡ Some n → cells_numbered blocks n ≡ Some cells → change cells ≡ Ok new →
    changed blocks r change ≡ Ok (with_cells blocks n new)

abbrev pub FreedThere : Type 0
FreedThere = (blocks : List Block) (r : Option ℕ) (n : ℕ) → r ≡ Some n → freed blocks r ≡ without blocks n

-- ---- an index within a block

abbrev pub IntWithin : Type 0
IntWithin = (cells : List ℤ) (z : ℤ) (i : ℕ) → z ≡ pos i → i < length cells → int_cell cells z ≡ Ok (number_at cells i)

abbrev pub TextWithin : Type 0
TextWithin = (cells : List (List ℕ)) (z : ℤ) (i : ℕ) → z ≡ pos i → i < length cells → text_cell cells z ≡ Ok (text_at cells i)

abbrev pub StoreIntWithin : Type 0
StoreIntWithin = (cells : List ℤ) (z value : ℤ) (i : ℕ) → z ≡ pos i → i < length cells →
    store_int z value (Ints cells) ≡ Ok (Ints (set cells i value))

abbrev pub StoreTextWithin : Type 0
StoreTextWithin = (cells : List (List ℕ)) (z : ℤ) (value : List ℕ) (i : ℕ) → z ≡ pos i → i < length cells →
    store_text z value (Texts cells) ≡ Ok (Texts (set cells i value))

-- ---- a size that is allowed

abbrev pub ZerosWithin : Type 0
ZerosWithin = (z : ℤ) (n : ℕ) → z ≡ pos n → n ≤ largest → zeros z ≡ Ok (Ints (replicate n (pos 0)))

abbrev pub TextsWithin : Type 0
TextsWithin = (z size : ℤ) (n m : ℕ) → z ≡ pos n → size ≡ pos m → n ≤ largest → m ≤ 255 →
    texts_of_length z size ≡ Ok (Texts (replicate n (replicate m 32)))

abbrev pub GrownWithin : Type 0
GrownWithin = (cells : Cells) (z : ℤ) (n : ℕ) → z ≡ pos n → n ≤ largest - cell_count cells →
    grown cells z ≡ Ok (more_cells cells n)

-- ---- conditions

abbrev pub TruthHolds : Type 0
TruthHolds = (b : Bool) → holds (truth b) ≡ b

abbrev pub PositiveHolds : Type 0
PositiveHolds = (z : ℤ) (n : ℕ) → z ≡ pos n → 0 < n → holds z ≡ true
