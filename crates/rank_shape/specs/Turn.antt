-- What the code of a walk computes: the place of a turn, found from the turn's number by division.
use Rattle.std.specs.Prelude.{ℕ, ◌-◌, ◌*◌, ◌/◌, ◌%◌, Bool, true, false, List, [], ◌∷◌, slice_index, slice_set}
use Rattle.rank_shape.specs.Order.{Level}

-- how many turns the innermost bodies of these loops have
abbrev pub turns_in : List Level → List ℕ → ℕ
turns_in [] extents = 1
turns_in (level ∷ inner) extents = slice_index extents (level.number - 1) * turns_in inner extents

abbrev pub subscript_at : Bool → ℕ → ℕ → ℕ
subscript_at false extent turn = turn
subscript_at true extent turn = extent - 1 - turn

abbrev pub visited : List Level → List ℕ → List ℕ → ℕ → List ℕ
visited [] extents place turn = place
visited (level ∷ inner) extents place turn =
    visited inner extents
    (slice_set place (level.number - 1)
    (subscript_at level.down (slice_index extents (level.number - 1)) (turn / turns_in inner extents)))
    (turn % turns_in inner extents)
