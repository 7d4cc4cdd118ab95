-- What is left of the choice where some loops are taken: the loops, highest first, and the distances not yet settled.
use Rattle.std.specs.Prelude.{ℕ, ◌-◌, Bool, true, false, not, ◌&&◌, List, [], ◌∷◌, filter, slice_index_or}
use Rattle.a95_base.specs.Lists.{down_to_one}
use Rattle.rank_shape.specs.declared.distance.Entry.{Entry}
use Rattle.loop_order.specs.Legal.{sign_of}
use Rattle.loop_order.specs.Choice.{is_still}

abbrev pub is_taken : List Bool → ℕ → Bool
is_taken taken loop = slice_index_or taken (loop - 1) false

-- those of the loops from 1 to n that are not taken
abbrev pub loops_left : ℕ → List Bool → List ℕ
loops_left n taken = filter (λ loop. not (is_taken taken loop)) (down_to_one n)

-- the loops taken leave this distance open
abbrev pub is_open : List Bool → List Entry → Bool
is_open [] distance = true
is_open (true ∷ taken) [] = false
is_open (true ∷ taken) (difference ∷ distance) = is_still (sign_of difference) && is_open taken distance
is_open (false ∷ taken) [] = is_open taken []
is_open (false ∷ taken) (difference ∷ distance) = is_open taken distance

abbrev pub open_distances : List Bool → List (List Entry) → List (List Entry)
open_distances taken = filter (is_open taken)
