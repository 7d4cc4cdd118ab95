-- The greedy choice of an order, and which orders are allowed.
use Rattle.std.specs.Prelude.{◌≡◌, ◌==◌, ℕ, zero, suc, Bool, true, false, not, ◌&&◌, if◌then◌else◌, List, [], ◌∷◌, Option, Some}
use Rattle.std.specs.Prelude.{None, find, filter, option_map, option_and_then}
use Rattle.std.specs.List.{list_any, list_all}
use Rattle.a95_base.specs.Lists.{down_to_one}
use Rattle.rank_shape.specs.Order.{Level, IsOrder, element_order_of}
use Rattle.rank_shape.specs.declared.distance.Entry.{Entry}
use Rattle.loop_order.specs.declared.sign.Sign.{Sign}
use Rattle.loop_order.specs.declared.sign.Sign.TheVariants.{Unknown, Still, Up, Down}
use Rattle.loop_order.specs.Legal.{sign_at, settles}

abbrev pub is_unknown : Sign → Bool
is_unknown Unknown = true
is_unknown _ = false

abbrev pub is_still : Sign → Bool
is_still Still = true
is_still _ = false

abbrev pub is_up : Sign → Bool
is_up Up = true
is_up _ = false

abbrev pub is_down : Sign → Bool
is_down Down = true
is_down _ = false

-- whether some distance has such an entry for the loop
abbrev pub some_entry : (Sign → Bool) → ℕ → List (List Entry) → Bool
some_entry test loop = list_any (λ distance. test (sign_at distance loop))

-- no distance has Any for the loop, and no two have opposite signs
abbrev pub suits : ℕ → List (List Entry) → Bool
suits loop distances = not (some_entry is_unknown loop distances)
    && not (some_entry is_up loop distances && some_entry is_down loop distances)

-- the distances that the loop leaves to those inside it
abbrev pub unsettled : ℕ → List (List Entry) → List (List Entry)
unsettled loop = filter (λ distance. is_still (sign_at distance loop))

abbrev pub without : ℕ → List ℕ → List ℕ
without loop [] = []
without loop (other ∷ loops) = if other == loop then loops else other ∷ without loop loops

-- from the outside in, the first of the loops left that suits the distances not yet settled; it runs backwards where one of
-- these is positive
abbrev pub choice : ℕ → List ℕ → List (List Entry) → Option (List Level)
choice zero left distances = Some []
choice (suc count) left distances =
    option_and_then
    (λ loop.
    option_map (λ inner. record { number = loop; down = some_entry is_up loop distances } ∷ inner)
    (choice count (without loop left) (unsettled loop distances)))
    (find (λ loop. suits loop distances) left)

-- the order of a statement: the choice where it is free, and else array element order where that is legal
abbrev pub chosen : Bool → ℕ → List (List Entry) → Option (List Level)
chosen true rank distances = choice rank (down_to_one rank) distances
chosen false rank distances = if list_all (settles (element_order_of rank)) distances then Some (element_order_of rank) else None

-- a statement that isn't free may use array element order alone
abbrev pub IsAllowed : Bool → ℕ → List Level → Type 0
IsAllowed true rank order = IsOrder rank order
IsAllowed false rank order = order ≡ element_order_of rank
