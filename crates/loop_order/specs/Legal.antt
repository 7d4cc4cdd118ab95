-- Which orders of loops let each read come no later than the store of the same place. A distance has an entry for each
-- loop: how many turns of that loop lie from the turn that stores to the turn that reads, or Any where that isn't known.
use Rattle.std.specs.Prelude.{ℕ, zero, suc, ◌-◌, pos, negsuc, Bool, true, false, not, IsTrue, List, [], ◌∷◌, map, slice_index_or}
use Rattle.a95_base.specs.Lists.{Every}
use Rattle.rank_shape.specs.Order.{Level}
use Rattle.rank_shape.specs.declared.distance.Entry.{Entry}
use Rattle.rank_shape.specs.declared.distance.Entry.TheVariants as entry
use Rattle.rank_shape.specs.declared.distance.Dist.{Dist}
use Rattle.loop_order.specs.declared.sign.Sign.{Sign}
use Rattle.loop_order.specs.declared.sign.Sign.TheVariants.{Unknown, Still, Up, Down}

abbrev pub sign_of : Entry → Sign
sign_of entry.Any = Unknown
sign_of (entry.Known (pos zero)) = Still
sign_of (entry.Known (pos (suc n))) = Up
sign_of (entry.Known (negsuc n)) = Down

abbrev pub sign_at : List Entry → ℕ → Sign
sign_at distance loop = sign_of (slice_index_or distance (loop - 1) entry.Any)

-- whether a loop and those inside it settle a distance, where `inner` says whether those inside it do
abbrev pub meets : Sign → Bool → Bool → Bool
meets Unknown down inner = false
meets Still down inner = inner
meets Up down inner = down
meets Down down inner = not down

-- going inward, the first entry that isn't a known 0 is known, and its loop runs backwards where it is positive and
-- forwards where it is negative; a distance of zeros alone asks nothing
abbrev pub settles : List Level → List Entry → Bool
settles [] distance = true
settles (level ∷ inner) distance = meets (sign_at distance level.number) level.down (settles inner distance)

abbrev pub IsLegal : List Level → List (List Entry) → Type 0
IsLegal order = Every (λ distance. IsTrue (settles order distance))

abbrev pub distances_of : (rank : ℕ) → List (Dist rank) → List (List Entry)
distances_of rank = map (λ dist. dist.entries)

-- the same loops, each run the other way
abbrev pub turned : List Level → List Level
turned = map (λ level. record { number = level.number; down = not level.down })
