-- Turns that lie a distance apart. A turn is a place of the shape that the loops go through.
use Rattle.std.specs.Prelude.{◌≡◌, ℕ, pos, ◌+ℤ◌, List, [], ◌∷◌}
use Rattle.rank_shape.specs.declared.distance.Entry.{Entry}
use Rattle.rank_shape.specs.declared.distance.Entry.TheVariants as entry

abbrev pub Differs : Entry → ℕ → ℕ → Type 0
Differs entry.Any stores reads = Unit {0}
Differs (entry.Known difference) stores reads = pos reads ≡ pos stores +ℤ difference

-- in each loop the turn that reads is so many turns after the one that stores
abbrev pub IsApart : List Entry → List ℕ → List ℕ → Type 0
IsApart [] stores reads = Unit {0}
IsApart (difference ∷ distance) [] reads = Unit {0}
IsApart (difference ∷ distance) (i ∷ stores) [] = Unit {0}
IsApart (difference ∷ distance) (i ∷ stores) (j ∷ reads) = Differs difference i j × IsApart distance stores reads
