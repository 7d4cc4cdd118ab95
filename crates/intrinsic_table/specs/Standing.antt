-- Where a keyword stands in a list, or among `a1`, `a2` and so on.
use Rattle.std.specs.Prelude.{◌≡◌, ◌≢◌, ℕ, ◌<◌, ◌^◌, Bool, false, ◌&&◌, nat_le, List, [], ◌∷◌, ◌++◌, Option, Some, None, slice_get}
use Rattle.std.specs.Prelude.{decimal}
use Rattle.intrinsic_table.specs.Table.{Word, Arguments, Takes, Numbered}
use Rattle.intrinsic_table.specs.Interface.{keyword_in}

-- the keyword stands at the place, or nowhere
abbrev pub Stands : List Word → Word → Option ℕ → Type 0
Stands words keyword (Some place) = slice_get words place ≡ Some keyword
Stands words keyword None = (place : ℕ) → slice_get words place ≢ Some keyword

abbrev pub StandsNumbered : Word → Option ℕ → Type 0
StandsNumbered keyword (Some place) = keyword_in Numbered place ≡ Some keyword
StandsNumbered keyword None = (place : ℕ) → keyword_in Numbered place ≢ Some keyword

abbrev pub StandsIn : Arguments → Word → Option ℕ → Type 0
StandsIn (Takes needed optional) keyword result = Stands (needed ++ optional) keyword result
StandsIn Numbered keyword result = StandsNumbered keyword result

-- the first byte is a digit from 1 to 9
abbrev pub begins_number : List ℕ → Bool
begins_number [] = false
begins_number (byte ∷ more) = nat_le 49 byte && nat_le byte 57

-- the bytes write the number, or none from 1 on that has 32 bits
abbrev pub Writes : List ℕ → Option ℕ → Type 0
Writes bytes (Some n) = (0 < n) × (n < 2 ^ 32) × (bytes ≡ decimal n)
Writes bytes None = (n : ℕ) → 0 < n → n < 2 ^ 32 → bytes ≢ decimal n
