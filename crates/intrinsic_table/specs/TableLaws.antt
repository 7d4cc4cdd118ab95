-- What is known of the table.
use Rattle.std.specs.Prelude.{◌≡◌, ◌↔◌, ℕ, ◌<◌, IsTrue, ◌++◌, length, Some, IsSome}
use Rattle.intrinsic_table.specs.declared.intrinsic.Intrinsic.{Intrinsic}
use Rattle.intrinsic_table.specs.Table.{Word, Arguments, Takes, Numbered, row_of}
use Rattle.intrinsic_table.specs.Interface.{name_of, keyword_at, is_needed, most_numbered}

abbrev pub count_in : Arguments → ℕ
count_in (Takes needed optional) = length (needed ++ optional)
count_in Numbered = most_numbered

-- how many arguments an intrinsic has at most
abbrev pub argument_count : Intrinsic → ℕ
argument_count which = count_in (row_of which).arguments

-- no two have one name
abbrev pub NamesDiffer : Type 0
NamesDiffer = (v w : Intrinsic) → name_of v ≡ name_of w → v ≡ w

-- an intrinsic has no keyword twice
abbrev pub KeywordsDiffer : Type 0
KeywordsDiffer = (w : Intrinsic) (p q : ℕ) (keyword : Word) → keyword_at w p ≡ Some keyword → keyword_at w q ≡ Some keyword → p ≡ q

-- the places that have keywords are those below the number of arguments
abbrev pub PlacesAreCounted : Type 0
PlacesAreCounted = (w : Intrinsic) (p : ℕ) → IsSome (keyword_at w p) ↔ (p < argument_count w)

-- an argument that is needed has a keyword, and so are those before it
abbrev pub NeededStandFirst : Type 0
NeededStandFirst =
    (w : Intrinsic) (p : ℕ) → IsTrue (is_needed w p) → IsSome (keyword_at w p) × ((q : ℕ) → q < p → IsTrue (is_needed w q))
