-- What the table says of a name, a keyword and a place. Places are counted from 0.
use Rattle.std.specs.Prelude.{ℕ, ◌+◌, Bool, nat_lt, ◌++◌, length, Option, Some, None, slice_get, if◌then◌else◌, codes, decimal}
use Rattle.intrinsic_table.specs.declared.intrinsic.Intrinsic.{Intrinsic}
use Rattle.intrinsic_table.specs.declared.intrinsic.Sort.{Sort}
use Rattle.intrinsic_table.specs.Table.{Word, Arguments, Takes, Numbered, row_of}

abbrev pub name_of : Intrinsic → Word
name_of which = (row_of which).name

abbrev pub sort_of : Intrinsic → Sort
sort_of which = (row_of which).sort

-- how many arguments MAX and MIN have at most
abbrev pub most_numbered : ℕ
most_numbered = 4294967295

abbrev pub keyword_in : Arguments → ℕ → Option Word
keyword_in (Takes needed optional) place = slice_get (needed ++ optional) place
keyword_in Numbered place = if nat_lt place most_numbered then Some (codes "a" ++ decimal (place + 1)) else None

-- the keyword of the argument at a place, where there is one
abbrev pub keyword_at : Intrinsic → ℕ → Option Word
keyword_at which place = keyword_in (row_of which).arguments place

abbrev pub needed_in : Arguments → ℕ
needed_in (Takes needed optional) = length needed
needed_in Numbered = 2

-- how many of the first arguments must be given
abbrev pub needed_count : Intrinsic → ℕ
needed_count which = needed_in (row_of which).arguments

-- the argument at this place must be given
abbrev pub is_needed : Intrinsic → ℕ → Bool
is_needed which place = nat_lt place (needed_count which)
