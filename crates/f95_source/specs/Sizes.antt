-- How large a unit is against the bytes that read as it.
use Rattle.std.specs.Prelude.{ℕ, ◌*◌, ◌≤◌, List, length}
use Rattle.rank_one.specs.declared.unit.Unit.{Unit}
use Rattle.rank_one.specs.Typed.{size_of}

-- each byte gives two of a unit's parts at most
abbrev pub IsWithin : Unit → List ℕ → Type 0
IsWithin unit bytes = size_of unit ≤ 2 * length bytes
