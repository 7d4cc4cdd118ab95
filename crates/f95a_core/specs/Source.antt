-- The source language, as the definitions of this crate know it: the units, which unit bytes read as, which rules they break,
-- and what a unit means. No other definition here names the crates that read, but for the lowering's.
use Rattle.std.specs.Prelude.{ℕ, ◌+◌, ◌*◌, ◌^◌, List}
use Rattle.a95_base.specs.Outcome.{Stop, Ended, Finished, Run}
use Rattle.rank_one.specs.declared.unit.Unit as unit
use Rattle.rank_one.specs.Meaning.{output}
use Rattle.f95_reader.specs.Reading.{IsLeast}
use Rattle.f95_source.specs.Source as source

abbrev pub Unit : Type 0
Unit = unit.Unit

-- the bytes read as this unit
abbrev pub Reads : List ℕ → Unit → Type 0
Reads bytes unit = source.Reads bytes unit

-- the bytes break this rule of this phase on this line; and it is the least that they break
abbrev pub IsBroken : List ℕ → ℕ → ℕ → ℕ → Type 0
IsBroken bytes phase line rule = source.IsBroken bytes phase line rule

abbrev pub IsLeastBroken : List ℕ → ℕ → ℕ → ℕ → Type 0
IsLeastBroken bytes phase line rule = IsLeast (IsBroken bytes) phase line rule

-- they break none
abbrev pub IsUnbroken : List ℕ → Type 0
IsUnbroken bytes = (phase line rule : ℕ) → IsBroken bytes phase line rule → ⊥

-- what a unit does on an input within so many turns: one of the first form takes no input, begins no turn and has no fault
abbrev pub source_run : Unit → List ℕ → ℕ → Run Stop
source_run unit input turns = record { written = output unit; outcome = Finished Ended }

-- the turns that a program may need for so many turns of its source, which has so many bytes
abbrev pub turn_bound : ℕ → ℕ → ℕ
turn_bound bytes turns = 2 ^ 64 * ((bytes + 1) * (bytes + 1)) * (turns + 1)
