-- What is known of the lowered unit.
use Rattle.std.specs.Prelude.{◌≡◌, true}
use Rattle.f95_unit.specs.Plain.{Program}
use Rattle.array_meaning.specs.Run.{source_run}
use Rattle.nest_tree.specs.Run.{Does}
use Rattle.nest_tree.specs.Sound.{Sound}
use Rattle.control_lower.specs.Units.{lowered_unit}
use Rattle.control_lower.specs.Limits.{IsWithinLimits}
use Rattle.control_lower.specs.Lowers.{lowers_unit}
use Rattle.control_lower.specs.Settled.{is_settled}

-- the nests do what the source does, on every input and within any number of turns
abbrev pub LoweredDoes : Type 0
LoweredDoes = (unit : Program) → is_settled unit ≡ true → lowers_unit unit ≡ true → Does (lowered_unit unit) (source_run unit)

-- and LoopC can be emitted from them, where the source is within its limits
abbrev pub LoweredIsSound : Type 0
LoweredIsSound = (unit : Program) → is_settled unit ≡ true → lowers_unit unit ≡ true → IsWithinLimits unit
    → Sound (lowered_unit unit)
