-- What is promised of the program of a unit: it does what the unit does, forward and back, and is never stuck.
use Rattle.std.specs.Prelude.{ℕ, ◌≤◌, List}
use Rattle.nest_tree.specs.Plain.{NestUnit}
use Rattle.nest_tree.specs.Run.{nest_source, entries}
use Rattle.nest_tree.specs.Sound.{Sound}
use Rattle.loop_laws.specs.Follows.{Simulates, Follows}
use Rattle.nest_emit.specs.Statements.{program_of}
use Rattle.nest_emit.specs.Emits.{Emits}

-- within as many turns as the unit has entries the program comes to what the unit does, at every number of turns
abbrev pub ProgramSimulates : Type 0
ProgramSimulates = (unit : NestUnit) → Sound unit → Emits unit → Simulates (nest_source unit) (entries unit) (program_of unit)

-- with any bound on the entries it follows the unit
abbrev pub ProgramFollows : Type 0
ProgramFollows = (unit : NestUnit) (bound : ℕ → ℕ) → Sound unit → Emits unit →
    ((input : List ℕ) (turns : ℕ) → entries unit input turns ≤ bound turns) → Follows (nest_source unit) bound (program_of unit)
