-- The rules of refusal of this phase, of the typed unit that the code has.
use Rattle.std.specs.Prelude.{ℕ}
use Rattle.a95_base.specs.Breaks.{IsLeast}
use Rattle.a95_base.specs.declared.source.PhaseError.{PhaseError}
use Rattle.a95_base.specs.declared.source.PhaseError.TheVariants.{Memory, Broken}
use Rattle.f95_unit.specs.declared.unit.Unit.{Unit as Typed}
use Rattle.f95_unit.specs.View.{program_of}
use Rattle.proc_check.specs.Rules.{Breaks}

-- the unit breaks the rule on the line
abbrev pub IsBroken : Typed → ℕ → ℕ → Type 0
IsBroken u line rule = Breaks (program_of u) line rule

-- it breaks none
abbrev pub IsUnbroken : Typed → Type 0
IsUnbroken u = (line rule : ℕ) → IsBroken u line rule → ⊥

-- what a refusal of the unit says
abbrev pub Refuses : Typed → PhaseError → Type 0
Refuses u Memory = Unit {0}
Refuses u (Broken line rule) = IsLeast (IsBroken u) line.0 rule.0
