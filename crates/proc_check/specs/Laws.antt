-- What is known of the rules.
use Rattle.std.specs.Prelude.{◌≡◌, ℕ, Some, None}
use Rattle.a95_base.specs.declared.breaks.Break.{Break}
use Rattle.a95_base.specs.Breaks.{AreBroken, IsLeast, first_of}
use Rattle.f95_unit.specs.Plain.{Program}
use Rattle.proc_check.specs.Rules.{Breaks}
use Rattle.proc_check.specs.Listed.{breaks_of}
use Rattle.proc_check.specs.Walk.{through_unit}

-- the list has all that a unit breaks, and nothing else
abbrev pub ListedAreBroken : Type 0
ListedAreBroken = (u : Program) → AreBroken (Breaks u) (breaks_of u)

-- the first of them is what a refusal says, and where there is none nothing is broken
abbrev pub FirstIsLeast : Type 0
FirstIsLeast = (u : Program) (b : Break) → first_of (breaks_of u) ≡ Some b → IsLeast (Breaks u) b.line b.rule

abbrev pub NoneIsUnbroken : Type 0
NoneIsUnbroken = (u : Program) → first_of (breaks_of u) ≡ None → (line rule : ℕ) → Breaks u line rule → ⊥

-- one walk through a unit, part by part, comes to the first break of the list
abbrev pub WalkKeepsFirst : Type 0
WalkKeepsFirst = (u : Program) → through_unit u ≡ first_of (breaks_of u)
