-- What is known of every run: it has one outcome, since it is a function of the unit, the input and the number of turns; and more
-- turns change nothing of what has ended.
use Rattle.std.specs.Prelude.{◌≡◌, ℕ, ◌≤◌, List}
use Rattle.a95_base.specs.Outcome.{Stop, Outcome, Finished, Going, Run, IsPrefix}
use Rattle.nest_tree.specs.Plain.{NestUnit}
use Rattle.nest_tree.specs.Run.{End, Strayed, nest_run, nest_source, Does}

-- a run that ended is the same with more turns; what one has written that goes on begins what it writes then
abbrev pub StaysBy : Outcome End → Run End → Run End → Type 0
StaysBy (Finished how) run longer = longer ≡ run
StaysBy Going run longer = IsPrefix run.written longer.written

abbrev pub Stays : Run End → Run End → Type 0
Stays run longer = StaysBy run.outcome run longer

abbrev pub MoreTurns : Type 0
MoreTurns = (unit : NestUnit) (input : List ℕ) (turns longer : ℕ) → turns ≤ longer → Stays (nest_run unit input turns)
    (nest_run unit input longer)

-- a unit that does what a source does never strays, and its run is the source's
abbrev pub DoesNotStray : Type 0
DoesNotStray = (unit : NestUnit) (source : List ℕ → ℕ → Run Stop) → Does unit source → (input : List ℕ) (turns : ℕ)
    → ((nest_run unit input turns).outcome ≡ Finished Strayed → ⊥) × (nest_source unit input turns ≡ source input turns)
