-- What is known of every run, and of every value that an expression comes to.
use Rattle.std.specs.Prelude.{◌≡◌, ◌⊎◌, ℕ, ℤ, ◌≤◌, List, [], length, Ok}
use Rattle.a95_base.specs.Outcome.{Stop, Outcome, Finished, Going, Run, IsPrefix}
use Rattle.f95_unit.specs.Plain.{Expr, Program}
use Rattle.array_meaning.specs.Values.{Value, size_of, joint}
use Rattle.array_meaning.specs.State.{State}
use Rattle.array_meaning.specs.Trees.{Caller}
use Rattle.array_meaning.specs.Expressions.{evaluate}
use Rattle.array_meaning.specs.Run.{source_run}

-- a run that ended is the same with more turns; what one has written that goes on begins what it writes then
abbrev pub StaysBy : Outcome Stop → Run Stop → Run Stop → Type 0
StaysBy (Finished how) run longer = longer ≡ run
StaysBy Going run longer = IsPrefix run.written longer.written

abbrev pub Stays : Run Stop → Run Stop → Type 0
Stays run longer = StaysBy run.outcome run longer

abbrev pub MoreTurns : Type 0
MoreTurns = (unit : Program) (input : List ℕ) (turns longer : ℕ) → turns ≤ longer → Stays (source_run unit input turns)
    (source_run unit input longer)

-- an expression's value has as many elements as its extents say
abbrev pub ValuesAreFull : Type 0
ValuesAreFull = (unit : Program) (calls : Caller) (line : ℕ) (ix : List ℤ) (e : Expr) (s : State) (v : Value)
    → (evaluate unit calls line ix e s).came ≡ Ok v → length v.elements ≡ size_of v.extents

-- two shapes that conform are one shape, or one of them is that of a scalar
abbrev pub ConformingIsOneShape : Type 0
ConformingIsOneShape = (first second both : List ℕ) → joint first second ≡ Ok both
    → ((first ≡ []) ⊎ (first ≡ both)) × ((second ≡ []) ⊎ (second ≡ both))
