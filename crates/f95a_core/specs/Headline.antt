-- What is built and then run does what its source means.
use Rattle.std.specs.Prelude.{◌≡◌, ℕ, ◌≤◌, List, length, Some}
use Rattle.a95_base.specs.Outcome.{Outcome, Finished}
use Rattle.loop_tree.specs.declared.stuck.StuckState.{StuckState}
use Rattle.loop_tree.specs.State.{End, Stuck}
use Rattle.loop_laws.specs.Follows.{DoesBackward, HasDone}
use Rattle.loop_text.specs.Refused.{IsRefusedLine}
use Rattle.f95a_core.specs.Building.{Builds}
use Rattle.f95a_core.specs.Running.{job, Executes}
use Rattle.f95a_core.specs.Source.{Unit, Reads, source_run, turn_bound}

-- The run of a text on an input, within so many turns, against the unit of its source: what the run ends or faults with,
-- the source does; while it goes on, what it wrote begins what the source writes; it is never stuck. And with as many turns
-- as its bound asks for, it comes to what the source comes to.
pub record DoesAsItsSource (source input : List ℕ) (turns : ℕ) (written : List ℕ) (outcome : Outcome End) : Type 0 where
  pub unit : Unit
  pub reads : Reads source unit
  pub backward : DoesBackward (source_run unit input turns) written outcome
  pub never_stuck : (why : StuckState) → outcome ≡ Finished (Stuck why) → ⊥
  pub forward : (n : ℕ) → turn_bound (length source) n ≤ turns →
      HasDone (source_run unit input n).written (source_run unit input n).outcome written outcome

-- a text of `build` is never refused, and every run of it does as its source
pub record RunsAsMeant (source text : List ℕ) : Type 0 where
  pub never_refused : (line : ℕ) → IsRefusedLine text line → ⊥
  pub does : (input : List ℕ) (turns : ℕ) (written : List ℕ) (outcome : Outcome End) →
      Executes (job (Some text) (Some input) turns) written outcome → DoesAsItsSource source input turns written outcome

abbrev pub Headline : Type 0
Headline = (source text : List ℕ) → Builds source text → RunsAsMeant source text
