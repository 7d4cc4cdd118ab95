-- What it means that a program follows a source, whatever the source's runs are: within any number of turns the program
-- does what the source does, and does nothing else.
use Rattle.std.specs.Prelude.{◌≡◌, ℕ, ◌≤◌, List, []}
use Rattle.a95_base.specs.Outcome.{Stop, Outcome, Finished, Going, Run, IsPrefix}
use Rattle.loop_tree.specs.declared.stuck.StuckState.{StuckState}
use Rattle.loop_tree.specs.declared.tree.Function.{Function}
use Rattle.loop_tree.specs.State.{End, Comes, Stuck}
use Rattle.loop_tree.specs.Run.{configuration, start, Mach}
use Rattle.loop_laws.specs.Meets.{Expected, expected, Meets}

-- the run of a source on an input, within so many turns
abbrev pub Source : Type 0
Source = List ℕ → ℕ → Run Stop

-- what the source ends or faults with, the program does; while the source goes on, its output begins the program's
abbrev pub DoesForward : List ℕ → Outcome Stop → (List ℕ → Outcome End → Type 0) → Type 0
DoesForward written (Finished stop) program = program written (Finished (Comes stop))
DoesForward written Going program = (whole : List ℕ) (outcome : Outcome End) → program whole outcome → IsPrefix written whole

-- what the program ends or faults with, the source does; while the program goes on, its output begins the source's
abbrev pub DoesBackward : Run Stop → List ℕ → Outcome End → Type 0
DoesBackward source written (Finished (Comes stop)) = source ≡ record { written = written; outcome = Finished stop }
DoesBackward source written (Finished (Stuck why)) = Unit {0}
DoesBackward source written Going = IsPrefix written source.written

-- for every input and every number of turns, where the program needs at most so many turns for so many of the source
pub record Follows (source : Source) (bound : ℕ → ℕ) (program : List Function) : Type 0 where
  pub forward : (input : List ℕ) (turns : ℕ) → DoesForward (source input turns).written (source input turns).outcome
      (λ written outcome. Mach program input (bound turns) written outcome)
  pub backward : (input : List ℕ) (turns : ℕ) (written : List ℕ) (outcome : Outcome End) →
      Mach program input turns written outcome → DoesBackward (source input turns) written outcome
  pub never_stuck : (input : List ℕ) (turns : ℕ) (written : List ℕ) (why : StuckState) →
      Mach program input turns written (Finished (Stuck why)) → ⊥

-- ---- from forward alone

-- what a program is to come to where its source comes to this within the limit, for which it needs so many turns
abbrev pub as_program : Outcome Stop → Outcome End
as_program (Finished stop) = Finished (Comes stop)
as_program Going = Going

abbrev pub as_source : ℕ → ℕ → Run Stop → Expected
as_source limit turns run = expected limit turns run.written (as_program run.outcome)

-- at every number of turns the program comes to what the source does
pub record Simulates (source : Source) (needs : List ℕ → ℕ → ℕ) (program : List Function) : Type 0 where
  pub meets : (input : List ℕ) (turns : ℕ) → Meets program (configuration 0 [] (start program input))
      (as_source turns (needs input turns) (source input turns))

abbrev pub FollowsBothWays : Type 0
FollowsBothWays = (source : Source) (needs : List ℕ → ℕ → ℕ) (bound : ℕ → ℕ) (program : List Function) →
    Simulates source needs program → ((input : List ℕ) (turns : ℕ) → needs input turns ≤ bound turns) →
    Follows source bound program

-- what a run has done that has at least the turns that the bound asks for: what the source ends or faults with, and all that
-- the source has written while that goes on
abbrev pub HasDone : List ℕ → Outcome Stop → List ℕ → Outcome End → Type 0
HasDone written (Finished stop) whole outcome = (whole ≡ written) × (outcome ≡ Finished (Comes stop))
HasDone written Going whole outcome = IsPrefix written whole

abbrev pub WithMoreTurns : Type 0
WithMoreTurns = (source : Source) (bound : ℕ → ℕ) (program : List Function) → Follows source bound program →
    (input : List ℕ) (turns more : ℕ) → bound turns ≤ more →
    (written : List ℕ) (outcome : Outcome End) → Mach program input more written outcome →
    HasDone (source input turns).written (source input turns).outcome written outcome
