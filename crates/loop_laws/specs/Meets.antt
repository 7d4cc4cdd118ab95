-- What a run is to come to, and how a step is put in front of what the rest of the run comes to. Facts of this form are
-- proved backwards, from the end of a program to its first line.
use Rattle.std.specs.Prelude.{◌≡◌, ℕ, ◌+◌, ◌<◌, ◌≤◌, List, [], ◌∷◌, ◌++◌, false, Option, Some, None, Result, Ok}
use Rattle.a95_base.specs.Outcome.{Outcome, Finished, Going, Run, Ended}
use Rattle.loop_tree.specs.declared.stuck.StuckState.{StuckState}
use Rattle.loop_tree.specs.declared.tree.CodeLine.{CodeLine}
use Rattle.loop_tree.specs.declared.tree.Function.{Function}
use Rattle.loop_tree.specs.State.{Brace, State, End, Comes, Goes, Ends}
use Rattle.loop_tree.specs.Machine.{step, quiet, turn, given}
use Rattle.loop_tree.specs.Run.{Configuration, configuration, Reaches, FinishesAt}
use Rattle.loop_laws.specs.At.{Variables, frame_of, at, returned}
use Rattle.loop_laws.specs.Rows.{leaving}

-- From a configuration on a run begins more turns than the limit, and where it has written this, no more than so many.
pub record GoesPast (functions : List Function) (start : Configuration) (limit turns : ℕ) (written : List ℕ) : Type 0 where
  pub last : Configuration
  pub leads : Reaches functions start last
  pub past : limit < last.turns
  pub within : last.turns ≤ turns
  pub output : last.written ≡ written

-- What a run is to come to: all that it writes and how it comes out, within so many turns in all. A run that is to go on
-- begins more turns than the limit. Where no run is given, anything will do.
pub record Expected : Type 0 where
  pub limit : ℕ
  pub turns : ℕ
  pub run : Option (Run End)

abbrev pub expected : ℕ → ℕ → List ℕ → Outcome End → Expected
expected limit turns written outcome = record {
  limit = limit;
  turns = turns;
  run =
      Some (record { written = written; outcome = outcome });
}

abbrev pub ComesTo : List Function → Configuration → ℕ → ℕ → List ℕ → Outcome End → Type 0
ComesTo functions start limit turns written (Finished how) = FinishesAt functions start turns written how
ComesTo functions start limit turns written Going = GoesPast functions start limit turns written

abbrev pub ComesToSome : List Function → Configuration → ℕ → ℕ → Option (Run End) → Type 0
ComesToSome functions start limit turns None = Unit {0}
ComesToSome functions start limit turns (Some run) = ComesTo functions start limit turns run.written run.outcome

-- the run from a configuration on comes to what is expected
pub record Meets (functions : List Function) (start : Configuration) (e : Expected) : Type 0 where
  pub by : ComesToSome functions start e.limit e.turns e.run

-- ---- steps in front

-- where a step leads from a state, with so many turns begun and this written before
pub record StepLaws (A : Type 0) (functions : List Function) (turns : ℕ) (written : List ℕ) (s : State)
    (e : Expected) : Type 0 where
  -- a step that writes nothing, one that writes, and one that begins a turn
  pub silent : (t : State) → step functions s ≡ quiet t →
      Meets functions (configuration turns written t) e → Meets functions (configuration turns written s) e
  pub writes : (t : State) (bytes : List ℕ) → step functions s ≡ Goes false bytes t →
      Meets functions (configuration turns (written ++ bytes) t) e → Meets functions (configuration turns written s) e
  pub turned : (t : State) → step functions s ≡ turn t →
      Meets functions (configuration (turns + 1) written t) e → Meets functions (configuration turns written s) e
  -- one that a value decides
  pub gives : (result : Result A StuckState) (a : A) (next : A → State) → step functions s ≡ given result next → result ≡ Ok a →
      Meets functions (configuration turns written (next a)) e → Meets functions (configuration turns written s) e
  -- a call is left: its caller goes on, and the blocks that it made are freed
  pub returns : (v w : Variables) (lines : List CodeLine) (braces : List Brace) → step functions s ≡ leaving w →
      w.callers ≡ frame_of v lines braces ∷ v.callers →
      Meets functions (configuration turns written (at (returned v w) lines braces)) e →
      Meets functions (configuration turns written s) e

-- ---- ends

pub record EndLaws (functions : List Function) (turns : ℕ) (written : List ℕ) (s : State) (e : Expected) : Type 0 where
  pub ends : (how : End) → step functions s ≡ Ends how →
      e.run ≡ Some (record { written = written; outcome = Finished how }) → turns ≤ e.turns →
      Meets functions (configuration turns written s) e
  -- the program is left by its main function
  pub leaves : (w : Variables) → step functions s ≡ leaving w → w.callers ≡ [] →
      e.run ≡ Some (record { written = written; outcome = Finished (Comes Ended) }) → turns ≤ e.turns →
      Meets functions (configuration turns written s) e
  -- more turns are begun than the limit
  pub passes : e.run ≡ Some (record { written = written; outcome = Going }) → e.limit < turns → turns ≤ e.turns →
      Meets functions (configuration turns written s) e
  -- what is expected may be told otherwise
  pub told_as : (f : Expected) → e ≡ f → Meets functions (configuration turns written s) f →
      Meets functions (configuration turns written s) e
  pub anything : e.run ≡ None → Meets functions (configuration turns written s) e
