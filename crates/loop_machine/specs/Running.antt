-- A machine as contracts see it, and what a run of it comes to.
use Rattle.std.specs.Prelude.{◌≡◌, ℕ, List, [], Option, None, Some, IfSome}
use Rattle.std.specs.Io.KnownBytes.{Appends}
use Rattle.io_edge.specs.Known.{AppendsPrefix}
use Rattle.a95_base.specs.Outcome.{Outcome, Finished, Going, Ended, Faulted}
use Rattle.loop_tree.specs.declared.tree.Function.{Function}
use Rattle.loop_tree.specs.State as state
use Rattle.loop_tree.specs.State.{State, Comes}
use Rattle.loop_tree.specs.Run.{configuration, GoesOnAt, Runs}
use Rattle.loop_heap.specs.declared.halt.Halt.{Halt}
use Rattle.loop_heap.specs.declared.halt.Halt.TheVariants as halt
use Rattle.loop_machine.specs.declared.end.End.{End}
use Rattle.loop_machine.specs.declared.end.End.TheVariants as end

-- the program, its state, and what the last run came to where no further one goes on
pub record Running : Type 0 where
  pub functions : List Function
  pub state : State
  pub ended : Option End

-- the outcome of the program that an answer tells, if it tells one
abbrev pub outcome_of : End → Option (Outcome state.End)
outcome_of end.Ended = Some (Finished (Comes Ended))
outcome_of (end.Fault kind line) = Some (Finished (Comes (Faulted kind line.0)))
outcome_of (end.Stuck why) = Some (Finished (state.Stuck why))
outcome_of end.TurnLimit = Some Going
outcome_of end.WriteFault = None
outcome_of end.Memory = None

-- only behind the limit of turns a further run goes on
abbrev pub left_by : End → Option End
left_by end.TurnLimit = None
left_by other = Some other

-- what a run came to that was halted
abbrev pub halted : Halt → End
halted (halt.Stuck why) = end.Stuck why
halted halt.Memory = end.Memory

-- from a state on, with so many turns, the program has this outcome, and all that it writes was appended
pub record Writes (functions : List Function) (from : State) (turns : ℕ) (outcome : Outcome state.End)
    (old new : Option (List ℕ)) : Type 0 where
  pub written : List ℕ
  pub runs : Runs functions (configuration 0 [] from) turns written outcome
  pub appended : Appends old new written

-- it goes on behind its turns, and waits in this state
pub record Waits (functions : List Function) (from : State) (turns : ℕ) (to : State) (old new : Option (List ℕ)) : Type 0 where
  pub written : List ℕ
  pub runs : GoesOnAt functions (configuration 0 [] from) turns written
  pub there : runs.last.state ≡ to
  pub appended : Appends old new written

-- a prefix of what it writes was appended
pub record WritesPrefix (functions : List Function) (from : State) (turns : ℕ) (old new : Option (List ℕ)) : Type 0 where
  pub written : List ℕ
  pub outcome : Outcome state.End
  pub runs : Runs functions (configuration 0 [] from) turns written outcome
  pub appended : AppendsPrefix old new written

-- a run that tells this outcome, or none, and leaves this state
abbrev pub ComesTo : List Function → State → ℕ → Option (Outcome state.End) → State → Option (List ℕ) → Option (List ℕ) → Type 0
ComesTo functions from turns (Some (Finished how)) to old new = Writes functions from turns (Finished how) old new
ComesTo functions from turns (Some Going) to old new = Waits functions from turns to old new
ComesTo functions from turns None to old new = WritesPrefix functions from turns old new

-- what an answer says of the run from a state with so many turns, which leaves another state
abbrev pub RunsTo : List Function → State → ℕ → End → State → Option (List ℕ) → Option (List ℕ) → Type 0
RunsTo functions from turns result to old new = ComesTo functions from turns (outcome_of result) to old new

-- where the program has this outcome, any answer but WriteFault and Memory is it, and all of the output was appended
abbrev pub Answers : Outcome state.End → List ℕ → End → Option (List ℕ) → Option (List ℕ) → Type 0
Answers outcome written result old new = IfSome (outcome_of result) (λ o. (o ≡ outcome) × Appends old new written)
