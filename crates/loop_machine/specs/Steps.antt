-- Steps in a row, and what they write on a sink. No public clause cites this.
use Rattle.std.specs.Prelude.{◌≡◌, ℕ, ◌<◌, Bool, true, List, [], Option, Result, Ok, Err}
use Rattle.std.specs.Io.KnownBytes.{Appends}
use Rattle.loop_tree.specs.declared.tree.Function.{Function}
use Rattle.loop_tree.specs.State.{State, Goes}
use Rattle.loop_tree.specs.Machine.{step}
use Rattle.loop_tree.specs.Run.{configuration, Reaches}
use Rattle.loop_machine.specs.declared.end.End.{End}
use Rattle.loop_machine.specs.Running.{RunsTo}

-- steps that begin so many turns and write nothing lead from one state to another
abbrev pub ReachesSilently : List Function → State → ℕ → State → Type 0
ReachesSilently functions from turns to = Reaches functions (configuration 0 [] from) (configuration turns [] to)

-- steps that begin so many turns lead on, and what they wrote was appended
pub record Advances (functions : List Function) (from : State) (turns : ℕ) (to : State) (old new : Option (List ℕ)) : Type 0 where
  pub written : List ℕ
  pub reaches : Reaches functions (configuration 0 [] from) (configuration turns written to)
  pub appended : Appends old new written

-- the same of one step
pub record Steps (functions : List Function) (from : State) (turn : Bool) (to : State) (old new : Option (List ℕ)) : Type 0 where
  pub written : List ℕ
  pub stepped : step functions from ≡ Goes turn written to
  pub appended : Appends old new written

-- a step with so many turns left: whether it began one, or the answer of the run
abbrev pub Passed : List Function → State → State → ℕ → Result Bool End → Option (List ℕ) → Option (List ℕ) → Type 0
Passed functions from to left (Ok turn) old new = (turn ≡ true → 0 < left) × Steps functions from turn to old new
Passed functions from to left (Err end) old new = RunsTo functions from left end to old new

-- steps with so many turns left, up to the first turn that begins, or the answer of the run
abbrev pub Advanced : {A : Type 0} → List Function → State → State → ℕ → Result A End → Option (List ℕ) → Option (List ℕ) → Type 0
Advanced functions from to left (Ok begun) old new = (0 < left) × Advances functions from 1 to old new
Advanced functions from to left (Err end) old new = RunsTo functions from left end to old new
