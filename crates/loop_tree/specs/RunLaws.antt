-- What the run of a program is known to be, whatever the rows do.
use Rattle.std.specs.Prelude.{◌≡◌, ◌⊎◌, ℕ, ◌+◌, ◌≤◌, true, List, [], ◌++◌}
use Rattle.a95_base.specs.Outcome.{Outcome, Finished, IsPrefix}
use Rattle.loop_tree.specs.declared.tree.Function.{Function}
use Rattle.loop_tree.specs.declared.tree.Stmt.{Stmt}
use Rattle.loop_tree.specs.declared.tree.CodeLine.{CodeLine}
use Rattle.loop_tree.specs.Lines.{flats}
use Rattle.loop_tree.specs.State.{End, Ends}
use Rattle.loop_tree.specs.Machine.{step, exits}
use Rattle.loop_tree.specs.Run.{Configuration, configuration, Reaches, begins_turn, GoesOnAt, Runs}

-- within a number of turns there is at most one outcome
abbrev pub OneOutcome : Type 0
OneOutcome = (functions : List Function) (start : Configuration) (limit : ℕ) (written other : List ℕ) (outcome second : Outcome End)
    →
    Runs functions start limit written outcome → Runs functions start limit other second → (written ≡ other) × (outcome ≡ second)

-- and there is one
pub record HasOutcome (functions : List Function) (start : Configuration) (limit : ℕ) : Type 0 where
  pub written : List ℕ
  pub outcome : Outcome End
  pub runs : Runs functions start limit written outcome

abbrev pub SomeOutcome : Type 0
SomeOutcome = (functions : List Function) (start : Configuration) (limit : ℕ) → start.turns ≤ limit →
    HasOutcome functions start limit

-- an end stays with more turns
abbrev pub EndStays : Type 0
EndStays = (functions : List Function) (start : Configuration) (limit more : ℕ) (written : List ℕ) (how : End) →
    limit ≤ more → Runs functions start limit written (Finished how) → Runs functions start more written (Finished how)

-- what is written only grows
abbrev pub OutputGrows : Type 0
OutputGrows = (functions : List Function) (start : Configuration) (limit more : ℕ) (written other : List ℕ)
    (outcome second : Outcome End) →
    limit ≤ more → Runs functions start limit written outcome → Runs functions start more other second → IsPrefix written other

-- a run that waits at its limit and is given more turns is one run with all of them
abbrev pub TurnsAdd : Type 0
TurnsAdd = (functions : List Function) (start : Configuration) (limit more : ℕ) (written other : List ℕ) (outcome : Outcome End)
    (waits : GoesOnAt functions start limit written) →
    Runs functions (configuration 0 [] waits.last.state) more other outcome →
    Runs functions start (limit + more) (written ++ other) outcome

-- one way goes on by another
abbrev pub WaysJoin : Type 0
WaysJoin = (functions : List Function) (a b c : Configuration) → Reaches functions a b → Reaches functions b c →
    Reaches functions a c

-- of two ways from one place one goes on to the other's end
abbrev pub WaysMeet : Type 0
WaysMeet = (functions : List Function) (a b c : Configuration) → Reaches functions a b → Reaches functions a c →
    Reaches functions b c ⊎ Reaches functions c b

-- behind an end is nothing
abbrev pub EndIsLast : Type 0
EndIsLast = (functions : List Function) (a b : Configuration) (how : End) → step functions a.state ≡ Ends how →
    Reaches functions a b → b ≡ a

-- where a turn would begin, no run goes on that begins no further turn
abbrev pub TurnIsCounted : Type 0
TurnIsCounted = (functions : List Function) (a b : Configuration) → begins_turn (step functions a.state) ≡ true →
    b.turns ≤ a.turns → Reaches functions a b → b ≡ a

-- whole statements leave the braces around them alone
abbrev pub StatementsPass : Type 0
StatementsPass = (body : List Stmt) (lines : List CodeLine) → exits (flats body ++ lines) ≡ exits lines
