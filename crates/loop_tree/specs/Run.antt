-- Runs of a LoopC program, with the turns that they begin and what they write.
use Rattle.std.specs.Prelude.{◌≡◌, ℕ, zero, suc, ◌+◌, ◌≤◌, Bool, true, false, List, [], ◌∷◌, ◌++◌, Option, Some, None}
use Rattle.a95_base.specs.Outcome.{Outcome, Finished, Going}
use Rattle.loop_tree.specs.declared.tree.Function.{Function}
use Rattle.loop_tree.specs.declared.tree.CodeLine.{CodeLine}
use Rattle.loop_tree.specs.Lines.{lines_of}
use Rattle.loop_tree.specs.State.{Frame, State, End, Next, Goes, Ends}
use Rattle.loop_tree.specs.Machine.{step}

-- a state, with the number of turns that were begun and the bytes that were written before it
pub record Configuration : Type 0 where
  pub turns : ℕ
  pub written : List ℕ
  pub state : State

abbrev pub configuration : ℕ → List ℕ → State → Configuration
configuration turns written state = record { turns = turns; written = written; state = state }

abbrev pub count_turn : Bool → ℕ
count_turn true = 1
count_turn false = 0

-- behind a step, if it is not the end
abbrev pub after : Configuration → Next → Option Configuration
after t (Goes turn new state) = Some (configuration (t.turns + count_turn turn) (t.written ++ new) state)
after t (Ends how) = None

abbrev pub one_step : List Function → Option Configuration → Option Configuration
one_step functions None = None
one_step functions (Some t) = after t (step functions t.state)

-- behind so many steps
unfoldable pub steps : List Function → ℕ → Configuration → Option Configuration
steps functions zero t = Some t
steps functions (suc n) t = one_step functions (steps functions n t)

-- some number of steps leads from one configuration to another
pub record Reaches (functions : List Function) (a b : Configuration) : Type 0 where
  pub count : ℕ
  pub there : steps functions count a ≡ Some b

-- the next step begins a turn
abbrev pub begins_turn : Next → Bool
begins_turn (Goes turn new state) = turn
begins_turn (Ends how) = false

pub record FinishesAt (functions : List Function) (start : Configuration) (limit : ℕ) (written : List ℕ) (how : End) : Type 0 where
  pub last : Configuration
  pub leads : Reaches functions start last
  pub within : last.turns ≤ limit
  pub output : last.written ≡ written
  pub ends : step functions last.state ≡ Ends how

pub record GoesOnAt (functions : List Function) (start : Configuration) (limit : ℕ) (written : List ℕ) : Type 0 where
  pub last : Configuration
  pub leads : Reaches functions start last
  pub spent : last.turns ≡ limit
  pub output : last.written ≡ written
  pub waits : begins_turn (step functions last.state) ≡ true

-- from a configuration on, with at most so many turns in all: what was written in all, and the outcome
abbrev pub Runs : List Function → Configuration → ℕ → List ℕ → Outcome End → Type 0
Runs functions start limit written (Finished how) = FinishesAt functions start limit written how
Runs functions start limit written Going = GoesOnAt functions start limit written

-- ---- the run of a program

abbrev pub lines_at_start : List Function → List CodeLine
lines_at_start [] = []
lines_at_start (main ∷ functions) = lines_of main

abbrev pub first_frame : List Function → Frame
first_frame functions = record {
  rest = lines_at_start functions;
  braces = [];
  ints = [];
  indices = [];
  texts = [];
  int_blocks = [];
  text_blocks = [];
  line = 0;
  mark = 0;
}

-- function 0 is entered, and all input is left
abbrev pub start : List Function → List ℕ → State
start functions input = record {
  now = first_frame functions;
  callers = [];
  blocks = [];
  made = 0;
  pending = [];
  input = input;
}

-- what a program does on an input within so many turns: what it writes, and the outcome
abbrev pub Mach : List Function → List ℕ → ℕ → List ℕ → Outcome End → Type 0
Mach functions input limit written outcome = Runs functions (configuration 0 [] (start functions input)) limit written outcome
