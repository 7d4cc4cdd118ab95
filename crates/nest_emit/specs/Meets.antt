-- What a run of a nest unit lets expect of the machine: its output and how it comes out, within so many turns as the run has
-- entries. A run that strays lets expect nothing.
use Rattle.std.specs.Prelude.{ℕ, List, Option, Some, None, Result, Ok, Err}
use Rattle.a95_base.specs.Outcome.{Ended, Faulted, Outcome, Finished, Going, Run}
use Rattle.a95_base.specs.Steps.{Ran}
use Rattle.array_meaning.specs.State as source
use Rattle.nest_tree.specs.State.{NestState, Halt, By, Stray}
use Rattle.loop_tree.specs.State.{Brace, End, Comes}
use Rattle.loop_tree.specs.Run.{configuration}
use Rattle.loop_tree.specs.declared.tree.CodeLine.{CodeLine}
use Rattle.loop_tree.specs.declared.tree.Function.{Function}
use Rattle.loop_laws.specs.Meets.{Expected, Meets}
use Rattle.loop_laws.specs.At.{Variables, at}

abbrev pub outcome_for : Result (Unit {0}) Halt → Option (Outcome End)
outcome_for (Ok done) = Some (Finished (Comes Ended))
outcome_for (Err (By source.Stopped)) = Some (Finished (Comes Ended))
outcome_for (Err (By (source.Faults kind line))) = Some (Finished (Comes (Faulted kind line)))
outcome_for (Err (By source.OutOfTurns)) = Some Going
outcome_for (Err Stray) = None

abbrev pub run_with : List ℕ → Option (Outcome End) → Option (Run End)
run_with written None = None
run_with written (Some outcome) = Some (record { written = written; outcome = outcome })

abbrev pub ending : ℕ → Ran Halt NestState (Unit {0}) → Expected
ending limit r = record {
  limit = limit;
  turns = r.after.entries;
  run = run_with r.after.cells.plain.written (outcome_for r.came);
}

-- where a program stands: so many turns are begun and this is written, with these variables before these lines, within these braces
pub record Spot : Type 0 where
  pub functions : List Function
  pub limit : ℕ
  pub turns : ℕ
  pub written : List ℕ
  pub variables : Variables
  pub lines : List CodeLine
  pub braces : List Brace

-- from there on the machine does what is left of the run
pub record Does (p : Spot) (r : Ran Halt NestState (Unit {0})) : Type 0 where
  pub by : Meets p.functions (configuration p.turns p.written (at p.variables p.lines p.braces)) (ending p.limit r)

abbrev pub spot : List Function → ℕ → ℕ → List ℕ → Variables → List CodeLine → List Brace → Spot
spot functions limit turns written v lines braces = record {
  functions = functions;
  limit = limit;
  turns = turns;
  written = written;
  variables = v;
  lines = lines;
  braces = braces;
}

-- the same where the run has come to this state
abbrev pub DoesAt : List Function → ℕ → NestState → Variables → List CodeLine → List Brace → Ran Halt NestState (Unit {0}) → Type 0
DoesAt functions limit n v lines braces r = Does (spot functions limit n.entries n.cells.plain.written v lines braces) r
