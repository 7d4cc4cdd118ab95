-- The run of a source on an input within a number of turns. A turn is one of a DO, one of an implied DO in a constructor, or a
-- call.
use Rattle.std.specs.Prelude.{ℕ, List, [], Result, Ok, Err}
use Rattle.a95_base.specs.Outcome.{Stop, Ended, Faulted, Outcome, Finished, Going, Run}
use Rattle.a95_base.specs.Steps.{Ran}
use Rattle.f95_unit.specs.Plain.{Program}
use Rattle.array_meaning.specs.State.{State, Halt, Stopped, Faults, OutOfTurns, Step}
use Rattle.array_meaning.specs.Calls.{variables_at_start, body_acts, called}

-- the calls that may be active at once
abbrev pub most_calls : ℕ
most_calls = 1000

abbrev pub start : Program → List ℕ → ℕ → State
start unit input turns = record { variables = variables_at_start [] unit.main.entities; input = input; written = []; left = turns }

abbrev pub outcome_of : Result (Unit {0}) Halt → Outcome Stop
outcome_of (Ok done) = Finished Ended
outcome_of (Err Stopped) = Finished Ended
outcome_of (Err (Faults kind line)) = Finished (Faulted kind line)
outcome_of (Err OutOfTurns) = Going

abbrev pub run_of : Ran Halt State (Unit {0}) → Run Stop
run_of r = record { written = r.after.written; outcome = outcome_of r.came }

-- the main program
abbrev pub main_acts : Program → Step (Unit {0})
main_acts unit = body_acts unit (called unit most_calls) 0 [] unit.main

abbrev pub source_run : Program → List ℕ → ℕ → Run Stop
source_run unit input turns = run_of (main_acts unit (start unit input turns))
