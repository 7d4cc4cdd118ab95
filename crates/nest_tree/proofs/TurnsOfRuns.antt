-- One more turn, for loops, statements, calls and whole runs.
use Rattle.std.proofs.Common.{◌≡◌, refl, ap, ◌∙◌, subst, ℕ, zero, suc, ◌+◌, ◌-◌, arith, Bool, List, []}
use Rattle.std.specs.Prelude.{Result, Ok, Err}
use Rattle.a95_base.specs.Input.{Reading, Integer, NoMore, NoInteger}
use Rattle.a95_base.specs.Outcome.{Stop as Ending, Outcome, Finished, Going, Run, IsPrefix}
use Rattle.a95_base.specs.Steps.{◌>>=◌, ◌>>◌}
use Rattle.a95_base.proofs.Turns.{prefix_refl, prefix_trans, grows_then, grows_next, steady_pure}
use Rattle.array_meaning.proofs.TurnsOfFlow.{grows_behind_turn}
use Rattle.array_meaning.specs.State as source
use Rattle.array_meaning.specs.InputOutput.{taken, next_integer, skip_record}
use Rattle.array_meaning.specs.Control.{Flow}
use Rattle.array_meaning.proofs.Turns as plain
use Rattle.nest_tree.specs.Plain.{Procedure, NestUnit}
use Rattle.nest_tree.specs.State.{NestState, Halt, By, Stray, Step}
use Rattle.nest_tree.specs.Statements.{Given, Caller, one_turn, rounds}
use Rattle.array_meaning.specs.Run.{most_calls}
use Rattle.nest_tree.specs.Run.{End, Strayed, body_acts, entered, called, outcome_of, start, main_acts, run_of, nest_run, as_end}
use Rattle.nest_tree.specs.Run.{as_nest, as_stop}
use Rattle.nest_tree.specs.RunLaws.{StaysBy, Stays, MoreTurns, DoesNotStray}
use Rattle.nest_tree.proofs.Turns.{SameBy, Steady, Grows, steady_stray, steady_stopped}
use Rattle.nest_tree.proofs.Turns.{steady_found, steady_given, steady_reads, steady_changes, steady_enter, steady_joins}
use Rattle.nest_tree.proofs.Turns.{steady_writes, grows_pick, steady_within, tells_waits, grows_waits, steady_turns_left}
use Rattle.nest_tree.proofs.Turns.{grows_inside}
use Rattle.nest_tree.proofs.Walk.{Walk, any, any_all, of_all}

-- ---- loops

grows_one_turn : {body rest rest' : Step Flow} → Steady body → Grows rest rest' → Grows (one_turn body rest) (one_turn body rest')
grows_one_turn h g = grows_next (steady_within plain.steady_turn) (grows_then h (λ flow. grows_behind_turn flow g))

-- without a turn left it ends, faults or waits
steady_last : {head : Step (Unit {0})} {test : Step Bool} → Steady head → Steady test → (body : Step Flow)
    → Steady (rounds zero head test body)
unfolding rounds
steady_last h t body =
    grows_next steady_enter (grows_next h (grows_then t (λ go. grows_pick go (grows_waits tells_waits) (steady_pure _))))

-- with one round more, too, since a round takes a turn
grows_rounds : {head : Step (Unit {0})} {test : Step Bool} {body : Step Flow} → Steady head → Steady test → Steady body → (k : ℕ)
    → Grows (rounds k head test body) (rounds (suc k) head test body)
unfolding rounds
grows_rounds {body = body} h t b zero = grows_next steady_enter
    (grows_next h (grows_then t
    (λ go. grows_pick go (grows_waits (grows_one_turn b (steady_last h t body)).first) (steady_pure _))))
grows_rounds h t b (suc k) = grows_next steady_enter
    (grows_next h (grows_then t (λ go. grows_pick go (grows_one_turn b (grows_rounds h t b k)) (steady_pure _))))

-- ---- input

taken_same : (line : ℕ) (reading : Reading) → plain.Steady (taken line reading)
taken_same line (Integer z used) = grows_next (plain.steady_pass _) (steady_pure _)
taken_same line NoMore = plain.steady_fault _ _
taken_same line NoInteger = plain.steady_fault _ _

next_same : (line : ℕ) (comma : Bool) → plain.Steady (next_integer line comma)
next_same line comma = grows_then plain.steady_unread (λ rest. taken_same line _)

skip_same : (line : ℕ) (read : Bool) → plain.Steady (skip_record line read)
skip_same line read =
    grows_then plain.steady_unread (λ rest. grows_next (plain.steady_unless _ _ _) (plain.steady_pass _))

-- ---- all statements

abbrev pub IsSteady : (A : Type 0) → Step A → Type 0
IsSteady A m = Steady {A = A} m

steady_walk : Walk IsSteady any
steady_walk = record {
  pure_step = λ A a. steady_pure a;
  then_step = λ A B m f h g. grows_then h g;
  next_step = λ A B m k h g. grows_next h g;
  found_step = λ A a. steady_found a;
  given_step = λ A line r. steady_given line r;
  reads_step = λ A f. steady_reads f;
  changes_step = λ f h. steady_changes f;
  pick_step = λ A b m k h g. grows_pick b h g;
  stray_step = steady_stray;
  stopped_step = steady_stopped;
  unless_step = λ b kind line. steady_within (plain.steady_unless b kind line);
  depth_step = λ line. steady_within (plain.steady_fault _ line);
  integer_step = λ line comma. steady_within (next_same line comma);
  skip_step = λ line read. steady_within (skip_same line read);
  enter_step = steady_enter;
  joins_step = steady_joins;
  writes_step = steady_writes;
  while_step = λ head test body h t b. steady_turns_left (λ k. grows_rounds h t b k);
}

-- ---- calls

abbrev pub SteadyCalls : Caller → Type 0
SteadyCalls calls = (p line : ℕ) (givens : List (ℕ × Given)) → Steady (calls p line givens)

steady_body : (unit : NestUnit) (calls : Caller) → SteadyCalls calls → (q : Procedure) → Steady (body_acts unit calls q)
steady_body unit calls same q =
    grows_next (of_all IsSteady any steady_walk unit.constants calls same [] q.body (any_all q.body)) (steady_pure _)

steady_entered : (unit : NestUnit) (calls : Caller) → SteadyCalls calls → (q : Procedure) → SteadyCalls (entered unit calls q)
steady_entered unit calls same q p line givens = grows_next steady_enter
    (grows_next (steady_within plain.steady_turn)
    (grows_then (grows_inside _ (steady_body unit calls same q)) (λ own. steady_pure _)))

pub steady_called : (unit : NestUnit) (depth : ℕ) → SteadyCalls (called unit depth)
steady_called unit zero p line givens = steady_within (plain.steady_fault _ _)
steady_called unit (suc depth) p line givens = grows_then (steady_found _)
    (λ q. grows_next (steady_found _) (steady_entered unit (called unit depth) (steady_called unit depth) q p line givens))

-- ---- runs

stays_refl_by : (outcome : Outcome End) (run : Run End) → StaysBy outcome run run
stays_refl_by (Finished how) run = refl
stays_refl_by Going run = prefix_refl run.written

stays_refl : (run : Run End) → Stays run run
stays_refl run = stays_refl_by run.outcome run

-- with more turns no less is written
written_by : (outcome : Outcome End) (run longer : Run End) → StaysBy outcome run longer → IsPrefix run.written longer.written
written_by (Finished how) run longer h = rw h (prefix_refl run.written)
written_by Going run longer h = h

stays_trans_by : (outcome : Outcome End) (run longer longest : Run End) → StaysBy outcome run longer
    → StaysBy longer.outcome longer longest
    → run.outcome ≡ outcome → StaysBy outcome run longest
stays_trans_by (Finished how) run longer longest h g e = subst (λ o. StaysBy o run longest) e
    (subst (λ r. StaysBy r.outcome r longest) h g)
stays_trans_by Going run longer longest h g e = prefix_trans h (written_by longer.outcome longer longest g)

stays_trans : (run longer longest : Run End) → Stays run longer → Stays longer longest → Stays run longest
stays_trans run longer longest h g = stays_trans_by run.outcome run longer longest h g refl

same_stays : (came : Result (Unit {0}) Halt) (n : NestState) (came' : Result (Unit {0}) Halt) (n' : NestState)
    → SameBy came n came' n'
    → StaysBy (outcome_of came) (run_of (record { came = came; after = n })) (run_of (record { came = came'; after = n' }))
same_stays (Ok done) n came' n' h = rw (h.0, h.1)
same_stays (Err (By source.Stopped)) n came' n' h = rw (h.0, h.1)
same_stays (Err (By (source.Faults kind line))) n came' n' h = rw (h.0, h.1)
same_stays (Err (By source.OutOfTurns)) n came' n' h = h
same_stays (Err Stray) n came' n' h = rw (h.0, h.1)

steady_main : (unit : NestUnit) → Steady (main_acts unit)
steady_main unit = steady_body unit (called unit most_calls) (steady_called unit most_calls) unit.main

one_turn_more : (unit : NestUnit) (input : List ℕ) (turns : ℕ) → Stays (nest_run unit input turns)
    (nest_run unit input (suc turns))
one_turn_more unit input turns = same_stays (main_acts unit (start unit input turns)).came
    (main_acts unit (start unit input turns)).after
    (main_acts unit (start unit input (suc turns))).came (main_acts unit (start unit input (suc turns))).after
    ((steady_main unit).grows (start unit input turns))

turns_more : (unit : NestUnit) (input : List ℕ) (turns k : ℕ) → Stays (nest_run unit input turns)
    (nest_run unit input (k + turns))
turns_more unit input turns zero = let e : 0 + turns ≡ turns = omega arith in rw e (stays_refl (nest_run unit input turns))
turns_more unit input turns (suc k) = let e : suc k + turns ≡ suc (k + turns) = omega arith in
    rw e (stays_trans (nest_run unit input turns) (nest_run unit input (k + turns)) (nest_run unit input (suc (k + turns)))
    (turns_more unit input turns k) (one_turn_more unit input (k + turns)))

pub more_turns : MoreTurns
more_turns unit input turns longer h = let e : (longer - turns) + turns ≡ longer = omega arith in rw e at
    (turns_more unit input turns (longer - turns))

-- ---- beside a source

abbrev with_stop : List ℕ → Outcome Ending → Run Ending
with_stop written o = record { written = written; outcome = o }

abbrev source_run_of : Run End → Run Ending
source_run_of run = with_stop run.written (as_stop run.outcome)

not_strayed : (o : Outcome Ending) → as_end o ≡ Finished Strayed → ⊥
not_strayed (Finished how) e = cc
not_strayed Going e = cc

back_again : (o : Outcome Ending) → as_stop (as_end o) ≡ o
back_again (Finished how) = refl
back_again Going = refl

pub does_not_stray : DoesNotStray
does_not_stray unit told d input turns = (
  λ e. not_strayed (told input turns).outcome (subst (λ r. r.outcome ≡ Finished Strayed) (d.does input turns) e),
  ap source_run_of (d.does input turns) ∙ again (told input turns),
)
  where
    again : (run : Run Ending) → source_run_of (as_nest run) ≡ run
    again run = ap (with_stop run.written) (back_again run.outcome)
