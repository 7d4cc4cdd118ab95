-- Calls, and the run of a unit on an input within a number of turns, with the count of its entries: of the bodies of loops that
-- were entered, of the calls, and of the last tests of loops that ask a condition.
use Rattle.std.specs.Prelude.{◌≡◌, ℕ, zero, suc, pos, Bool, true, false, ◌&&◌, nat_eq, if◌then◌else◌, Option, Some, None, List, []}
use Rattle.std.specs.Prelude.{◌∷◌, map, filter, length, slice_get, slice_index_or, Result, Ok, Err}
use Rattle.std.specs.List.{list_all}
use Rattle.a95_base.specs.declared.fault.FaultKind.TheVariants as fault
use Rattle.a95_base.specs.declared.scalar.Scalar.{Scalar}
use Rattle.a95_base.specs.declared.scalar.Scalar.TheVariants as scalar
use Rattle.a95_base.specs.Outcome.{Ended, Faulted, Outcome, Finished, Going, Run}
use Rattle.a95_base.specs.Outcome as outcome
use Rattle.a95_base.specs.Steps.{Ran, pure, ◌>>=◌, ◌>>◌}
use Rattle.f95_unit.specs.declared.unit.DeclaredType.{DeclaredType}
use Rattle.array_meaning.specs.Values.{blank_like}
use Rattle.array_meaning.specs.State as source
use Rattle.array_meaning.specs.State.{extents_of, counted_from_one, Array, Variable}
use Rattle.array_meaning.specs.Expressions.{blank_of_type}
use Rattle.array_meaning.specs.Calls.{elements_held}
use Rattle.array_meaning.specs.Run.{most_calls}
use Rattle.nest_tree.specs.declared.unit.Declared.{Declared}
use Rattle.nest_tree.specs.declared.unit.Role.{Role}
use Rattle.nest_tree.specs.declared.unit.Role.TheVariants as role
use Rattle.nest_tree.specs.declared.unit.Sort.{Sort}
use Rattle.nest_tree.specs.declared.unit.Sort.TheVariants as sort
use Rattle.nest_tree.specs.Plain.{Procedure, NestUnit}
use Rattle.nest_tree.specs.State.{Temps, Memory, NestState, Halt, By, Stray, Step, held_if, found, within, enter, inside}
use Rattle.nest_tree.specs.Statements.{Given, Alone, Entire, Caller, all_act}

-- ---- a procedure's start

-- what a scalar of the lowering holds first
abbrev pub first_of : Sort → Scalar
first_of sort.Exact = scalar.Int (pos 0)
first_of sort.Int = scalar.Int (pos 0)
first_of sort.Log = scalar.Log false
first_of sort.Text = scalar.Text []

abbrev pub no_block : Variable
no_block = record { blank = scalar.Int (pos 0); held = None }

abbrev pub temps_at_start : List Sort → Temps
temps_at_start scalars = record {
  setting = record { kept = λ k. first_of (slice_index_or scalars k sort.Exact); lists = λ l. None };
  blocks = λ t. no_block;
}

abbrev pub given_at : ℕ → List (ℕ × Given) → Option Given
given_at place [] = None
given_at place (g ∷ more) = if nat_eq g.0 place then Some g.1 else given_at place more

-- a dummy's bounds are counted from 1
abbrev pub counted_array : Option Array → Option Array
counted_array None = None
counted_array (Some a) = Some (record a { bounds = counted_from_one (extents_of a.bounds) })

abbrev pub nothing_held : DeclaredType → Variable
nothing_held of = record { blank = blank_of_type of; held = None }

abbrev pub value_start : DeclaredType → Option Given → Variable
value_start of (Some (Alone x)) = record { blank = blank_like x; held = Some (record { bounds = []; elements = x ∷ [] }) }
value_start of other = nothing_held of

abbrev pub whole_start : DeclaredType → Option Given → Variable
whole_start of (Some (Entire v)) = record { blank = blank_like v.blank; held = counted_array v.held }
whole_start of other = nothing_held of

abbrev pub result_start : DeclaredType → Option Given → Variable
result_start of (Some (Entire v)) = v
result_start of other = nothing_held of

abbrev pub start_of : List (ℕ × Given) → DeclaredType → Role → Variable
start_of givens of role.Own = nothing_held of
start_of givens of (role.Value place) = value_start of (given_at place givens)
start_of givens of (role.Whole place modified) = whole_start of (given_at place givens)
start_of givens of (role.Result place) = result_start of (given_at place givens)

abbrev pub memory_at_start : List (ℕ × Given) → Procedure → Memory
memory_at_start givens q = record {
  variables = map (λ d. start_of givens d.of d.role) q.variables;
  temps =
      temps_at_start q.scalars;
}

-- ---- what dummies ask for

abbrev pub is_value : Option Given → Bool
is_value (Some (Alone x)) = true
is_value other = false

abbrev pub is_entire : Option Given → Bool
is_entire (Some (Entire v)) = true
is_entire other = false

abbrev pub is_given : List (ℕ × Given) → Role → Bool
is_given givens role.Own = true
is_given givens (role.Value place) = is_value (given_at place givens)
is_given givens (role.Whole place modified) = is_entire (given_at place givens)
is_given givens (role.Result place) = is_entire (given_at place givens)

abbrev pub is_passed : Role → Bool
is_passed role.Own = false
is_passed other = true

-- each dummy is given what it asks for, and nothing else is given
abbrev pub are_given : List (ℕ × Given) → List Declared → Bool
are_given givens variables =
    list_all (λ d. is_given givens d.role) variables && nat_eq (length (filter (λ d. is_passed d.role) variables)) (length givens)

-- ---- what comes back

abbrev pub left_by : Role → Variable → List (ℕ × List Scalar) → List (ℕ × List Scalar)
left_by (role.Whole place true) v more = (place, elements_held v.held) ∷ more
left_by (role.Result place) v more = (place, elements_held v.held) ∷ more
left_by other v more = more

abbrev pub all_left : List Declared → List Variable → List (ℕ × List Scalar)
all_left (d ∷ variables) (v ∷ own) = left_by d.role v (all_left variables own)
all_left variables own = []

-- ---- calls

module _ (unit : NestUnit) where
  abbrev pub body_acts : Caller → Procedure → Step (Unit {0})
  body_acts calls q = do
    all_act unit.constants calls [] q.body
    pure tt

  -- a turn begins, then the procedure acts on a memory of its own
  abbrev pub entered : Caller → Procedure → Caller
  entered calls q p line givens = do
    enter
    within source.turn
    own ← inside (memory_at_start givens q) (body_acts calls q)
    pure (all_left q.variables own)

  -- a call where so many more may become active
  abbrev pub called : ℕ → Caller
  called zero p line givens = within (source.fault_at fault.CallDepth line)
  called (suc depth) p line givens = do
    q ← found (slice_get unit.procedures p)
    found (held_if (are_given givens q.variables))
    entered (called depth) q p line givens

-- ---- runs

-- how a run ends: as that of a source does, or since a step has no meaning
pub data End : Type 0 where
  Comes : (stop : outcome.Stop) → End
  Strayed : End

abbrev pub outcome_of : Result (Unit {0}) Halt → Outcome End
outcome_of (Ok done) = Finished (Comes Ended)
outcome_of (Err (By source.Stopped)) = Finished (Comes Ended)
outcome_of (Err (By (source.Faults kind line))) = Finished (Comes (Faulted kind line))
outcome_of (Err (By source.OutOfTurns)) = Going
outcome_of (Err Stray) = Finished Strayed

abbrev pub start : NestUnit → List ℕ → ℕ → NestState
start unit input turns = record {
  cells = record {
    plain = record { variables = (memory_at_start [] unit.main).variables; input = input; written = []; left = turns };
    temps = temps_at_start unit.main.scalars;
  };
  pending = [];
  entries = 0;
}

abbrev pub main_acts : NestUnit → Step (Unit {0})
main_acts unit = body_acts unit (called unit most_calls) unit.main

abbrev pub run_of : Ran Halt NestState (Unit {0}) → Run End
run_of r = record { written = r.after.cells.plain.written; outcome = outcome_of r.came }

abbrev pub nest_run : NestUnit → List ℕ → ℕ → Run End
nest_run unit input turns = run_of (main_acts unit (start unit input turns))

abbrev pub entries : NestUnit → List ℕ → ℕ → ℕ
entries unit input turns = (main_acts unit (start unit input turns)).after.entries

-- ---- beside a source

-- the run of a source as one of a unit, which never strays
abbrev pub as_end : Outcome outcome.Stop → Outcome End
as_end (Finished stop) = Finished (Comes stop)
as_end Going = Going

abbrev pub as_nest : Run outcome.Stop → Run End
as_nest run = record { written = run.written; outcome = as_end run.outcome }

-- the run of a unit as one of a source, for units that never stray
abbrev pub stop_of : End → outcome.Stop
stop_of (Comes stop) = stop
stop_of Strayed = Ended

abbrev pub as_stop : Outcome End → Outcome outcome.Stop
as_stop (Finished how) = Finished (stop_of how)
as_stop Going = Going

abbrev pub nest_source : NestUnit → List ℕ → ℕ → Run outcome.Stop
nest_source unit input turns =
    record { written = (nest_run unit input turns).written; outcome = as_stop (nest_run unit input turns).outcome }

-- the unit does what the source does, on every input and within any number of turns
pub record Does (unit : NestUnit) (source : List ℕ → ℕ → Run outcome.Stop) : Type 0 where
  pub does : (input : List ℕ) (turns : ℕ) → nest_run unit input turns ≡ as_nest (source input turns)
