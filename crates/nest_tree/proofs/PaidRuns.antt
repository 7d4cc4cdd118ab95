-- Turns are paid for by entries: loops, statements, calls and whole runs. And what loops add to the count.
use Rattle.std.proofs.Common.{◌≡◌, refl, subst, ℕ, zero, suc, ◌+◌, ◌<◌, ◌≤◌, arith, Bool, true, false, List, []}
use Rattle.std.specs.Prelude.{Result, Ok, Err}
use Rattle.a95_base.specs.declared.fault.FaultKind.{FaultKind}
use Rattle.a95_base.specs.Input.{Reading, Integer, NoMore, NoInteger}
use Rattle.a95_base.specs.Outcome.{Going}
use Rattle.a95_base.specs.Steps.{pure, stop, behind as goes_on, ◌>>=◌, ◌>>◌}
use Rattle.array_meaning.specs.State as source
use Rattle.array_meaning.specs.State.{State, fault_at, unless, unread, pass}
use Rattle.array_meaning.specs.InputOutput.{taken, next_integer, skip_record}
use Rattle.array_meaning.specs.Control.{Flow, Next, Exits, Cycles, Returns, behind_turn}
use Rattle.nest_tree.specs.Plain.{Procedure, NestUnit}
use Rattle.nest_tree.specs.State.{NestState, Halt, By, Stray, Step, enter}
use Rattle.nest_tree.specs.Statements.{Given, Caller, one_turn, rounds}
use Rattle.array_meaning.specs.Run.{most_calls}
use Rattle.nest_tree.specs.Run.{body_acts, entered, called, outcome_of, start, main_acts}
use Rattle.nest_tree.specs.Counts.{TurnsArePaid}
use Rattle.nest_tree.proofs.Paid.{PaidBy, Paid, paid_then, paid_next, paid_first, paid_entered, paid_spare, paid_pure, paid_stray}
use Rattle.nest_tree.proofs.Paid.{paid_stopped, paid_found, paid_given, paid_reads, paid_changes, paid_joins, paid_writes, le_refl}
use Rattle.nest_tree.proofs.Paid.{paid_pick, Idle, paid_within, paid_turn, paid_inside, PaidUpTo, up_to, up_to_then, up_to_next}
use Rattle.nest_tree.proofs.Paid.{up_to_entered, up_to_pick, waits_up_to, up_to_turned, paid_turns_left}
use Rattle.nest_tree.proofs.Walk.{Walk, any, any_all, of_all}

-- ---- steps of the source

idle_by : {A : Type 0} {m : source.Step A} → ((s : State) → (m s).after.left ≡ s.left) → ((s : State)
    → (m s).came ≡ Err source.OutOfTurns → ⊥) → Idle m
idle_by h p = record { left = h; prompt = p }

left_behind : {A B : Type 0} (f : A → source.Step B) → ((a : A) → Idle (f a)) → (came : Result A source.Halt) (s : State)
    → (goes_on f came s).after.left ≡ s.left
unfolding goes_on
left_behind f g (Ok a) s = (g a).left s
left_behind f g (Err halt) s = refl

value_there : {A : Type 0} (a : A) → Ok a ≡ Err source.OutOfTurns → ⊥
value_there a e = cc

prompt_behind : {A B : Type 0} (f : A → source.Step B) → ((a : A) → Idle (f a)) → (came : Result A source.Halt) (s : State)
    → (came ≡ Err source.OutOfTurns → ⊥) → (goes_on f came s).came ≡ Err source.OutOfTurns → ⊥
unfolding goes_on
prompt_behind f g (Ok a) s p e = (g a).prompt s e
prompt_behind f g (Err source.OutOfTurns) s p e = p refl
prompt_behind f g (Err source.Stopped) s p e = cc
prompt_behind f g (Err (source.Faults kind line)) s p e = cc

idle_then : {A B : Type 0} {m : source.Step A} {f : A → source.Step B} → Idle m → ((a : A) → Idle (f a)) → Idle (m >>= f)
unfolding ◌>>=◌
idle_then {m = m} {f = f} h g = idle_by
    (λ s. subst (λ l. (goes_on f (m s).came (m s).after).after.left ≡ l) (h.left s) (left_behind f g (m s).came (m s).after))
    (λ s. prompt_behind f g (m s).came (m s).after (h.prompt s))

idle_next : {A B : Type 0} {m : source.Step A} {k : source.Step B} → Idle m → Idle k → Idle (m >> k)
unfolding ◌>>◌ ◌>>=◌
idle_next {m = m} {k = k} h g = record {
  left = (idle_then {m = m} {f = λ a. k} h (λ a. g)).left;
  prompt = (idle_then {m =
      m} {f = λ a. k} h (λ a. g)).prompt;
}

idle_pure : {A : Type 0} (a : A) → Idle (pure a)
unfolding pure
idle_pure a = idle_by (λ s. refl) (λ s e. cc)

idle_fault : {A : Type 0} (kind : FaultKind) (line : ℕ) → Idle (fault_at {A = A} kind line)
unfolding fault_at stop
idle_fault kind line = idle_by (λ s. refl) (λ s e. cc)

idle_unless : (b : Bool) (kind : FaultKind) (line : ℕ) → Idle (unless b kind line)
unfolding unless pure stop
idle_unless true kind line = idle_by (λ s. refl) (λ s e. cc)
idle_unless false kind line = idle_by (λ s. refl) (λ s e. cc)

idle_unread : Idle unread
unfolding unread pure
idle_unread = idle_by (λ s. refl) (λ s e. cc)

idle_pass : (n : ℕ) → Idle (pass n)
unfolding pass pure
idle_pass n = idle_by (λ s. refl) (λ s e. cc)

idle_taken : (line : ℕ) (reading : Reading) → Idle (taken line reading)
idle_taken line (Integer z used) = idle_next (idle_pass _) (idle_pure _)
idle_taken line NoMore = idle_fault _ _
idle_taken line NoInteger = idle_fault _ _

idle_integer : (line : ℕ) (comma : Bool) → Idle (next_integer line comma)
idle_integer line comma = idle_then idle_unread (λ rest. idle_taken line _)

idle_skip : (line : ℕ) (read : Bool) → Idle (skip_record line read)
idle_skip line read = idle_then idle_unread (λ rest. idle_next (idle_unless _ _ _) (idle_pass _))

-- ---- loops

paid_behind_turn : {k : ℕ} (flow : Flow) {rest : Step Flow} → PaidUpTo k 0 rest → PaidUpTo k 0 (behind_turn flow rest)
paid_behind_turn Next h = h
paid_behind_turn (Cycles zero) h = h
paid_behind_turn {k = k} (Cycles (suc out)) h = up_to k (paid_pure _)
paid_behind_turn {k = k} (Exits zero) h = up_to k (paid_pure _)
paid_behind_turn {k = k} (Exits (suc out)) h = up_to k (paid_pure _)
paid_behind_turn {k = k} Returns h = up_to k (paid_pure _)

paid_one_turn : {k : ℕ} {body rest : Step Flow} → Paid 0 body → PaidUpTo k 0 rest → PaidUpTo (suc k) 1 (one_turn body rest)
paid_one_turn h g = up_to_turned (up_to_then h (λ flow. paid_behind_turn flow g))

paid_rounds : {head : Step (Unit {0})} {test : Step Bool} {body : Step Flow} → Paid 0 head → Paid 0 test → Paid 0 body → (k : ℕ)
    → PaidUpTo k 0 (rounds k head test body)
unfolding rounds
paid_rounds h t b zero = up_to_entered
    (up_to_next h (up_to_then t (λ go. up_to_pick go waits_up_to (up_to zero (paid_spare (paid_pure _))))))
paid_rounds h t b (suc k) = up_to_entered
    (up_to_next h (up_to_then t
    (λ go. up_to_pick go (paid_one_turn b (paid_rounds h t b k)) (up_to (suc k) (paid_spare (paid_pure _))))))

-- ---- all statements

more_entries : (l e : ℕ) → l + e ≤ (l + suc e) + 0
more_entries l e = omega arith

paid_enter : Paid 0 enter
unfolding enter
paid_enter = record { paid = λ n. (more_entries n.cells.plain.left n.entries, le_refl n.cells.plain.left) }

abbrev pub IsPaid : (A : Type 0) → Step A → Type 0
IsPaid A m = Paid {A = A} 0 m

paid_walk : Walk IsPaid any
paid_walk = record {
  pure_step = λ A a. paid_pure a;
  then_step = λ A B m f h g. paid_then h g;
  next_step = λ A B m k h g. paid_next h g;
  found_step = λ A a. paid_found a;
  given_step = λ A line r. paid_given line r;
  reads_step = λ A f. paid_reads f;
  changes_step = λ f h. paid_changes f;
  pick_step = λ A b m k h g. paid_pick 0 b h g;
  stray_step = paid_stray;
  stopped_step = paid_stopped;
  unless_step = λ b kind line. paid_within (idle_unless b kind line);
  depth_step = λ line. paid_within (idle_fault _ line);
  integer_step = λ line comma. paid_within (idle_integer line comma);
  skip_step = λ line read. paid_within (idle_skip line read);
  enter_step = paid_enter;
  joins_step = paid_joins;
  writes_step = paid_writes;
  while_step = λ head test body h t b. paid_turns_left (λ k. paid_rounds h t b k);
}

-- ---- calls

abbrev pub PaidCalls : Caller → Type 0
PaidCalls calls = (p line : ℕ) (givens : List (ℕ × Given)) → Paid 0 (calls p line givens)

paid_body : (unit : NestUnit) (calls : Caller) → PaidCalls calls → (q : Procedure) → Paid 0 (body_acts unit calls q)
paid_body unit calls same q =
    paid_next (of_all IsPaid any paid_walk unit.constants calls same [] q.body (any_all q.body)) (paid_pure _)

paid_call : (unit : NestUnit) (calls : Caller) → PaidCalls calls → (q : Procedure) → PaidCalls (entered unit calls q)
paid_call unit calls same q p line givens = paid_entered
    (paid_first paid_turn (paid_then (paid_inside _ (paid_body unit calls same q)) (λ own. paid_pure _)))

pub paid_called : (unit : NestUnit) (depth : ℕ) → PaidCalls (called unit depth)
paid_called unit zero p line givens = paid_within (idle_fault _ _)
paid_called unit (suc depth) p line givens = paid_then (paid_found _)
    (λ q. paid_next (paid_found _) (paid_call unit (called unit depth) (paid_called unit depth) q p line givens))

-- ---- runs

goes_past : (turns : ℕ) (n : NestState) (came : Result (Unit {0}) Halt) (n' : NestState) → n.cells.plain.left ≡ turns
    → n.entries ≡ 0
    → PaidBy 0 n came n' → outcome_of came ≡ Going → turns < n'.entries
goes_past turns n (Ok done) n' l e h o = cc
goes_past turns n (Err (By source.Stopped)) n' l e h o = cc
goes_past turns n (Err (By (source.Faults kind line))) n' l e h o = cc
goes_past turns n (Err (By source.OutOfTurns)) n' l e h o =
    past turns n.cells.plain.left n.entries n'.cells.plain.left n'.entries l e h.0 h.1
  where
    past : (t a b c d : ℕ) → a ≡ t → b ≡ 0 → a + b < (c + d) + 0 → c ≡ 0 → t < d
    past t a b c d l e h k = omega arith
goes_past turns n (Err Stray) n' l e h o = cc

pub turns_are_paid : TurnsArePaid
turns_are_paid unit input turns o = goes_past turns (start unit input turns) (main_acts unit (start unit input turns)).came
    (main_acts unit (start unit input turns)).after refl refl
    ((paid_body unit (called unit most_calls) (paid_called unit most_calls) unit.main).paid (start unit input turns)) o
