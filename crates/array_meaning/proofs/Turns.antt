-- One more turn, for the steps of a source's run.
use Rattle.std.proofs.Common.{◌≡◌, refl, ℕ, zero, suc, Bool, true, false, List}
use Rattle.std.specs.Prelude.{Option, Some, None, Result, Ok, Err}
use Rattle.a95_base.specs.declared.fault.FaultKind.{FaultKind}
use Rattle.a95_base.specs.declared.scalar.Scalar.{Scalar}
use Rattle.a95_base.specs.Steps.{Ran, pure, stop}
use Rattle.a95_base.specs.Outcome.{IsPrefix}
use Rattle.a95_base.proofs.Turns as turns
use Rattle.a95_base.proofs.Turns.{Clock, steady_by, prefix_refl}
use Rattle.array_meaning.specs.State.{State, Halt, Stopped, Faults, OutOfTurns, Step, Array, Variable, fault_at, unless, choose}
use Rattle.array_meaning.specs.State.{given, allocated_array, turn_from, turn, turns_left, variable, set_variable, Substring}
use Rattle.array_meaning.specs.State.{store_all, put, unread, pass, back_to, inside}

abbrev pub more : State → State
more s = record s { left = suc s.left }

-- whether it waits for a turn
abbrev pub waits : Halt → Bool
waits OutOfTurns = true
waits Stopped = false
waits (Faults kind line) = false

abbrev pub clock : Clock Halt State
clock = record { more = more; written = λ s. s.written; waits = waits }

abbrev pub Tells : {A : Type 0} → Step A → Type 0
Tells m = turns.Tells clock m

abbrev pub SameBy : {A : Type 0} → Result A Halt → State → Result A Halt → State → Type 0
SameBy came s came' s' = turns.SameBy clock came s came' s'

abbrev pub Same : {A : Type 0} → Ran Halt State A → Ran Halt State A → Type 0
Same r r' = turns.Same clock r r'

abbrev pub Grows : {A : Type 0} → Step A → Step A → Type 0
Grows m m' = turns.Grows clock m m'

abbrev pub Steady : {A : Type 0} → Step A → Type 0
Steady m = turns.Steady clock m

-- ---- steps that look at no turn

pub steady_fault : {A : Type 0} (kind : FaultKind) (line : ℕ) → Steady (fault_at {A = A} kind line)
unfolding fault_at stop
steady_fault kind line = steady_by (λ s. (refl, refl)) (λ s. prefix_refl s.written)

pub steady_stopped : {A : Type 0} → Steady (stop {A = A} Stopped)
unfolding stop
steady_stopped = steady_by (λ s. (refl, refl)) (λ s. prefix_refl s.written)

pub steady_unless : (b : Bool) (kind : FaultKind) (line : ℕ) → Steady (unless b kind line)
unfolding unless pure stop
steady_unless true kind line = steady_by (λ s. (refl, refl)) (λ s. prefix_refl s.written)
steady_unless false kind line = steady_by (λ s. (refl, refl)) (λ s. prefix_refl s.written)

pub steady_given : {A : Type 0} (line : ℕ) (r : Result A FaultKind) → Steady (given line r)
unfolding given pure stop
steady_given line (Ok a) = steady_by (λ s. (refl, refl)) (λ s. prefix_refl s.written)
steady_given line (Err kind) = steady_by (λ s. (refl, refl)) (λ s. prefix_refl s.written)

pub steady_allocated : (line : ℕ) (held : Option Array) → Steady (allocated_array line held)
unfolding allocated_array pure stop
steady_allocated line (Some a) = steady_by (λ s. (refl, refl)) (λ s. prefix_refl s.written)
steady_allocated line None = steady_by (λ s. (refl, refl)) (λ s. prefix_refl s.written)

pub steady_variable : (n : ℕ) → Steady (variable n)
unfolding variable pure
steady_variable n = steady_by (λ s. (refl, refl)) (λ s. prefix_refl s.written)

pub steady_set : (n : ℕ) (v : Variable) → Steady (set_variable n v)
unfolding set_variable pure
steady_set n v = steady_by (λ s. (refl, refl)) (λ s. prefix_refl s.written)

pub steady_store : (n : ℕ) (bytes : Substring) (stores : List (ℕ × Scalar)) → Steady (store_all n bytes stores)
unfolding store_all set_variable pure
steady_store n bytes stores = steady_by (λ s. (refl, refl)) (λ s. prefix_refl s.written)

pub steady_put : (bytes : List ℕ) → Steady (put bytes)
unfolding put pure
steady_put bytes = steady_by (λ s. (refl, refl)) (λ s. record { more = bytes; is = refl })

pub steady_unread : Steady unread
unfolding unread pure
steady_unread = steady_by (λ s. (refl, refl)) (λ s. prefix_refl s.written)

pub steady_pass : (n : ℕ) → Steady (pass n)
unfolding pass pure
steady_pass n = steady_by (λ s. (refl, refl)) (λ s. prefix_refl s.written)

pub grows_choose : {A : Type 0} (b : Bool) {m m' n n' : Step A} → Grows m m' → Grows n n' → Grows (choose b m n) (choose b m' n')
unfolding choose
grows_choose true h g =
    record { grows = h.grows; first = record { tells = h.first.tells }; second = record { tells = h.second.tells } }
grows_choose false h g =
    record { grows = g.grows; first = record { tells = g.first.tells }; second = record { tells = g.second.tells } }

-- ---- turns

turn_at : (n : ℕ) (s : State) → n ≡ s.left → Same (turn_from n s) (turn_from (suc n) (more s))
unfolding turn_from pure stop
turn_at zero s e = prefix_refl s.written
turn_at (suc n) s e = (refl, refl)

tells_turn_at : (n : ℕ) (s : State) → IsPrefix s.written (turn_from n s).after.written
unfolding turn_from pure stop
tells_turn_at zero s = prefix_refl s.written
tells_turn_at (suc n) s = prefix_refl s.written

pub steady_turn : Steady turn
unfolding turn
steady_turn = steady_by (λ s. turn_at s.left s refl) (λ s. tells_turn_at s.left s)

pub tells_waits : {A : Type 0} → Tells (stop {A = A} OutOfTurns)
unfolding stop
tells_waits = record { tells = λ s. prefix_refl s.written }

-- a step that waits, and any step at all with one more turn
pub grows_waits : {A : Type 0} {m : Step A} → Tells m → Grows (stop OutOfTurns) m
unfolding stop
grows_waits h = record { grows = λ s. h.tells (more s); first = record { tells = λ s. prefix_refl s.written }; second = h }

pub steady_turns_left : {A : Type 0} {f : ℕ → Step A} → ((k : ℕ) → Grows (f k) (f (suc k))) → Steady (turns_left f)
unfolding turns_left
steady_turns_left h = steady_by (λ s. (h s.left).grows s) (λ s. (h s.left).first.tells s)

-- ---- a callee's step on variables of its own

own_same : (callers : List Variable) (came : Result (Unit {0}) Halt) (s : State) (came' : Result (Unit {0}) Halt)
    (s' : State) → SameBy came s came' s'
    → Same (back_to callers (record { came = came; after = s })) (back_to callers (record { came = came'; after = s' }))
own_same callers (Ok done) s came' s' h = rw (h.0, h.1) (refl, refl)
own_same callers (Err OutOfTurns) s came' s' h = own_waits callers came' s s' h
  where
    own_waits : (callers : List Variable) (came' : Result (Unit {0}) Halt) (s s' : State) → IsPrefix s.written s'.written
        → IsPrefix s.written s'.written
    own_waits callers came' s s' h = h
own_same callers (Err Stopped) s came' s' h = rw (h.0, h.1) (refl, refl)
own_same callers (Err (Faults kind line)) s came' s' h = rw (h.0, h.1) (refl, refl)

pub grows_inside : (own : List Variable) {body body' : Step (Unit {0})} → Grows body body' → Grows (inside own body)
    (inside own body')
unfolding inside
grows_inside own {body = body} {body' = body'} h = record {
  grows = λ s. own_same s.variables (body (record s { variables = own })).came (body (record s { variables = own })).after
      (body' (more (record s { variables = own }))).came (body' (more (record s { variables = own }))).after
      (h.grows (record s { variables = own }));
  first = record { tells = λ s. h.first.tells (record s { variables = own }) };
  second = record { tells = λ s. h.second.tells (record s { variables = own }) };
}
