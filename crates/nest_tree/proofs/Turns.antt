-- One more turn, for the steps of a nest run.
use Rattle.std.proofs.Common.{refl, ℕ, suc, Bool, true, false, List}
use Rattle.std.specs.Prelude.{Option, Some, None, Result, Ok, Err}
use Rattle.a95_base.specs.declared.fault.FaultKind.{FaultKind}
use Rattle.a95_base.specs.declared.scalar.Scalar.{Scalar}
use Rattle.a95_base.specs.Steps.{Ran, stop, ◌>>=◌, ◌>>◌}
use Rattle.a95_base.specs.Outcome.{IsPrefix}
use Rattle.a95_base.proofs.Turns as turns
use Rattle.a95_base.proofs.Turns.{Clock, steady_by, prefix_refl}
use Rattle.array_meaning.specs.State as source
use Rattle.array_meaning.specs.State.{State}
use Rattle.array_meaning.specs.InputOutput.{record_of}
use Rattle.array_meaning.proofs.Turns as plain
use Rattle.nest_tree.specs.State.{cells_of, NestState, Memory, memory_of, with_memory, Halt, By, Stray, Step, or_stray, at_line}
use Rattle.nest_tree.specs.State.{found, given, sees, pick, changed_to, changes, lifted, within, enter, turns_left, joins, writes}
use Rattle.nest_tree.specs.State.{back_to, inside}

abbrev pub more : NestState → NestState
more n = record n { cells = record n.cells { plain = plain.more n.cells.plain } }

abbrev pub told : NestState → List ℕ
told n = n.cells.plain.written

-- whether it waits for a turn
abbrev pub waits : Halt → Bool
waits (By halt) = plain.waits halt
waits Stray = false

abbrev pub clock : Clock Halt NestState
clock = record { more = more; written = told; waits = waits }

abbrev pub Tells : {A : Type 0} → Step A → Type 0
Tells m = turns.Tells clock m

abbrev pub SameBy : {A : Type 0} → Result A Halt → NestState → Result A Halt → NestState → Type 0
SameBy came n came' n' = turns.SameBy clock came n came' n'

abbrev pub Same : {A : Type 0} → Ran Halt NestState A → Ran Halt NestState A → Type 0
Same r r' = turns.Same clock r r'

abbrev pub Grows : {A : Type 0} → Step A → Step A → Type 0
Grows m m' = turns.Grows clock m m'

abbrev pub Steady : {A : Type 0} → Step A → Type 0
Steady m = turns.Steady clock m

-- ---- steps that look at no turn

pub steady_stray : {A : Type 0} → Steady (stop {A = A} Stray)
unfolding stop
steady_stray = steady_by (λ n. (refl, refl)) (λ n. prefix_refl (told n))

pub steady_stopped : {A : Type 0} → Steady (stop {A = A} (By source.Stopped))
unfolding stop
steady_stopped = steady_by (λ n. (refl, refl)) (λ n. prefix_refl (told n))

-- any result comes out the same where the state is left as it is
same_here : {A : Type 0} (r : Result A Halt) (n : NestState) → SameBy r n r (more n)
same_here (Ok a) n = (refl, refl)
same_here (Err (By source.OutOfTurns)) n = prefix_refl (told n)
same_here (Err (By source.Stopped)) n = (refl, refl)
same_here (Err (By (source.Faults kind line))) n = (refl, refl)
same_here (Err Stray) n = (refl, refl)

pub steady_found : {A : Type 0} (a : Option A) → Steady (found a)
unfolding found
steady_found a = steady_by (λ n. same_here (or_stray a) n) (λ n. prefix_refl (told n))

pub steady_given : {A : Type 0} (line : ℕ) (r : Result A FaultKind) → Steady (given line r)
unfolding given
steady_given line r = steady_by (λ n. same_here (at_line line r) n) (λ n. prefix_refl (told n))

pub steady_reads : {A : Type 0} (f : Memory → Option A) → Steady (sees cells_of f)
unfolding sees
steady_reads f = steady_by (λ n. same_here (or_stray (f (memory_of n.cells))) n) (λ n. prefix_refl (told n))

changed_same : (r : Option Memory) (n : NestState) → Same (changed_to r n) (changed_to r (more n))
changed_same (Some m) n = (refl, refl)
changed_same None n = (refl, refl)

changed_tells : (r : Option Memory) (n : NestState) → IsPrefix (told n) (told (changed_to r n).after)
changed_tells (Some m) n = prefix_refl (told n)
changed_tells None n = prefix_refl (told n)

pub steady_changes : (f : Memory → Option Memory) → Steady (changes f)
unfolding changes
steady_changes f = steady_by (λ n. changed_same (f (memory_of n.cells)) n) (λ n. changed_tells (f (memory_of n.cells)) n)

pub steady_enter : Steady enter
unfolding enter
steady_enter = steady_by (λ n. (refl, refl)) (λ n. prefix_refl (told n))

pub steady_joins : (x : Scalar) → Steady (joins x)
unfolding joins
steady_joins x = steady_by (λ n. (refl, refl)) (λ n. prefix_refl (told n))

pub steady_writes : Steady writes
unfolding writes
steady_writes = steady_by (λ n. (refl, refl)) (λ n. record { more = record_of n.pending; is = refl })

pub grows_pick : {A : Type 0} (b : Bool) {m m' k k' : Step A} → Grows m m' → Grows k k' → Grows (pick b m k) (pick b m' k')
unfolding pick
grows_pick true h g = record {
  grows = h.grows;
  first = record { tells = h.first.tells };
  second = record {
    tells =
        h.second.tells;
  };
}
grows_pick false h g = record {
  grows = g.grows;
  first = record { tells = g.first.tells };
  second = record {
    tells =
        g.second.tells;
  };
}

-- ---- a step of the source

lifted_same : {A : Type 0} (came : Result A source.Halt) (s : State) (came' : Result A source.Halt) (s' : State) (n : NestState)
    → plain.SameBy came s came' s'
    → Same (lifted n (record { came = came; after = s })) (lifted (more n) (record { came = came'; after = s' }))
lifted_same (Ok a) s came' s' n h = rw (h.0, h.1) (refl, refl)
lifted_same (Err source.OutOfTurns) s came' s' n h = h
lifted_same (Err source.Stopped) s came' s' n h = rw (h.0, h.1) (refl, refl)
lifted_same (Err (source.Faults kind line)) s came' s' n h = rw (h.0, h.1) (refl, refl)

pub steady_within : {A : Type 0} {m : source.Step A} → plain.Steady m → Steady (within m)
unfolding within
steady_within {m = m} h = steady_by
    (λ n. lifted_same (m n.cells.plain).came (m n.cells.plain).after (m (plain.more n.cells.plain)).came
    (m (plain.more n.cells.plain)).after n (h.grows n.cells.plain))
    (λ n. h.first.tells n.cells.plain)

-- ---- rounds

pub tells_waits : {A : Type 0} → Tells (stop {A = A} (By source.OutOfTurns))
unfolding stop
tells_waits = record { tells = λ n. prefix_refl (told n) }

-- a step that waits, and any step at all with one more turn
pub grows_waits : {A : Type 0} {m : Step A} → Tells m → Grows (stop (By source.OutOfTurns)) m
unfolding stop
grows_waits h = record { grows = λ n. h.tells (more n); first = record { tells = λ n. prefix_refl (told n) }; second = h }

pub steady_turns_left : {A : Type 0} {f : ℕ → Step A} → ((k : ℕ) → Grows (f k) (f (suc k))) → Steady (turns_left f)
unfolding turns_left
steady_turns_left h = steady_by (λ n. (h n.cells.plain.left).grows n) (λ n. (h n.cells.plain.left).first.tells n)

-- ---- a callee's step on a memory of its own

own_same : (callers : Memory) (came : Result (Unit {0}) Halt) (n : NestState) (came' : Result (Unit {0}) Halt)
    (n' : NestState) → SameBy came n came' n'
    → Same (back_to callers (record { came = came; after = n })) (back_to callers (record { came = came'; after = n' }))
own_same callers (Ok done) n came' n' h = rw (h.0, h.1) (refl, refl)
own_same callers (Err (By source.OutOfTurns)) n came' n' h = own_waits callers came' n n' h
  where
    own_waits : (callers : Memory) (came' : Result (Unit {0}) Halt) (n n' : NestState) → IsPrefix (told n) (told n')
        → IsPrefix (told n) (told n')
    own_waits callers came' n n' h = h
own_same callers (Err (By source.Stopped)) n came' n' h = rw (h.0, h.1) (refl, refl)
own_same callers (Err (By (source.Faults kind line))) n came' n' h = rw (h.0, h.1) (refl, refl)
own_same callers (Err Stray) n came' n' h = rw (h.0, h.1) (refl, refl)

pub grows_inside : (own : Memory) {body body' : Step (Unit {0})} → Grows body body' → Grows (inside own body) (inside own body')
unfolding inside
grows_inside own {body = body} {body' = body'} h = record {
  grows = λ n. own_same (memory_of n.cells) (body (with_memory n own)).came (body (with_memory n own)).after
      (body' (more (with_memory n own))).came (body' (more (with_memory n own))).after (h.grows (with_memory n own));
  first = record { tells = λ n. h.first.tells (with_memory n own) };
  second = record { tells = λ n. h.second.tells (with_memory n own) };
}
