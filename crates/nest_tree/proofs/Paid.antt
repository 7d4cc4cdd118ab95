-- Turns are paid for by entries. A step may use up a credit: `turn` one, which the entry before it gives.
use Rattle.std.proofs.Common.{◌≡◌, refl, sym, subst, ℕ, zero, suc, ◌+◌, ◌<◌, ◌≤◌, arith, Bool, true, false}
use Rattle.std.specs.Prelude.{Option, Some, None, Result, Ok, Err}
use Rattle.a95_base.specs.declared.fault.FaultKind.{FaultKind}
use Rattle.a95_base.specs.declared.scalar.Scalar.{Scalar}
use Rattle.a95_base.specs.Steps.{pure, stop, behind, ◌>>=◌, ◌>>◌}
use Rattle.array_meaning.specs.State as source
use Rattle.array_meaning.specs.State.{State, turn_from, turn}
use Rattle.nest_tree.specs.State.{cells_of, NestState, Memory, memory_of, with_memory, Halt, By, Stray, Step, or_stray, at_line}
use Rattle.nest_tree.specs.State.{found, given, sees, pick, changed_to, changes, by_source, lifted, within, enter, turns_left}
use Rattle.nest_tree.specs.State.{joins, writes, back_to, inside}

-- turns that are left and entries together
abbrev pub sum : NestState → ℕ
sum n = n.cells.plain.left + n.entries

-- from n on a step has come to this; where it waits, no turn is left
abbrev pub PaidBy : {A : Type 0} → ℕ → NestState → Result A Halt → NestState → Type 0
PaidBy c n (Ok a) n' = (sum n ≤ sum n' + c) × (n'.cells.plain.left ≤ n.cells.plain.left)
PaidBy c n (Err (By source.OutOfTurns)) n' = (sum n < sum n' + c) × (n'.cells.plain.left ≡ 0)
PaidBy c n (Err (By source.Stopped)) n' = Unit {0}
PaidBy c n (Err (By (source.Faults kind line))) n' = Unit {0}
PaidBy c n (Err Stray) n' = Unit {0}

pub record Paid {A : Type 0} (c : ℕ) (m : Step A) : Type 0 where
  pub paid : (n : NestState) → PaidBy c n (m n).came (m n).after

-- ---- numbers

le_chain : (a b c d e : ℕ) → a ≤ b + c → b ≤ e + d → a ≤ e + (c + d)
le_chain a b c d e h k = omega arith

lt_chain : (a b c d e : ℕ) → a ≤ b + c → b < e + d → a < e + (c + d)
lt_chain a b c d e h k = omega arith

le_trans : (a b c : ℕ) → a ≤ b → b ≤ c → a ≤ c
le_trans a b c h k = omega arith

-- ---- one step behind another

paid_more : {A : Type 0} (c d : ℕ) (n n' : NestState) (r : Result A Halt) (n'' : NestState) → sum n ≤ sum n' + c
    → n'.cells.plain.left ≤ n.cells.plain.left → PaidBy d n' r n'' → PaidBy (c + d) n r n''
paid_more c d n n' (Ok a) n'' h k p =
    (le_chain (sum n) (sum n') c d (sum n'') h p.0, le_trans n''.cells.plain.left n'.cells.plain.left n.cells.plain.left p.1 k)
paid_more c d n n' (Err (By source.OutOfTurns)) n'' h k p = (lt_chain (sum n) (sum n') c d (sum n'') h p.0, p.1)
paid_more c d n n' (Err (By source.Stopped)) n'' h k p = tt
paid_more c d n n' (Err (By (source.Faults kind line))) n'' h k p = tt
paid_more c d n n' (Err Stray) n'' h k p = tt

lt_more : (a b c d : ℕ) → a < b + c → a < b + (c + d)
lt_more a b c d h = omega arith

paid_behind : {A B : Type 0} (c d : ℕ) (f : A → Step B) (n : NestState) → (came : Result A Halt) (n' : NestState)
    → PaidBy c n came n'
    → ((a : A) → n'.cells.plain.left ≤ n.cells.plain.left → PaidBy d n' (f a n').came (f a n').after)
    → PaidBy (c + d) n (behind f came n').came (behind f came n').after
unfolding behind
paid_behind c d f n (Ok a) n' h g = paid_more c d n n' (f a n').came (f a n').after h.0 h.1 (g a h.1)
paid_behind c d f n (Err (By source.OutOfTurns)) n' h g = (lt_more (sum n) (sum n') c d h.0, h.1)
paid_behind c d f n (Err (By source.Stopped)) n' h g = tt
paid_behind c d f n (Err (By (source.Faults kind line))) n' h g = tt
paid_behind c d f n (Err Stray) n' h g = tt

pub paid_with : {A B : Type 0} (c d : ℕ) {m : Step A} {f : A → Step B} → Paid c m → ((a : A) → Paid d (f a))
    → Paid (c + d) (m >>= f)
unfolding ◌>>=◌
paid_with c d {m = m} {f = f} h g = record {
  paid =
      λ n. paid_behind c d f n (m n).came (m n).after (h.paid n) (λ a k. (g a).paid (m n).after);
}

-- steps that use up no credit
pub paid_then : {A B : Type 0} {m : Step A} {f : A → Step B} → Paid 0 m → ((a : A) → Paid 0 (f a)) → Paid 0 (m >>= f)
paid_then h g = paid_with 0 0 h g

pub paid_next : {A B : Type 0} {m : Step A} {k : Step B} → Paid 0 m → Paid 0 k → Paid 0 (m >> k)
unfolding ◌>>◌ ◌>>=◌
paid_next {m = m} {k = k} h g = record { paid = (paid_then {m = m} {f = λ a. k} h (λ a. g)).paid }

-- one credit is used up in front, or behind
pub paid_last : {A B : Type 0} {m : Step A} {f : A → Step B} → Paid 0 m → ((a : A) → Paid 1 (f a)) → Paid 1 (m >>= f)
paid_last h g = paid_with 0 1 h g

pub paid_last_next : {A B : Type 0} {m : Step A} {k : Step B} → Paid 0 m → Paid 1 k → Paid 1 (m >> k)
unfolding ◌>>◌ ◌>>=◌
paid_last_next {m = m} {k = k} h g = record { paid = (paid_last {m = m} {f = λ a. k} h (λ a. g)).paid }

pub paid_first : {A B : Type 0} {m : Step A} {k : Step B} → Paid 1 m → Paid 0 k → Paid 1 (m >> k)
unfolding ◌>>◌ ◌>>=◌
paid_first {m = m} {k = k} h g = record { paid = (paid_with 1 0 {m = m} {f = λ a. k} h (λ a. g)).paid }

-- ---- entries give a credit

credit_by : {A : Type 0} (n n' : NestState) (r : Result A Halt) (n'' : NestState) → sum n' ≡ suc (sum n)
    → n'.cells.plain.left ≡ n.cells.plain.left → PaidBy 1 n' r n'' → PaidBy 0 n r n''
credit_by n n' (Ok a) n'' e k p =
    (credit_le (sum n) (sum n') (sum n'') e p.0, subst (λ l. n''.cells.plain.left ≤ l) k p.1)
  where
    credit_le : (a b c : ℕ) → b ≡ suc a → b ≤ c + 1 → a ≤ c + 0
    credit_le a b c e h = omega arith
credit_by n n' (Err (By source.OutOfTurns)) n'' e k p = (credit_lt (sum n) (sum n') (sum n'') e p.0, p.1)
  where
    credit_lt : (a b c : ℕ) → b ≡ suc a → b < c + 1 → a < c + 0
    credit_lt a b c e h = omega arith
credit_by n n' (Err (By source.Stopped)) n'' e k p = tt
credit_by n n' (Err (By (source.Faults kind line))) n'' e k p = tt
credit_by n n' (Err Stray) n'' e k p = tt

one_more : (a b : ℕ) → a + suc b ≡ suc (a + b)
one_more a b = omega arith

pub paid_entered : {A : Type 0} {m : Step A} → Paid 1 m → Paid 0 (enter >> m)
unfolding ◌>>◌ enter behind
paid_entered {m = m} h = record {
  paid = λ n. credit_by n (record n { entries = suc n.entries })
      (m (record n { entries = suc n.entries })).came (m (record n { entries = suc n.entries })).after
      (one_more n.cells.plain.left n.entries) refl (h.paid (record n { entries = suc n.entries }));
}

spare_by : {A : Type 0} (n : NestState) (r : Result A Halt) (n' : NestState) → PaidBy 0 n r n' → PaidBy 1 n r n'
spare_by n (Ok a) n' p = (spare_le (sum n) (sum n') p.0, p.1)
  where
    spare_le : (a b : ℕ) → a ≤ b + 0 → a ≤ b + 1
    spare_le a b h = omega arith
spare_by n (Err (By source.OutOfTurns)) n' p = (spare_lt (sum n) (sum n') p.0, p.1)
  where
    spare_lt : (a b : ℕ) → a < b + 0 → a < b + 1
    spare_lt a b h = omega arith
spare_by n (Err (By source.Stopped)) n' p = tt
spare_by n (Err (By (source.Faults kind line))) n' p = tt
spare_by n (Err Stray) n' p = tt

-- a credit that isn't used
pub paid_spare : {A : Type 0} {m : Step A} → Paid 0 m → Paid 1 m
paid_spare {m = m} h = record { paid = λ n. spare_by n (m n).came (m n).after (h.paid n) }

-- ---- steps that begin no turn

same_le : (a : ℕ) → a ≤ a + 0
same_le a = omega arith

pub le_refl : (a : ℕ) → a ≤ a
le_refl a = omega arith

value_here : {A : Type 0} (a : A) (n : NestState) → PaidBy 0 n (Ok a) n
value_here a n = (same_le (sum n), le_refl n.cells.plain.left)

pub paid_pure : {A : Type 0} (a : A) → Paid 0 (pure a)
unfolding pure
paid_pure a = record { paid = λ n. value_here a n }

pub paid_stray : {A : Type 0} → Paid 0 (stop {A = A} Stray)
unfolding stop
paid_stray = record { paid = λ n. tt }

pub paid_stopped : {A : Type 0} → Paid 0 (stop {A = A} (By source.Stopped))
unfolding stop
paid_stopped = record { paid = λ n. tt }

option_here : {A : Type 0} (r : Option A) (n : NestState) → PaidBy 0 n (or_stray r) n
option_here None n = tt
option_here (Some a) n = value_here a n

line_here : {A : Type 0} (line : ℕ) (r : Result A FaultKind) (n : NestState) → PaidBy 0 n (at_line line r) n
line_here line (Err kind) n = tt
line_here line (Ok a) n = value_here a n

pub paid_found : {A : Type 0} (a : Option A) → Paid 0 (found a)
unfolding found
paid_found a = record { paid = λ n. option_here a n }

pub paid_given : {A : Type 0} (line : ℕ) (r : Result A FaultKind) → Paid 0 (given line r)
unfolding given
paid_given line r = record { paid = λ n. line_here line r n }

pub paid_reads : {A : Type 0} (f : Memory → Option A) → Paid 0 (sees cells_of f)
unfolding sees
paid_reads f = record { paid = λ n. option_here (f (memory_of n.cells)) n }

changed_here : (r : Option Memory) (n : NestState) → PaidBy 0 n (changed_to r n).came (changed_to r n).after
changed_here None n = tt
changed_here (Some m) n = (same_le (sum n), le_refl n.cells.plain.left)

pub paid_changes : (f : Memory → Option Memory) → Paid 0 (changes f)
unfolding changes
paid_changes f = record { paid = λ n. changed_here (f (memory_of n.cells)) n }

pub paid_joins : (x : Scalar) → Paid 0 (joins x)
unfolding joins
paid_joins x = record { paid = λ n. (same_le (sum n), le_refl n.cells.plain.left) }

pub paid_writes : Paid 0 writes
unfolding writes
paid_writes = record { paid = λ n. (same_le (sum n), le_refl n.cells.plain.left) }

pub paid_pick : {A : Type 0} (c : ℕ) (b : Bool) {m k : Step A} → Paid c m → Paid c k → Paid c (pick b m k)
unfolding pick
paid_pick c true h g = record { paid = h.paid }
paid_pick c false h g = record { paid = g.paid }

-- ---- steps of the source

-- a step of the source that leaves the turns, and doesn't wait
pub record Idle {A : Type 0} (m : source.Step A) : Type 0 where
  pub left : (s : State) → (m s).after.left ≡ s.left
  pub prompt : (s : State) → (m s).came ≡ Err source.OutOfTurns → ⊥

lifted_here : {A : Type 0} (r : Result A source.Halt) (s : State) (n : NestState) → s.left ≡ n.cells.plain.left
    → (r ≡ Err source.OutOfTurns → ⊥) → PaidBy 0 n (by_source r) (record n { cells = record n.cells { plain = s } })
lifted_here (Ok a) s n e p = (
  subst (λ l. sum n ≤ (l + n.entries) + 0) (sym e) (same_le (sum n)),
  subst
      (λ l. l ≤ n.cells.plain.left) (sym e) (le_refl n.cells.plain.left),
)
lifted_here (Err source.OutOfTurns) s n e p = absurd (p refl)
lifted_here (Err source.Stopped) s n e p = tt
lifted_here (Err (source.Faults kind line)) s n e p = tt

pub paid_within : {A : Type 0} {m : source.Step A} → Idle m → Paid 0 (within m)
unfolding within
paid_within {m = m} h = record {
  paid =
      λ n. lifted_here (m n.cells.plain).came (m n.cells.plain).after n (h.left n.cells.plain) (h.prompt n.cells.plain);
}

-- ---- turns

turn_here : (k : ℕ) (n : NestState) → k ≡ n.cells.plain.left
    → PaidBy 1 n (lifted n (turn_from k n.cells.plain)).came (lifted n (turn_from k n.cells.plain)).after
unfolding turn_from pure stop
turn_here zero n e = (none_left (sum n), sym e)
  where
    none_left : (a : ℕ) → a < a + 1
    none_left a = omega arith
turn_here (suc k) n e = (one_less k n.entries n.cells.plain.left e, less k n.cells.plain.left e)
  where
    one_less : (k e l : ℕ) → suc k ≡ l → l + e ≤ (k + e) + 1
    one_less k e l h = omega arith

    less : (k l : ℕ) → suc k ≡ l → k ≤ l
    less k l h = omega arith

pub paid_turn : Paid 1 (within turn)
unfolding within turn
paid_turn = record { paid = λ n. turn_here n.cells.plain.left n refl }

-- ---- a callee's step on a memory of its own

own_paid : (callers : Memory) (c : ℕ) (n : NestState) (came : Result (Unit {0}) Halt) (n' : NestState) → PaidBy c n came n'
    → PaidBy c n (back_to callers (record { came = came; after = n' })).came (back_to callers (record {
      came = came;
      after =
          n';
    })).after
own_paid callers c n (Ok done) n' h = h
own_paid callers c n (Err (By source.OutOfTurns)) n' h = h
own_paid callers c n (Err (By source.Stopped)) n' h = tt
own_paid callers c n (Err (By (source.Faults kind line))) n' h = tt
own_paid callers c n (Err Stray) n' h = tt

begins_alike : {A : Type 0} (c : ℕ) (n m : NestState) (r : Result A Halt) (n' : NestState) → sum m ≡ sum n
    → m.cells.plain.left ≡ n.cells.plain.left
    → PaidBy c m r n' → PaidBy c n r n'
begins_alike c n m (Ok a) n' e k h = (subst (λ s. s ≤ sum n' + c) e h.0, subst (λ l. n'.cells.plain.left ≤ l) k h.1)
begins_alike c n m (Err (By source.OutOfTurns)) n' e k h = (subst (λ s. s < sum n' + c) e h.0, h.1)
begins_alike c n m (Err (By source.Stopped)) n' e k h = tt
begins_alike c n m (Err (By (source.Faults kind line))) n' e k h = tt
begins_alike c n m (Err Stray) n' e k h = tt

pub paid_inside : (own : Memory) {body : Step (Unit {0})} → Paid 0 body → Paid 0 (inside own body)
unfolding inside
paid_inside own {body = body} h = record {
  paid = λ n. own_paid (memory_of n.cells) 0 n (body (with_memory n own)).came (body (with_memory n own)).after
      (begins_alike 0 n (with_memory n own) (body (with_memory n own)).came (body (with_memory n own)).after refl refl (h.paid
      (with_memory n own)));
}

-- ---- where so many turns are left at most

pub record PaidUpTo {A : Type 0} (k c : ℕ) (m : Step A) : Type 0 where
  pub paid : (n : NestState) → n.cells.plain.left ≤ k → PaidBy c n (m n).came (m n).after

pub up_to : {A : Type 0} (k : ℕ) {c : ℕ} {m : Step A} → Paid c m → PaidUpTo k c m
up_to k h = record { paid = λ n l. h.paid n }

without_zero : {A : Type 0} (d : ℕ) (n : NestState) (r : Result A Halt) (n' : NestState) → PaidBy (0 + d) n r n' → PaidBy d n r n'
without_zero d n r n' h = let e : 0 + d ≡ d = omega arith in subst (λ c. PaidBy c n r n') e h

pub up_to_then : {A B : Type 0} {k d : ℕ} {m : Step A} {f : A → Step B} → Paid 0 m → ((a : A) → PaidUpTo k d (f a))
    → PaidUpTo k d (m >>= f)
unfolding ◌>>=◌
up_to_then {k = k} {d = d} {m = m} {f = f} h g = record {
  paid = λ n l. without_zero d n (behind f (m n).came (m n).after).came (behind f (m n).came (m n).after).after
      (paid_behind 0 d f n (m n).came (m n).after (h.paid n)
      (λ a e. (g a).paid (m n).after (le_trans (m n).after.cells.plain.left n.cells.plain.left k e l)));
}

pub up_to_next : {A B : Type 0} {k d : ℕ} {m : Step A} {j : Step B} → Paid 0 m → PaidUpTo k d j → PaidUpTo k d (m >> j)
unfolding ◌>>◌ ◌>>=◌
up_to_next {m = m} {j = j} h g = record { paid = (up_to_then {m = m} {f = λ a. j} h (λ a. g)).paid }

pub up_to_entered : {A : Type 0} {k : ℕ} {m : Step A} → PaidUpTo k 1 m → PaidUpTo k 0 (enter >> m)
unfolding ◌>>◌ enter behind
up_to_entered {m = m} h = record {
  paid = λ n l. credit_by n (record n { entries = suc n.entries })
      (m (record n { entries = suc n.entries })).came (m (record n { entries = suc n.entries })).after
      (one_more n.cells.plain.left n.entries) refl (h.paid (record n { entries = suc n.entries }) l);
}

pub up_to_pick : {A : Type 0} {k c : ℕ} (b : Bool) {m j : Step A} → PaidUpTo k c m → PaidUpTo k c j → PaidUpTo k c (pick b m j)
unfolding pick
up_to_pick true h g = record { paid = h.paid }
up_to_pick false h g = record { paid = g.paid }

none_is_left : (k : ℕ) → k ≤ 0 → k ≡ 0
none_is_left k h = omega arith

more_than : (a : ℕ) → a < a + 1
more_than a = omega arith

-- a turn that can't begin
pub waits_up_to : {A : Type 0} → PaidUpTo 0 1 (stop {A = A} (By source.OutOfTurns))
unfolding stop
waits_up_to = record { paid = λ n l. (more_than (sum n), none_is_left n.cells.plain.left l) }

abbrev less_one : NestState → ℕ → NestState
less_one n j = record n { cells = record n.cells { plain = record n.cells.plain { left = j } } }

-- behind a turn one less is left
turned_at : {B : Type 0} (j k : ℕ) {m : Step B} (n : NestState) → PaidUpTo k 0 m → j ≡ n.cells.plain.left → j ≤ suc k
    → PaidBy 1 n (behind (λ a. m) (lifted n (turn_from j n.cells.plain)).came (lifted n (turn_from j n.cells.plain)).after).came
    (behind (λ a. m) (lifted n (turn_from j n.cells.plain)).came (lifted n (turn_from j n.cells.plain)).after).after
unfolding behind turn_from pure stop
turned_at zero k n h e l = (more_than (sum n), sym e)
turned_at (suc j) k {m = m} n h e l = paid_more 1 0 n (less_one n j) (m (less_one n j)).came (m (less_one n j)).after
    (one_less j n.entries n.cells.plain.left e) (less j n.cells.plain.left e) (h.paid (less_one n j) (below j k l))
  where
    one_less : (k e l : ℕ) → suc k ≡ l → l + e ≤ (k + e) + 1
    one_less k e l h = omega arith

    less : (k l : ℕ) → suc k ≡ l → k ≤ l
    less k l h = omega arith

    below : (j k : ℕ) → suc j ≤ suc k → j ≤ k
    below j k h = omega arith

pub up_to_turned : {B : Type 0} {k : ℕ} {m : Step B} → PaidUpTo k 0 m → PaidUpTo (suc k) 1 (within turn >> m)
unfolding ◌>>◌ within turn
up_to_turned {k = k} h = record { paid = λ n l. turned_at n.cells.plain.left k n h refl l }

pub paid_turns_left : {A : Type 0} {f : ℕ → Step A} → ((k : ℕ) → PaidUpTo k 0 (f k)) → Paid 0 (turns_left f)
unfolding turns_left
paid_turns_left h = record { paid = λ n. (h n.cells.plain.left).paid n (le_refl n.cells.plain.left) }
