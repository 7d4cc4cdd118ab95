-- What statements don't store into stays.
use Rattle.std.proofs.Common.{◌≡◌, refl, sym, subst, ap, ◌∙◌, ℕ, ℤ, zero, suc, Bool, true, false, List}
use Rattle.std.specs.Prelude.{Option, Some, None, Result, Ok, Err, if◌then◌else◌}
use Rattle.std.proofs.lemmas.Bool.{both_ways, ne_eqb}
use Rattle.std.proofs.lemmas.List.{get_or-set_other}
use Rattle.a95_base.specs.declared.fault.FaultKind.{FaultKind}
use Rattle.a95_base.specs.declared.scalar.Scalar.{Scalar}
use Rattle.a95_base.specs.Input.{Reading, Integer, NoMore, NoInteger}
use Rattle.a95_base.specs.Steps.{pure, stop, behind as goes_on, ◌>>=◌, ◌>>◌}
use Rattle.array_meaning.specs.State as source
use Rattle.array_meaning.specs.State.{State, Variable, fault_at, unless, unread, pass, turn_from, turn}
use Rattle.array_meaning.specs.InputOutput.{taken, next_integer, skip_record}
use Rattle.array_meaning.specs.Control.{Flow, Next, Exits, Cycles, Returns, behind_turn}
use Rattle.nest_tree.specs.declared.access.Name.{Name}
use Rattle.nest_tree.specs.declared.access.Name.TheVariants as name
use Rattle.nest_tree.specs.Plain.{NestUnit}
use Rattle.nest_tree.specs.State.{cells_of, NestState, Memory, memory_of, Halt, Step, found, given, sees, pick, changed_to, changes}
use Rattle.nest_tree.specs.State.{within, enter, turns_left, joins, writes, inside, set_at, block_in, with_block, with_kept}
use Rattle.nest_tree.specs.State.{with_list}
use Rattle.nest_tree.specs.Statements.{Given, one_turn, rounds}
use Rattle.nest_tree.specs.Run.{called}
use Rattle.nest_tree.specs.Frames.{Spot, ScalarAt, ListAt, ArrayAt, Is, SameAt, CalledApart, OthersStay}
use Rattle.nest_tree.proofs.Walk.{Reached, here, by_block, by_kept, by_list, ReachedIf, Walk, of_all}

-- a step leaves what stands at a spot
pub record Stays {A : Type 0} (spot : Spot) (m : Step A) : Type 0 where
  pub stays : (n : NestState) → SameAt spot (memory_of n.cells) (memory_of (m n).after.cells)

same_refl : (spot : Spot) (m : Memory) → SameAt spot m m
same_refl (ScalarAt k) m = refl
same_refl (ListAt l) m = refl
same_refl (ArrayAt n) m = refl

same_trans : (spot : Spot) (a b c : Memory) → SameAt spot a b → SameAt spot b c → SameAt spot a c
same_trans (ScalarAt k) a b c h g = g ∙ h
same_trans (ListAt l) a b c h g = g ∙ h
same_trans (ArrayAt n) a b c h g = g ∙ h

-- ---- one change

pub set_other : {A : Type 0} (f : ℕ → A) (k n : ℕ) (a : A) → (n ≡ k → ⊥) → set_at f k a n ≡ f n
set_other f k n a h = ap (λ b. if b then a else f n) (ne_eqb n k h)

block_other : (m : Memory) (n other : Name) (v : Variable) → (other ≡ n → ⊥) → block_in (with_block m n v) other ≡ block_in m other
block_other m (name.Own n) (name.Own k) v h =
    get_or-set_other m.variables n k v source.no_variable (λ e. h (ap (λ j. name.Own j) e))
block_other m (name.Own n) (name.Temp k) v h = refl
block_other m (name.Temp n) (name.Own k) v h = refl
block_other m (name.Temp n) (name.Temp k) v h = set_other m.temps.blocks n k v (λ e. h (ap (λ j. name.Temp j) e))

module _ (allowed : Spot → Bool) where
  -- a spot that isn't allowed is another one than each that is
  other_spot : (spot other : Spot) → allowed spot ≡ false → Is allowed other → spot ≡ other → ⊥
  other_spot spot other out a e = both_ways (allowed other) (subst (λ s. allowed s ≡ false) e out) a

  stays_block : (spot : Spot) → allowed spot ≡ false → (m : Memory) (n : Name) (v : Variable) → Is allowed (ArrayAt n)
      → SameAt spot m (with_block m n v)
  stays_block (ScalarAt k) out m (name.Own n) v a = refl
  stays_block (ScalarAt k) out m (name.Temp n) v a = refl
  stays_block (ListAt k) out m (name.Own n) v a = refl
  stays_block (ListAt k) out m (name.Temp n) v a = refl
  stays_block (ArrayAt other) out m n v a =
      block_other m n other v (λ e. other_spot (ArrayAt other) (ArrayAt n) out a (ap (λ j. ArrayAt j) e))

  stays_kept : (spot : Spot) → allowed spot ≡ false → (m : Memory) (k : ℕ) (x : Scalar) → Is allowed (ScalarAt k)
      → SameAt spot m (with_kept m k x)
  stays_kept (ScalarAt n) out m k x a =
      set_other m.temps.setting.kept k n x (λ e. other_spot (ScalarAt n) (ScalarAt k) out a (ap (λ j. ScalarAt j) e))
  stays_kept (ListAt l) out m k x a = refl
  stays_kept (ArrayAt (name.Own n)) out m k x a = refl
  stays_kept (ArrayAt (name.Temp n)) out m k x a = refl

  stays_list : (spot : Spot) → allowed spot ≡ false → (m : Memory) (l : ℕ) (zs : Option (List ℤ)) → Is allowed (ListAt l)
      → SameAt spot m (with_list m l zs)
  stays_list (ScalarAt n) out m l zs a = refl
  stays_list (ListAt k) out m l zs a =
      set_other m.temps.setting.lists l k zs (λ e. other_spot (ListAt k) (ListAt l) out a (ap (λ j. ListAt j) e))
  stays_list (ArrayAt (name.Own n)) out m l zs a = refl
  stays_list (ArrayAt (name.Temp n)) out m l zs a = refl

  reached_same : (spot : Spot) → allowed spot ≡ false → (from : Memory) {to : Memory} → Reached allowed from to
      → SameAt spot from to
  reached_same spot out from here = same_refl spot from
  reached_same spot out from (by_block m n v r a) =
      same_trans spot from m (with_block m n v) (reached_same spot out from r) (stays_block spot out m n v a)
  reached_same spot out from (by_kept m k x r a) =
      same_trans spot from m (with_kept m k x) (reached_same spot out from r) (stays_kept spot out m k x a)
  reached_same spot out from (by_list m l zs r a) =
      same_trans spot from m (with_list m l zs) (reached_same spot out from r) (stays_list spot out m l zs a)

-- ---- steps

module _ (spot : Spot) where
  here_same : {A : Type 0} {m : Step A} → ((n : NestState) → memory_of (m n).after.cells ≡ memory_of n.cells) → Stays spot m
  here_same {m = m} h = record {
    stays =
        λ n. subst (λ after. SameAt spot (memory_of n.cells) after) (sym (h n)) (same_refl spot (memory_of n.cells));
  }

  stays_behind : {A B : Type 0} (f : A → Step B) → ((a : A) → Stays spot (f a)) → (came : Result A Halt) (n : NestState)
      → SameAt spot (memory_of n.cells) (memory_of (goes_on f came n).after.cells)
  unfolding goes_on
  stays_behind f g (Ok a) n = (g a).stays n
  stays_behind f g (Err halt) n = same_refl spot (memory_of n.cells)

  stays_then : {A B : Type 0} {m : Step A} {f : A → Step B} → Stays spot m → ((a : A) → Stays spot (f a)) → Stays spot (m >>= f)
  unfolding ◌>>=◌
  stays_then {m = m} {f = f} h g = record {
    stays = λ n. same_trans spot (memory_of n.cells) (memory_of (m n).after.cells) (memory_of (goes_on f (m n).came
        (m n).after).after.cells)
        (h.stays n) (stays_behind f g (m n).came (m n).after);
  }

  stays_next : {A B : Type 0} {m : Step A} {k : Step B} → Stays spot m → Stays spot k → Stays spot (m >> k)
  unfolding ◌>>◌ ◌>>=◌
  stays_next {m = m} {k = k} h g = record { stays = (stays_then {m = m} {f = λ a. k} h (λ a. g)).stays }

  stays_pure : {A : Type 0} (a : A) → Stays spot (pure a)
  unfolding pure
  stays_pure a = here_same (λ n. refl)

  stays_stop : {A : Type 0} (halt : Halt) → Stays spot (stop {A = A} halt)
  unfolding stop
  stays_stop halt = here_same (λ n. refl)

  stays_found : {A : Type 0} (a : Option A) → Stays spot (found a)
  unfolding found
  stays_found a = here_same (λ n. refl)

  stays_given : {A : Type 0} (line : ℕ) (r : Result A FaultKind) → Stays spot (given line r)
  unfolding given
  stays_given line r = here_same (λ n. refl)

  stays_reads : {A : Type 0} (f : Memory → Option A) → Stays spot (sees cells_of f)
  unfolding sees
  stays_reads f = here_same (λ n. refl)

  stays_pick : {A : Type 0} (b : Bool) {m k : Step A} → Stays spot m → Stays spot k → Stays spot (pick b m k)
  unfolding pick
  stays_pick true h g = record { stays = h.stays }
  stays_pick false h g = record { stays = g.stays }

  stays_enter : Stays spot enter
  unfolding enter
  stays_enter = here_same (λ n. refl)

  stays_joins : (x : Scalar) → Stays spot (joins x)
  unfolding joins
  stays_joins x = here_same (λ n. refl)

  stays_writes : Stays spot writes
  unfolding writes
  stays_writes = here_same (λ n. refl)

  changed_same : (allowed : Spot → Bool) → allowed spot ≡ false → (n : NestState) (r : Option Memory)
      → ReachedIf allowed (memory_of n.cells) r
      → SameAt spot (memory_of n.cells) (memory_of (changed_to r n).after.cells)
  changed_same allowed out n None h = same_refl spot (memory_of n.cells)
  changed_same allowed out n (Some m) h = reached_same allowed spot out (memory_of n.cells) h

  stays_changes : (allowed : Spot → Bool) → allowed spot ≡ false → (f : Memory → Option Memory) → ((m : Memory)
      → ReachedIf allowed m (f m)) → Stays spot (changes f)
  unfolding changes
  stays_changes allowed out f h = record { stays = λ n. changed_same allowed out n (f (memory_of n.cells)) (h (memory_of n.cells)) }

  stays_turns_left : {A : Type 0} {f : ℕ → Step A} → ((k : ℕ) → Stays spot (f k)) → Stays spot (turns_left f)
  unfolding turns_left
  stays_turns_left h = record { stays = λ n. (h n.cells.plain.left).stays n }

-- ---- steps of the source that leave its variables

abbrev with_variables : NestState → List Variable → Memory
with_variables n vs = record { variables = vs; temps = n.cells.temps }

pub record Leaves {A : Type 0} (m : source.Step A) : Type 0 where
  pub leaves : (s : State) → (m s).after.variables ≡ s.variables

leaves_behind : {A B : Type 0} (f : A → source.Step B) → ((a : A) → Leaves (f a)) → (came : Result A source.Halt) (s : State)
    → (goes_on f came s).after.variables ≡ s.variables
unfolding goes_on
leaves_behind f g (Ok a) s = (g a).leaves s
leaves_behind f g (Err halt) s = refl

leaves_then : {A B : Type 0} {m : source.Step A} {f : A → source.Step B} → Leaves m → ((a : A) → Leaves (f a)) → Leaves (m >>= f)
unfolding ◌>>=◌
leaves_then {m = m} {f = f} h g = record { leaves = λ s. leaves_behind f g (m s).came (m s).after ∙ h.leaves s }

leaves_next : {A B : Type 0} {m : source.Step A} {k : source.Step B} → Leaves m → Leaves k → Leaves (m >> k)
unfolding ◌>>◌ ◌>>=◌
leaves_next {m = m} {k = k} h g = record { leaves = (leaves_then {m = m} {f = λ a. k} h (λ a. g)).leaves }

leaves_pure : {A : Type 0} (a : A) → Leaves (pure a)
unfolding pure
leaves_pure a = record { leaves = λ s. refl }

leaves_fault : {A : Type 0} (kind : FaultKind) (line : ℕ) → Leaves (fault_at {A = A} kind line)
unfolding fault_at stop
leaves_fault kind line = record { leaves = λ s. refl }

leaves_unless : (b : Bool) (kind : FaultKind) (line : ℕ) → Leaves (unless b kind line)
unfolding unless pure stop
leaves_unless true kind line = record { leaves = λ s. refl }
leaves_unless false kind line = record { leaves = λ s. refl }

leaves_unread : Leaves unread
unfolding unread pure
leaves_unread = record { leaves = λ s. refl }

leaves_pass : (n : ℕ) → Leaves (pass n)
unfolding pass pure
leaves_pass n = record { leaves = λ s. refl }

leaves_taken : (line : ℕ) (reading : Reading) → Leaves (taken line reading)
leaves_taken line (Integer z used) = leaves_next (leaves_pass _) (leaves_pure _)
leaves_taken line NoMore = leaves_fault _ _
leaves_taken line NoInteger = leaves_fault _ _

leaves_integer : (line : ℕ) (comma : Bool) → Leaves (next_integer line comma)
leaves_integer line comma = leaves_then leaves_unread (λ rest. leaves_taken line _)

leaves_skip : (line : ℕ) (read : Bool) → Leaves (skip_record line read)
leaves_skip line read = leaves_then leaves_unread (λ rest. leaves_next (leaves_unless _ _ _) (leaves_pass _))

turn_from_leaves : (k : ℕ) (s : State) → (turn_from k s).after.variables ≡ s.variables
unfolding turn_from pure stop
turn_from_leaves zero s = refl
turn_from_leaves (suc k) s = refl

leaves_turn : Leaves turn
unfolding turn
leaves_turn = record { leaves = λ s. turn_from_leaves s.left s }

stays_within : (spot : Spot) {A : Type 0} {m : source.Step A} → Leaves m → Stays spot (within m)
unfolding within
stays_within spot {m = m} h = here_same spot (λ n. ap (with_variables n) (h.leaves n.cells.plain))

-- ---- rounds

module _ (spot : Spot) where
  stays_behind_turn : (flow : Flow) {rest : Step Flow} → Stays spot rest → Stays spot (behind_turn flow rest)
  stays_behind_turn Next h = h
  stays_behind_turn (Cycles zero) h = h
  stays_behind_turn (Cycles (suc out)) h = stays_pure spot _
  stays_behind_turn (Exits zero) h = stays_pure spot _
  stays_behind_turn (Exits (suc out)) h = stays_pure spot _
  stays_behind_turn Returns h = stays_pure spot _

  stays_one_turn : {body rest : Step Flow} → Stays spot body → Stays spot rest → Stays spot (one_turn body rest)
  stays_one_turn h g = stays_next spot (stays_within spot leaves_turn) (stays_then spot h (λ flow. stays_behind_turn flow g))

  stays_rounds : {head : Step (Unit {0})} {test : Step Bool} {body : Step Flow} → Stays spot head → Stays spot test
      → Stays spot body → (k : ℕ)
      → Stays spot (rounds k head test body)
  unfolding rounds
  stays_rounds h t b zero = stays_next spot (stays_enter spot)
      (stays_next spot h (stays_then spot t (λ go. stays_pick spot go (stays_stop spot _) (stays_pure spot _))))
  stays_rounds h t b (suc k) = stays_next spot (stays_enter spot)
      (stays_next spot h (stays_then spot t
      (λ go. stays_pick spot go (stays_one_turn b (stays_rounds h t b k)) (stays_pure spot _))))

  abbrev pub StaysAt : (A : Type 0) → Step A → Type 0
  StaysAt A m = Stays {A = A} spot m

  stays_walk : (allowed : Spot → Bool) → allowed spot ≡ false → Walk StaysAt allowed
  stays_walk allowed out = record {
    pure_step = λ A a. stays_pure spot a;
    then_step = λ A B m f h g. stays_then spot h g;
    next_step = λ A B m k h g. stays_next spot h g;
    found_step = λ A a. stays_found spot a;
    given_step = λ A line r. stays_given spot line r;
    reads_step = λ A f. stays_reads spot f;
    changes_step = λ f h. stays_changes spot allowed out f h;
    pick_step = λ A b m k h g. stays_pick spot b h g;
    stray_step = stays_stop spot _;
    stopped_step = stays_stop spot _;
    unless_step = λ b kind line. stays_within spot (leaves_unless b kind line);
    depth_step = λ line. stays_within spot (leaves_fault _ line);
    integer_step = λ line comma. stays_within spot (leaves_integer line comma);
    skip_step = λ line read. stays_within spot (leaves_skip line read);
    enter_step = stays_enter spot;
    joins_step = λ x. stays_joins spot x;
    writes_step = stays_writes spot;
    while_step = λ head test body h t b. stays_turns_left spot (λ k. stays_rounds h t b k);
  }

pub others_stay : OthersStay
others_stay constants calls apart allowed turn body h spot out n =
    (of_all (StaysAt spot) allowed (stays_walk spot allowed out) constants calls
    (λ p line givens. here_same spot (apart.apart p line givens)) turn body h).stays n

-- ---- calls leave the caller's memory

-- a step that leaves all of the memory
record Still {A : Type 0} (m : Step A) : Type 0 where
  still : (n : NestState) → memory_of (m n).after.cells ≡ memory_of n.cells

still_behind : {A B : Type 0} (f : A → Step B) → ((a : A) → Still (f a)) → (came : Result A Halt) (n : NestState)
    → memory_of (goes_on f came n).after.cells ≡ memory_of n.cells
unfolding goes_on
still_behind f g (Ok a) n = (g a).still n
still_behind f g (Err halt) n = refl

still_then : {A B : Type 0} {m : Step A} {f : A → Step B} → Still m → ((a : A) → Still (f a)) → Still (m >>= f)
unfolding ◌>>=◌
still_then {m = m} {f = f} h g = record { still = λ n. still_behind f g (m n).came (m n).after ∙ h.still n }

still_next : {A B : Type 0} {m : Step A} {k : Step B} → Still m → Still k → Still (m >> k)
unfolding ◌>>◌ ◌>>=◌
still_next {m = m} {k = k} h g = record { still = (still_then {m = m} {f = λ a. k} h (λ a. g)).still }

still_pure : {A : Type 0} (a : A) → Still (pure a)
unfolding pure
still_pure a = record { still = λ n. refl }

still_found : {A : Type 0} (a : Option A) → Still (found a)
unfolding found
still_found a = record { still = λ n. refl }

still_enter : Still enter
unfolding enter
still_enter = record { still = λ n. refl }

still_within : {A : Type 0} {m : source.Step A} → Leaves m → Still (within m)
unfolding within
still_within {m = m} h = record { still = λ n. ap (with_variables n) (h.leaves n.cells.plain) }

still_inside : (own : Memory) (body : Step (Unit {0})) → Still (inside own body)
unfolding inside
still_inside own body = record { still = λ n. refl }

still_called : (unit : NestUnit) (depth : ℕ) (p line : ℕ) (givens : List (ℕ × Given)) → Still (called unit depth p line givens)
still_called unit zero p line givens = still_within (leaves_fault _ line)
still_called unit (suc depth) p line givens = still_then (still_found _)
    (λ q. still_next (still_found _) (still_next still_enter
    (still_next (still_within leaves_turn) (still_then (still_inside _ _) (λ own. still_pure _)))))

pub called_apart : CalledApart
called_apart unit depth = record { apart = λ p line givens. (still_called unit depth p line givens).still }
