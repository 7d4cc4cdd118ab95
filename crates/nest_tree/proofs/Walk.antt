-- One walk over trees and statements, for each law that says one thing of every step: what holds of the primitive steps, and of one
-- step behind another, holds of all statements.
use Rattle.std.proofs.Common.{refl, ℕ, ℤ, suc, ◌-◌, Bool, true, false, List, [], ◌∷◌}
use Rattle.std.specs.Prelude.{Option, Some, None, Result, pos, length, replicate, slice_set}
use Rattle.a95_base.specs.declared.fault.FaultKind.{FaultKind}
use Rattle.a95_base.specs.declared.fault.FaultKind.TheVariants as fault
use Rattle.a95_base.specs.declared.scalar.Scalar.{Scalar}
use Rattle.a95_base.specs.Steps.{pure, stop, ◌>>=◌, ◌>>◌}
use Rattle.rank_shape.specs.Order.{Level}
use Rattle.array_meaning.specs.Values.{integer_of}
use Rattle.array_meaning.specs.State as source
use Rattle.array_meaning.specs.State.{Dimension as Bounds, Array, Variable}
use Rattle.array_meaning.specs.InputOutput.{next_integer, skip_record}
use Rattle.array_meaning.specs.Control.{Flow, Next, Exits, Cycles, Returns, behind}
use Rattle.nest_tree.specs.declared.access.Access.{Access}
use Rattle.nest_tree.specs.declared.access.Name.{Name}
use Rattle.nest_tree.specs.declared.access.Name.TheVariants as name
use Rattle.nest_tree.specs.declared.access.Amount.{Amount}
use Rattle.nest_tree.specs.declared.statement.Block.{Block}
use Rattle.nest_tree.specs.declared.statement.Made.{Made}
use Rattle.nest_tree.specs.declared.statement.Span.{Span}
use Rattle.nest_tree.specs.declared.tree.Blank.{Blank}
use Rattle.nest_tree.specs.Plain.{Tree, Literal, Number, Constant, Fixed, Read, Cell, Entry, Turn, Place, Asked, Unary, Binary}
use Rattle.nest_tree.specs.Plain.{Exactly, Wrapped, Each, Trim, Len, Applied, Trees, no_tree, tree, Guard, Piece, Passed, Value}
use Rattle.nest_tree.specs.Plain.{Whole, ResultIn, Statement, Set, Test, Store, StoreCell, Make, Grow, Rebound, Free, MakeList}
use Rattle.nest_tree.specs.Plain.{StoreEntry, FreeList, Nest, If, While, Call, Put, Write, Take, Skip, Exit, Cycle, Return, Stop}
use Rattle.nest_tree.specs.Plain.{Statements, no_statement, statement}
use Rattle.nest_tree.specs.State.{cells_of, Memory, By, Stray, Step, on, where_holds, found, given, sees, pick, changes, within}
use Rattle.nest_tree.specs.State.{enter, turns_left, joins, writes, block_in, with_block, with_kept, with_list}
use Rattle.nest_tree.specs.Places.{amount, count_of, index_below, aimed, aimed_number, stored, block_with, stored_at, stored_cell}
use Rattle.nest_tree.specs.Places.{new_variable, made_with, made_block, grown_by, grown, may_be_made, are_as_many, blank_for}
use Rattle.nest_tree.specs.Places.{bounds_for, with_bounds, without_array, emptied, rebound, freed, made_list, stored_entry}
use Rattle.nest_tree.specs.Places.{freed_list}
use Rattle.nest_tree.specs.Elements.{int, element, elements, where_true, guarded}
use Rattle.nest_tree.specs.Statements.{Given, Caller, elements_back, with_held_elements, whole_back, in_a_row, result_back}
use Rattle.nest_tree.specs.Statements.{all_back, applied, each_turn, loops, looped, rounds, only_next, calmly, ends, put_if}
use Rattle.nest_tree.specs.Statements.{piece_acts, given_all, call_acts, test_acts, kept_truth, take_acts, truth, acts, all_act}
use Rattle.nest_tree.specs.Frames.{Spot, ScalarAt, ListAt, ArrayAt, Is, InTree, InTrees, InGuard, InPassed, InStatement, InAll}

-- a memory that was reached by changes of allowed spots alone
pub data Reached (allowed : Spot → Bool) (from : Memory) : Memory → Type 0 where
  here : Reached allowed from from
  by_block : (m : Memory) (n : Name) (v : Variable) → Reached allowed from m → Is allowed (ArrayAt n)
      → Reached allowed from (with_block m n v)
  by_kept : (m : Memory) (k : ℕ) (x : Scalar) → Reached allowed from m → Is allowed (ScalarAt k)
      → Reached allowed from (with_kept m k x)
  by_list : (m : Memory) (l : ℕ) (zs : Option (List ℤ)) → Reached allowed from m → Is allowed (ListAt l)
      → Reached allowed from (with_list m l zs)

abbrev pub ReachedIf : (allowed : Spot → Bool) → Memory → Option Memory → Type 0
ReachedIf allowed from None = Unit {0}
ReachedIf allowed from (Some m) = Reached allowed from m

-- what is said of steps
pub record Walk (P : (A : Type 0) → Step A → Type 0) (allowed : Spot → Bool) : Type 1 where
  pub pure_step : (A : Type 0) (a : A) → P A (pure a)
  pub then_step : (A B : Type 0) (m : Step A) (f : A → Step B) → P A m → ((a : A) → P B (f a)) → P B (m >>= f)
  pub next_step : (A B : Type 0) (m : Step A) (k : Step B) → P A m → P B k → P B (m >> k)
  pub found_step : (A : Type 0) (a : Option A) → P A (found a)
  pub given_step : (A : Type 0) (line : ℕ) (r : Result A FaultKind) → P A (given line r)
  pub reads_step : (A : Type 0) (f : Memory → Option A) → P A (sees cells_of f)
  pub changes_step : (f : Memory → Option Memory) → ((m : Memory) → ReachedIf allowed m (f m)) → P (Unit {0}) (changes f)
  pub pick_step : (A : Type 0) (b : Bool) (m k : Step A) → P A m → P A k → P A (pick b m k)
  pub stray_step : P (Unit {0}) (stop Stray)
  pub stopped_step : P Flow (stop (By source.Stopped))
  pub unless_step : (b : Bool) (kind : FaultKind) (line : ℕ) → P (Unit {0}) (within (source.unless b kind line))
  pub depth_step : (line : ℕ) → P (List (ℕ × List Scalar)) (within (source.fault_at fault.CallDepth line))
  pub integer_step : (line : ℕ) (comma : Bool) → P ℤ (within (next_integer line comma))
  pub skip_step : (line : ℕ) (read : Bool) → P (Unit {0}) (within (skip_record line read))
  pub enter_step : P (Unit {0}) enter
  pub joins_step : (x : Scalar) → P (Unit {0}) (joins x)
  pub writes_step : P (Unit {0}) writes
  pub while_step : (head : Step (Unit {0})) (test : Step Bool) (body : Step Flow) → P (Unit {0}) head → P Bool test → P Flow body
      → P Flow (turns_left (λ k. rounds k head test body))

-- ---- changes keep to their spots

module _ (allowed : Spot → Bool) (m : Memory) where
  reached_on : {A : Type 0} (o : Option A) (f : A → Option Memory) → ((a : A) → ReachedIf allowed m (f a))
      → ReachedIf allowed m (on o f)
  reached_on None f h = tt
  reached_on (Some a) f h = h a

  reached_where : (b : Bool) (r : Option Memory) → ReachedIf allowed m r → ReachedIf allowed m (where_holds b r)
  reached_where true r h = h
  reached_where false r h = tt

  at_block : (n : Name) (v : Variable) → Is allowed (ArrayAt n) → Reached allowed m (with_block m n v)
  at_block n v h = by_block m n v here h

  at_stored : (turn : List ℕ) (a : Access) (x : Scalar) → Is allowed (ArrayAt a.name) → ReachedIf allowed m (stored_at turn a x m)
  at_stored turn a x h =
      reached_on (aimed m turn a) (λ aim. Some (stored a.name aim x m)) (λ aim. at_block a.name (block_with a.name aim x) h)

  at_cell : (n : Name) (z : ℤ) (x : Scalar) → Is allowed (ArrayAt n) → ReachedIf allowed m (stored_cell n z x m)
  at_cell n z x h =
      reached_on (aimed_number (block_in m n) z) (λ aim. Some (stored n aim x m)) (λ aim. at_block n (block_with n aim x) h)

  at_new : (made : Made) (n : Name) (x : Scalar) (bounds : List Bounds) → Is allowed (ArrayAt n)
      → ReachedIf allowed m (made_with made n x bounds m)
  at_new made n x bounds h = reached_where (may_be_made made x bounds) (Some (with_block m n (new_variable made x bounds)))
      (at_block n (new_variable made x bounds) h)

  at_made : (b : Block) → Is allowed (ArrayAt b.name) → ReachedIf allowed m (made_block b m)
  at_made b h = at_new b.made b.name (blank_for m.temps.setting b.blank) (bounds_for m.temps.setting b.bounds) h

  at_variable : (n : Name) (v : Option Variable) → Is allowed (ArrayAt n)
      → ReachedIf allowed m (on v (λ w. Some (with_block m n w)))
  at_variable n v h = reached_on v (λ w. Some (with_block m n w)) (λ w. at_block n w h)

  at_grown : (n : Name) (a : Amount) → Is allowed (ArrayAt n) → ReachedIf allowed m (grown n a m)
  at_grown n a h = reached_on (block_in m n).held
      (λ held. on (count_of (amount m.temps.setting a)) (λ count. on (grown_by (block_in m n) held count)
      (λ v. Some (with_block m n v))))
      (λ held. reached_on (count_of (amount m.temps.setting a))
      (λ count. on (grown_by (block_in m n) held count) (λ v. Some (with_block m n v)))
      (λ count. at_variable n (grown_by (block_in m n) held count) h))

  at_bounds : (n : Name) (bounds : List Bounds) (held : Array) → Is allowed (ArrayAt n)
      → ReachedIf allowed m (where_holds (are_as_many bounds held.bounds) (Some (with_block m n (with_bounds
      (block_in m n) held bounds))))
  at_bounds n bounds held h =
      reached_where (are_as_many bounds held.bounds) (Some (with_block m n (with_bounds (block_in m n) held bounds)))
      (at_block n (with_bounds (block_in m n) held bounds) h)

  at_rebound : (n : Name) (spans : List Span) → Is allowed (ArrayAt n) → ReachedIf allowed m (rebound n spans m)
  at_rebound n spans h = reached_on (block_in m n).held
      (λ held. where_holds (are_as_many (bounds_for m.temps.setting spans) held.bounds)
      (Some (with_block m n (with_bounds (block_in m n) held (bounds_for m.temps.setting spans)))))
      (λ held. at_bounds n (bounds_for m.temps.setting spans) held h)

  at_emptied : (n : Name) → Is allowed (ArrayAt n) → Reached allowed m (emptied m n)
  at_emptied n h = at_block n (without_array (block_in m n)) h

  at_freed : (n : Name) → Is allowed (ArrayAt n) → ReachedIf allowed m (freed n m)
  at_freed n h = reached_on (block_in m n).held (λ held. Some (emptied m n)) (λ held. at_emptied n h)

  at_list : (l : ℕ) (zs : Option (List ℤ)) → Is allowed (ListAt l) → Reached allowed m (with_list m l zs)
  at_list l zs h = by_list m l zs here h

  at_made_list : (l : ℕ) (a : Amount) → Is allowed (ListAt l) → ReachedIf allowed m (made_list l a m)
  at_made_list l a h = reached_on (count_of (amount m.temps.setting a)) (λ n. Some (with_list m l (Some (replicate n (pos 0)))))
      (λ n. at_list l (Some (replicate n (pos 0))) h)

  at_set : (l : ℕ) (i z : ℤ) (zs : List ℤ) → Is allowed (ListAt l)
      → ReachedIf allowed m (on (index_below (length zs) i) (λ n. Some (with_list m l (Some (slice_set zs n z)))))
  at_set l i z zs h = reached_on (index_below (length zs) i) (λ n. Some (with_list m l (Some (slice_set zs n z))))
      (λ n. at_list l (Some (slice_set zs n z)) h)

  at_entry : (l : ℕ) (i z : ℤ) → Is allowed (ListAt l) → ReachedIf allowed m (stored_entry l i z m)
  at_entry l i z h = reached_on (m.temps.setting.lists l)
      (λ zs. on (index_below (length zs) i) (λ n. Some (with_list m l (Some (slice_set zs n z)))))
      (λ zs. at_set l i z zs h)

  at_freed_list : (l : ℕ) → Is allowed (ListAt l) → ReachedIf allowed m (freed_list l m)
  at_freed_list l h = reached_on (m.temps.setting.lists l) (λ zs. Some (with_list m l None)) (λ zs. at_list l None h)

  at_kept : (k : ℕ) (x : Scalar) → Is allowed (ScalarAt k) → Reached allowed m (with_kept m k x)
  at_kept k x h = by_kept m k x here h

-- what comes back from a call
module _ (allowed : Spot → Bool) (from : Memory) where
  whole_kept : (m : Memory) (n : Name) (xs : Option (List Scalar)) → Reached allowed from m → Is allowed (ArrayAt n)
      → Reached allowed from (whole_back m n xs)
  whole_kept m n None r h = r
  whole_kept m n (Some xs) r h = by_block m n (with_held_elements (block_in m n).held (block_in m n) xs) r h

  result_kept : (m : Memory) (t : ℕ) (xs : Option (List Scalar)) → Reached allowed from m
      → Is allowed (ArrayAt (name.Temp t)) → Reached allowed from (result_back m t xs)
  result_kept m t None r h = r
  result_kept m t (Some xs) r h = by_block m (name.Temp t) (in_a_row (block_in m (name.Temp t)) xs) r h

  all_kept : (place : ℕ) (passed : List Passed) (backs : List (ℕ × List Scalar)) (m : Memory) → Reached allowed from m
      → InPassed allowed passed
      → Reached allowed from (all_back place passed backs m)
  all_kept place [] backs m r h = r
  all_kept place (Value t ∷ more) backs m r h = all_kept (suc place) more backs m r h.1
  all_kept place (Whole n ∷ more) backs m r h = all_kept (suc place) more backs (whole_back m n (elements_back place backs))
      (whole_kept m n (elements_back place backs) r h.0) h.1
  all_kept place (ResultIn t ∷ more) backs m r h = all_kept (suc place) more backs (result_back m t (elements_back place backs))
      (result_kept m t (elements_back place backs) r h.0) h.1

-- ---- the walk

module _ (P : (A : Type 0) → Step A → Type 0) (allowed : Spot
    → Bool) (walk : Walk P allowed) (constants : List Scalar) (calls : Caller)
    (same : (p line : ℕ) (givens : List (ℕ × Given)) → P (List (ℕ × List Scalar)) (calls p line givens)) where
  seq : {A B : Type 0} {m : Step A} {f : A → Step B} → P A m → ((a : A) → P B (f a)) → P B (m >>= f)
  seq {A = A} {B = B} {m = m} {f = f} h g = walk.then_step A B m f h g

  seq_next : {A B : Type 0} {m : Step A} {k : Step B} → P A m → P B k → P B (m >> k)
  seq_next {A = A} {B = B} {m = m} {k = k} h g = walk.next_step A B m k h g

  pured : {A : Type 0} (a : A) → P A (pure a)
  pured {A = A} a = walk.pure_step A a

  read : {A : Type 0} (f : Memory → Option A) → P A (sees cells_of f)
  read {A = A} f = walk.reads_step A f

  of_applied : (r : ℕ) (blank : Blank) (p line : ℕ) (xs : List (ℕ × Scalar)) → Is allowed (ArrayAt (name.Temp r))
      → P Scalar (applied calls r blank p line xs)
  of_applied r blank p line xs h = seq (read _)
      (λ reset. seq_next (walk.changes_step (λ m. Some (with_block m (name.Temp r) reset))
      (λ m. at_block allowed m (name.Temp r) reset h))
      (seq (same _ _ _)
      (λ backs. seq_next
      (walk.changes_step (λ m. Some (result_back m r (elements_back (length xs) backs)))
      (λ m. result_kept allowed m m r (elements_back (length xs) backs) here h))
      (seq (read _)
      (λ x. seq_next (walk.changes_step (λ m. Some (emptied m (name.Temp r)))
      (λ m. at_emptied allowed m (name.Temp r) h)) (pured _))))))

  mutual
    of_element : (line : ℕ) (turn : List ℕ) (t : Tree) → InTree allowed t
        → P Scalar (element cells_of constants (applied calls) line turn t)
    of_element line turn (Literal x) h = pured _
    of_element line turn (Number z) h = pured _
    of_element line turn (Constant n) h = pured _
    of_element line turn (Fixed k) h = read _
    of_element line turn (Read a) h = read _
    of_element line turn (Cell n t) h = seq (of_element line turn t h) (λ i. read _)
    of_element line turn (Entry l t) h = seq (of_element line turn t h) (λ i. read _)
    of_element line turn (Turn loop) h = pured _
    of_element line turn (Place a) h = read _
    of_element line turn (Asked q n) h = read _
    of_element line turn (Unary op t) h = seq (of_element line turn t h) (λ x. pured _)
    of_element line turn (Binary op t u) h = seq (of_element line turn t h.0)
        (λ x. seq (of_element line turn u h.1) (λ y. walk.given_step Scalar _ _))
    of_element line turn (Exactly op t u) h = seq (of_element line turn t h.0)
        (λ x. seq (of_element line turn u h.1) (λ y. walk.found_step Scalar _))
    of_element line turn (Wrapped t) h = seq (of_element line turn t h) (λ x. pured _)
    of_element line turn (Each which ts) h = seq (of_elements line turn ts h) (λ xs. walk.given_step Scalar _ _)
    of_element line turn (Trim t) h = seq (of_element line turn t h) (λ x. pured _)
    of_element line turn (Len t) h = seq (of_element line turn t h) (λ x. pured _)
    of_element line turn (Applied r blank p ts) h = seq (of_elements line turn ts h.1) (λ xs. of_applied r blank p line xs h.0)

    of_elements : (line : ℕ) (turn : List ℕ) (ts : Trees) → InTrees allowed ts
        → P (List (ℕ × Scalar)) (elements cells_of constants (applied calls) line turn ts)
    of_elements line turn no_tree h = pured _
    of_elements line turn (tree place t ts) h = seq (of_element line turn t h.0)
        (λ x. seq (of_elements line turn ts h.1) (λ xs. pured _))

  of_where_true : (line : ℕ) (turn : List ℕ) (t : Tree) → InTree allowed t → (b : Bool)
      → P (Option Scalar) (where_true cells_of constants (applied calls) line turn t b)
  of_where_true line turn t h true = seq (of_element line turn t h) (λ x. pured _)
  of_where_true line turn t h false = pured _

  of_guarded : (line : ℕ) (turn : List ℕ) (guard : Option Guard) (t : Tree) → InGuard allowed guard → InTree allowed t
      → P (Option Scalar) (guarded cells_of constants (applied calls) line turn guard t)
  of_guarded line turn None t g h = of_where_true line turn t h true
  of_guarded line turn (Some guard) t g h = seq (of_element guard.line turn guard.test g) (λ b. of_where_true line turn t h _)

  of_put : (turn : List ℕ) (target : Access) (x : Option Scalar) → Is allowed (ArrayAt target.name)
      → P (Unit {0}) (put_if turn target x)
  of_put turn target None h = pured _
  of_put turn target (Some x) h = walk.changes_step (stored_at turn target x) (λ m. at_stored allowed m turn target x h)

  of_piece : (turn : List ℕ) (p : Piece) → Is allowed (ArrayAt p.target.name) → InGuard allowed p.guard → InTree allowed p.value
      → P (Unit {0}) (piece_acts constants calls turn p)
  of_piece turn p a g h = seq_next (read _) (seq (of_guarded p.line turn p.guard p.value g h) (λ x. of_put turn p.target x a))

  of_given : (line : ℕ) (turn : List ℕ) (passed : List Passed) → InPassed allowed passed → (k : ℕ)
      → P (List (ℕ × Given)) (given_all constants calls line turn k passed)
  unfolding given_all
  of_given line turn [] h k = pured _
  of_given line turn (Value t ∷ more) h k = seq (seq (of_element line turn t h.0) (λ x. pured _))
      (λ g. seq (of_given line turn more h.1 (suc k)) (λ gs. pured _))
  of_given line turn (Whole n ∷ more) h k = seq (read _) (λ g. seq (of_given line turn more h.1 (suc k)) (λ gs. pured _))
  of_given line turn (ResultIn t ∷ more) h k = seq (read _) (λ g. seq (of_given line turn more h.1 (suc k)) (λ gs. pured _))

  of_truth : (line : ℕ) (turn : List ℕ) (t : Tree) → InTree allowed t → P Bool (truth constants calls line turn t)
  of_truth line turn t h = seq (of_element line turn t h) (λ x. pured _)

  of_call : (line : ℕ) (turn : List ℕ) (p : ℕ) (passed : List Passed) → InPassed allowed passed
      → P (Unit {0}) (call_acts constants calls line turn p passed)
  of_call line turn p passed h = seq (of_given line turn passed h 0)
      (λ givens. seq (same p line givens) (λ backs. walk.changes_step (λ m. Some (all_back 0 passed backs m))
      (λ m. all_kept allowed m 0 passed backs m here h)))

  of_test : (line : ℕ) (turn : List ℕ) (kind : FaultKind) (t : Tree) → InTree allowed t
      → P (Unit {0}) (test_acts constants calls line turn kind t)
  of_test line turn kind t h = seq (of_element line turn t h) (λ x. walk.unless_step _ _ _)

  of_kept_truth : (k : ℕ) → P Bool (kept_truth constants calls k)
  of_kept_truth k = read _

  of_take : (line k read_any : ℕ) → Is allowed (ScalarAt k) → P (Unit {0}) (take_acts constants calls line k read_any)
  of_take line k read_any h = seq (of_kept_truth read_any)
      (λ b. seq (walk.integer_step line b) (λ z. walk.changes_step (λ m. Some (with_kept m k (int z)))
      (λ m. at_kept allowed m k (int z) h)))

  -- ---- loops

  of_each : {body : ℕ → Step (Unit {0})} → ((i : ℕ) → P (Unit {0}) (body i)) → (turns : List ℕ)
      → P (Unit {0}) (each_turn body turns)
  unfolding each_turn
  of_each h [] = pured _
  of_each h (i ∷ turns) = seq_next walk.enter_step (seq_next (h i) (of_each h turns))

  of_loops : {body : List ℕ → Step (Unit {0})} → ((turn : List ℕ) → P (Unit {0}) (body turn))
      → (order : List Level) (extents turn : List ℕ)
      → P (Unit {0}) (loops body order extents turn)
  unfolding loops
  of_loops h [] extents turn = h turn
  of_loops h (level ∷ inner) extents turn = of_each (λ i. of_loops h inner extents (slice_set turn (level.number - 1) i)) _

  of_looped : {body : List ℕ → Step (Unit {0})} → ((turn : List ℕ) → P (Unit {0}) (body turn))
      → (order : List Level) (extents : List ℕ)
      → P (Unit {0}) (looped body order extents)
  of_looped h order extents = walk.pick_step (Unit {0}) _ _ _ (pured _) (of_loops h order extents _)

  of_only_next : (flow : Flow) → P (Unit {0}) (only_next flow)
  of_only_next Next = pured _
  of_only_next (Exits out) = walk.stray_step
  of_only_next (Cycles out) = walk.stray_step
  of_only_next Returns = walk.stray_step

  of_calmly : {m : Step Flow} → P Flow m → P (Unit {0}) (calmly m)
  of_calmly h = seq h of_only_next

  of_ends : {m : Step (Unit {0})} → P (Unit {0}) m → P Flow (ends m)
  of_ends h = seq_next h (pured _)

  of_behind : (flow : Flow) {rest : Step Flow} → P Flow rest → P Flow (behind flow rest)
  of_behind Next h = h
  of_behind (Exits out) h = pured _
  of_behind (Cycles out) h = pured _
  of_behind Returns h = pured _

  -- ---- statements

  mutual
    pub of_acts : (turn : List ℕ) (s : Statement) → InStatement allowed s → P Flow (acts constants calls turn s)
    of_acts turn (Set line k t) h = seq (of_element line turn t h.1)
        (λ x. seq_next (walk.changes_step (λ m. Some (with_kept m k x)) (λ m. at_kept allowed m k x h.0)) (pured _))
    of_acts turn (Test line kind t) h = of_ends (of_test line turn kind t h)
    of_acts turn (Store p) h = of_ends (of_piece turn p h.0 h.1 h.2)
    of_acts turn (StoreCell line n t u) h = seq (of_element line turn t h.1)
        (λ i. seq (of_element line turn u h.2) (λ x. seq_next (walk.changes_step (stored_cell n (integer_of i) x)
        (λ m. at_cell allowed m n (integer_of i) x h.0)) (pured _)))
    of_acts turn (Make line b) h = of_ends (walk.changes_step (made_block b) (λ m. at_made allowed m b h))
    of_acts turn (Grow line n a) h = of_ends (walk.changes_step (grown n a) (λ m. at_grown allowed m n a h))
    of_acts turn (Rebound line n spans) h = of_ends (walk.changes_step (rebound n spans) (λ m. at_rebound allowed m n spans h))
    of_acts turn (Free line n) h = of_ends (walk.changes_step (freed n) (λ m. at_freed allowed m n h))
    of_acts turn (MakeList line l a) h = of_ends (walk.changes_step (made_list l a) (λ m. at_made_list allowed m l a h))
    of_acts turn (StoreEntry line l t u) h = seq (of_element line turn t h.1)
        (λ i. seq (of_element line turn u h.2)
        (λ x. seq_next (walk.changes_step (stored_entry l (integer_of i) (integer_of x))
        (λ m. at_entry allowed m l (integer_of i) (integer_of x) h.0)) (pured _)))
    of_acts turn (FreeList line l) h = of_ends (walk.changes_step (freed_list l) (λ m. at_freed_list allowed m l h))
    of_acts turn (Nest own frame headers checks body) h = seq_next (of_calmly (of_all turn checks h.0))
        (seq (read _)
        (λ extents. seq_next (of_looped (λ place. of_calmly (of_all place body h.1)) frame.order extents) (pured _)))
    of_acts turn (If line test yes_part no_part) h = seq (of_truth line turn test h.0)
        (λ b. walk.pick_step Flow b _ _ (of_all turn yes_part h.1) (of_all turn no_part h.2))
    of_acts turn (While line head test body) h =
        walk.while_step _ _ _ (of_calmly (of_all turn head h.0)) (of_truth line turn test h.1) (of_all turn body h.2)
    of_acts turn (Call line p passed) h = of_ends (of_call line turn p passed h)
    of_acts turn (Put line t) h = seq (of_element line turn t h) (λ x. seq_next (walk.joins_step x) (pured _))
    of_acts turn Write h = of_ends walk.writes_step
    of_acts turn (Take line k comma) h = of_ends (of_take line k comma h)
    of_acts turn (Skip line comma) h = seq (of_kept_truth comma) (λ b. seq_next (walk.skip_step line b) (pured _))
    of_acts turn (Exit out) h = pured _
    of_acts turn (Cycle out) h = pured _
    of_acts turn Return h = pured _
    of_acts turn Stop h = walk.stopped_step

    pub of_all : (turn : List ℕ) (body : Statements) → InAll allowed body → P Flow (all_act constants calls turn body)
    of_all turn no_statement h = pured _
    of_all turn (statement s rest) h = seq (of_acts turn s h.0) (λ flow. of_behind flow (of_all turn rest h.1))

-- ---- where all is allowed

abbrev pub any : Spot → Bool
any spot = true

mutual
  any_tree : (t : Tree) → InTree any t
  any_tree (Literal x) = tt
  any_tree (Number z) = tt
  any_tree (Constant n) = tt
  any_tree (Fixed k) = tt
  any_tree (Read a) = tt
  any_tree (Cell n t) = any_tree t
  any_tree (Entry l t) = any_tree t
  any_tree (Turn loop) = tt
  any_tree (Place a) = tt
  any_tree (Asked q n) = tt
  any_tree (Unary op t) = any_tree t
  any_tree (Binary op t u) = (any_tree t, any_tree u)
  any_tree (Exactly op t u) = (any_tree t, any_tree u)
  any_tree (Wrapped t) = any_tree t
  any_tree (Each which ts) = any_trees ts
  any_tree (Trim t) = any_tree t
  any_tree (Len t) = any_tree t
  any_tree (Applied r blank p ts) = (refl, any_trees ts)

  any_trees : (ts : Trees) → InTrees any ts
  any_trees no_tree = tt
  any_trees (tree place t ts) = (any_tree t, any_trees ts)

any_guard : (guard : Option Guard) → InGuard any guard
any_guard None = tt
any_guard (Some guard) = any_tree guard.test

any_passed : (passed : List Passed) → InPassed any passed
any_passed [] = tt
any_passed (Value t ∷ more) = (any_tree t, any_passed more)
any_passed (Whole n ∷ more) = (refl, any_passed more)
any_passed (ResultIn t ∷ more) = (refl, any_passed more)

mutual
  any_statement : (s : Statement) → InStatement any s
  any_statement (Set line k t) = (refl, any_tree t)
  any_statement (Test line kind t) = any_tree t
  any_statement (Store p) = (refl, any_guard p.guard, any_tree p.value)
  any_statement (StoreCell line n t u) = (refl, any_tree t, any_tree u)
  any_statement (Make line b) = refl
  any_statement (Grow line n a) = refl
  any_statement (Rebound line n spans) = refl
  any_statement (Free line n) = refl
  any_statement (MakeList line l a) = refl
  any_statement (StoreEntry line l t u) = (refl, any_tree t, any_tree u)
  any_statement (FreeList line l) = refl
  any_statement (Nest own frame headers checks body) = (any_all checks, any_all body)
  any_statement (If line test yes_part no_part) = (any_tree test, any_all yes_part, any_all no_part)
  any_statement (While line head test body) = (any_all head, any_tree test, any_all body)
  any_statement (Call line p passed) = any_passed passed
  any_statement (Put line t) = any_tree t
  any_statement Write = tt
  any_statement (Take line k read) = refl
  any_statement (Skip line read) = tt
  any_statement (Exit out) = tt
  any_statement (Cycle out) = tt
  any_statement Return = tt
  any_statement Stop = tt

  pub any_all : (body : Statements) → InAll any body
  any_all no_statement = tt
  any_all (statement s rest) = (any_statement s, any_all rest)
