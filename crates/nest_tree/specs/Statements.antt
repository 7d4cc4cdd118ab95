-- What statements do. A nest runs its body at each place of its frame, in its order; inside of a body a statement knows the turn
-- of the innermost nest alone.
use Rattle.std.specs.Prelude.{ℕ, zero, suc, pos, ◌-◌, Bool, nat_eq, if◌then◌else◌, Option, Some, None, List, [], ◌∷◌, ◌++◌, map}
use Rattle.std.specs.Prelude.{length, slice_index, slice_set}
use Rattle.a95_base.specs.declared.fault.FaultKind.{FaultKind}
use Rattle.a95_base.specs.declared.scalar.Scalar.{Scalar}
use Rattle.a95_base.specs.Steps.{pure, stop, ◌>>=◌, ◌>>◌}
use Rattle.rank_shape.specs.Order.{Level}
use Rattle.rank_shape.specs.Walk.{turns_of}
use Rattle.array_meaning.specs.Values.{integer_of, truth_of, size_of}
use Rattle.array_meaning.specs.State as source
use Rattle.array_meaning.specs.State.{Array, Variable, counted_from_one, fresh}
use Rattle.array_meaning.specs.InputOutput.{next_integer, skip_record}
use Rattle.array_meaning.specs.Control.{Flow, Next, Exits, Cycles, Returns, behind, behind_turn}
use Rattle.nest_tree.specs.declared.access.Access.{Access}
use Rattle.nest_tree.specs.declared.access.Name.{Name}
use Rattle.nest_tree.specs.declared.access.Name.TheVariants as name
use Rattle.nest_tree.specs.Plain.{Tree, Piece, Passed, Value, Whole, ResultIn, Statement, Set, Test, Store, StoreCell, Make, Grow}
use Rattle.nest_tree.specs.Plain.{Rebound, Free, MakeList, StoreEntry, FreeList, Nest, If, While, Call, Put, Write, Take, Skip}
use Rattle.nest_tree.specs.Plain.{Exit, Cycle, Return, Stop, Statements, no_statement, statement}
use Rattle.nest_tree.specs.State.{cells_of, Memory, NestState, By, Stray, Step, on, pick, reads, changes, within, enter, turns_left}
use Rattle.nest_tree.specs.State.{joins, writes, block_in, with_block, with_kept}
use Rattle.nest_tree.specs.Places.{amount, natural, blank_for, is_aimed, stored_at, stored_cell, cell_of, with_elements, made_block}
use Rattle.nest_tree.specs.Places.{grown, rebound, emptied, freed, made_list, stored_entry, freed_list}
use Rattle.nest_tree.specs.Elements.{int, Application, element, guarded}

-- ---- calls, as far as a statement knows them

-- what a dummy is given: a value, or a whole array
pub data Given : Type 0 where
  Alone : Scalar → Given
  Entire : Variable → Given

-- what a call does, for its procedure, its line and what the dummies at each place are given: it gives the elements of those that
-- were modified, the result among them
abbrev pub Caller : Type 0
Caller = ℕ → ℕ → List (ℕ × Given) → Step (List (ℕ × List Scalar))

abbrev pub elements_back : ℕ → List (ℕ × List Scalar) → Option (List Scalar)
elements_back place [] = None
elements_back place (b ∷ more) = if nat_eq b.0 place then Some b.1 else elements_back place more

-- the elements that a modified dummy had last, in the array that was passed
abbrev pub with_held_elements : Option Array → Variable → List Scalar → Variable
with_held_elements None v xs = v
with_held_elements (Some a) v xs = with_elements v a xs

abbrev pub whole_back : Memory → Name → Option (List Scalar) → Memory
whole_back m n None = m
whole_back m n (Some xs) = with_block m n (with_held_elements (block_in m n).held (block_in m n) xs)

-- a result comes as one row
abbrev pub in_a_row : Variable → List Scalar → Variable
in_a_row v xs = record v { held = Some (record { bounds = counted_from_one (length xs ∷ []); elements = xs }) }

abbrev pub result_back : Memory → ℕ → Option (List Scalar) → Memory
result_back m t None = m
result_back m t (Some xs) = with_block m (name.Temp t) (in_a_row (block_in m (name.Temp t)) xs)

abbrev pub one_back : Memory → Passed → Option (List Scalar) → Memory
one_back m (Value t) xs = m
one_back m (Whole n) xs = whole_back m n xs
one_back m (ResultIn t) xs = result_back m t xs

abbrev pub all_back : ℕ → List Passed → List (ℕ × List Scalar) → Memory → Memory
all_back place [] backs m = m
all_back place (p ∷ more) backs m = all_back (suc place) more backs (one_back m p (elements_back place backs))

-- a block that may be passed
abbrev pub entire : Variable → Option Given
entire v = on v.held (λ a. Some (Entire v))

abbrev pub values_given : List (ℕ × Scalar) → List (ℕ × Given)
values_given xs = map (λ x. (x.0, Alone x.1)) xs

-- a reference to an elemental function: the block of its result is made, taken and freed
abbrev pub applied : Caller → Application NestState
applied calls r blank p line xs = do
  reset ← reads (λ m. Some (fresh (blank_for m.temps.setting blank) []))
  changes (λ m. Some (with_block m (name.Temp r) reset))
  backs ← calls p line (values_given xs ++ (length xs, Entire reset) ∷ [])
  changes (λ m. Some (result_back m r (elements_back (length xs) backs)))
  x ← reads (λ m. cell_of (block_in m (name.Temp r)) (pos 0))
  changes (λ m. Some (emptied m (name.Temp r)))
  pure x

-- ---- loops

-- a loop over these turns, each one more entry
unfoldable pub each_turn : (ℕ → Step (Unit {0})) → List ℕ → Step (Unit {0})
each_turn body [] = pure tt
each_turn body (i ∷ is) = do
  enter
  body i
  each_turn body is

unfoldable pub loops : (List ℕ → Step (Unit {0})) → List Level → List ℕ → List ℕ → Step (Unit {0})
loops body [] extents turn = body turn
loops body (level ∷ inner) extents turn =
    each_turn (λ i. loops body inner extents (slice_set turn (level.number - 1) i))
    (turns_of level.down (slice_index extents (level.number - 1)))

-- a nest without elements enters no loop
abbrev pub looped : (List ℕ → Step (Unit {0})) → List Level → List ℕ → Step (Unit {0})
looped body order extents = pick (nat_eq (size_of extents) 0) (pure tt) (loops body order extents (map (λ n. 0) extents))

abbrev pub one_turn : Step Flow → Step Flow → Step Flow
one_turn body more = do
  within source.turn
  flow ← body
  behind_turn flow more

-- each round is an entry, the last one too, whose condition is false; a turn begins behind the condition. There are as many rounds
-- at most as turns are left
unfoldable pub rounds : ℕ → Step (Unit {0}) → Step Bool → Step Flow → Step Flow
rounds zero head test body = do
  enter
  head
  go ← test
  pick go (stop (By source.OutOfTurns)) (pure Next)
rounds (suc k) head test body = do
  enter
  head
  go ← test
  pick go (one_turn body (rounds k head test body)) (pure Next)

-- nothing leaves a check, the body of a nest, or what stands before a condition
abbrev pub only_next : Flow → Step (Unit {0})
only_next Next = pure tt
only_next flow = stop Stray

abbrev pub calmly : Step Flow → Step (Unit {0})
calmly step = do
  flow ← step
  only_next flow

abbrev pub ends : Step (Unit {0}) → Step Flow
ends step = do
  step
  pure Next

-- ---- statements

abbrev pub put_if : List ℕ → Access → Option Scalar → Step (Unit {0})
put_if turn target None = pure tt
put_if turn target (Some x) = changes (stored_at turn target x)

module _ (constants : List Scalar) (calls : Caller) where
  abbrev pub value : ℕ → List ℕ → Tree → Step Scalar
  value line turn t = element cells_of constants (applied calls) line turn t

  -- the place has to be there, whether the guard is true or not
  abbrev pub piece_acts : List ℕ → Piece → Step (Unit {0})
  piece_acts turn p = do
    reads (λ m. is_aimed m turn p.target)
    x ← guarded cells_of constants (applied calls) p.line turn p.guard p.value
    put_if turn p.target x

  abbrev pub given_one : ℕ → List ℕ → Passed → Step Given
  given_one line turn (Value t) = do
    x ← value line turn t
    pure (Alone x)
  given_one line turn (Whole n) = reads (λ m. entire (block_in m n))
  given_one line turn (ResultIn t) = reads (λ m. entire (block_in m (name.Temp t)))

  unfoldable pub given_all : ℕ → List ℕ → ℕ → List Passed → Step (List (ℕ × Given))
  given_all line turn place [] = pure []
  given_all line turn place (p ∷ more) = do
    g ← given_one line turn p
    gs ← given_all line turn (suc place) more
    pure ((place, g) ∷ gs)

  abbrev pub call_acts : ℕ → List ℕ → ℕ → List Passed → Step (Unit {0})
  call_acts line turn p passed = do
    givens ← given_all line turn 0 passed
    backs ← calls p line givens
    changes (λ m. Some (all_back 0 passed backs m))

  abbrev pub test_acts : ℕ → List ℕ → FaultKind → Tree → Step (Unit {0})
  test_acts line turn kind t = do
    x ← value line turn t
    within (source.unless (truth_of x) kind line)

  abbrev pub kept_truth : ℕ → Step Bool
  kept_truth k = reads (λ m. Some (truth_of (m.temps.setting.kept k)))

  abbrev pub take_acts : ℕ → ℕ → ℕ → Step (Unit {0})
  take_acts line k read = do
    b ← kept_truth read
    z ← within (next_integer line b)
    changes (λ m. Some (with_kept m k (int z)))

  abbrev pub truth : ℕ → List ℕ → Tree → Step Bool
  truth line turn t = do
    x ← value line turn t
    pure (truth_of x)

  abbrev mutual
    pub acts : List ℕ → Statement → Step Flow
    acts turn (Set line k t) = do
      x ← value line turn t
      changes (λ m. Some (with_kept m k x))
      pure Next
    acts turn (Test line kind t) = ends (test_acts line turn kind t)
    acts turn (Store p) = ends (piece_acts turn p)
    acts turn (StoreCell line n t u) = do
      i ← value line turn t
      x ← value line turn u
      changes (stored_cell n (integer_of i) x)
      pure Next
    acts turn (Make line b) = ends (changes (made_block b))
    acts turn (Grow line n a) = ends (changes (grown n a))
    acts turn (Rebound line n spans) = ends (changes (rebound n spans))
    acts turn (Free line n) = ends (changes (freed n))
    acts turn (MakeList line l a) = ends (changes (made_list l a))
    acts turn (StoreEntry line l t u) = do
      i ← value line turn t
      x ← value line turn u
      changes (stored_entry l (integer_of i) (integer_of x))
      pure Next
    acts turn (FreeList line l) = ends (changes (freed_list l))
    acts turn (Nest own frame headers checks body) = do
      calmly (all_act turn checks)
      extents ← reads (λ m. Some (map (λ a. natural (amount m.temps.setting a)) frame.extents))
      looped (λ place. calmly (all_act place body)) frame.order extents
      pure Next
    acts turn (If line test yes_part no_part) = do
      b ← truth line turn test
      pick b (all_act turn yes_part) (all_act turn no_part)
    acts turn (While line head test body) =
        turns_left (λ k. rounds k (calmly (all_act turn head)) (truth line turn test) (all_act turn body))
    acts turn (Call line p passed) = ends (call_acts line turn p passed)
    acts turn (Put line t) = do
      x ← value line turn t
      joins x
      pure Next
    acts turn Write = ends writes
    acts turn (Take line k read) = ends (take_acts line k read)
    acts turn (Skip line read) = do
      b ← kept_truth read
      within (skip_record line b)
      pure Next
    acts turn (Exit out) = pure (Exits out)
    acts turn (Cycle out) = pure (Cycles out)
    acts turn Return = pure Returns
    acts turn Stop = stop (By source.Stopped)

    pub all_act : List ℕ → Statements → Step Flow
    all_act turn no_statement = pure Next
    all_act turn (statement s more) = do
      flow ← acts turn s
      behind flow (all_act turn more)
