-- Statements: choices, loops and what leaves them, allocation, and the statements of the other files.
use Rattle.std.specs.Prelude.{ℕ, ℤ, pos, zero, suc, ◌+ℤ◌, Bool, true, not, ◌&&◌, nat_le, None, is_some, List, [], ◌∷◌}
use Rattle.std.specs.Prelude.{slice_index_or}
use Rattle.std.specs.List.{list_any}
use Rattle.std.specs.Ordering.{int_eq, is_eq, is_le, is_ge}
use Rattle.a95_base.specs.declared.fault.FaultKind.TheVariants as fault
use Rattle.a95_base.specs.declared.scalar.Scalar.{Scalar}
use Rattle.a95_base.specs.declared.scalar.Scalar.TheVariants as scalar
use Rattle.a95_base.specs.Steps.{Ran, pure, stop, ◌>>=◌, ◌>>◌}
use Rattle.a95_base.specs.Integer.{wrapped}
use Rattle.a95_base.specs.Limits.{most_elements}
use Rattle.f95_unit.specs.declared.stmt.Range.{Range}
use Rattle.f95_unit.specs.declared.stmt.Range.TheVariants as range
use Rattle.f95_unit.specs.Plain.{Span, Allocation, call, Stmt, Assigns, Masks, ForAll, Calls, Allocate, Deallocate, Print, Read, If}
use Rattle.f95_unit.specs.Plain.{Select, Do, While, Forever, Exit, Cycle, Return, Stop, Stmts, no_stmt, stmt, Branches, no_branch}
use Rattle.f95_unit.specs.Plain.{branch, Cases, no_case, case, Program}
use Rattle.array_meaning.specs.Values.{nothing, only, size_of}
use Rattle.array_meaning.specs.Scalars.{compared, is_equivalent}
use Rattle.array_meaning.specs.State.{Dimension, dimension, extents_of, Stopped, OutOfTurns, Step, unless, choose, allocated_array}
use Rattle.array_meaning.specs.State.{turn, turns_left, variable, set_variable, store_one, fresh}
use Rattle.array_meaning.specs.Sections.{triplet_count}
use Rattle.array_meaning.specs.Trees.{Caller}
use Rattle.array_meaning.specs.Expressions.{evaluate, integer, truth, bound_or, actuals}
use Rattle.array_meaning.specs.Assignments.{assigned, where_acts, forall_acts}
use Rattle.array_meaning.specs.InputOutput.{prints, reads}

-- what comes behind a statement: the next one; the end of the DO, or of the turn, that so many others stand inside of; the end
-- of the procedure
pub data Flow : Type 0 where
  Next : Flow
  Exits : (out : ℕ) → Flow
  Cycles : (out : ℕ) → Flow
  Returns : Flow

-- what comes behind, for steps on any state
module _ {E S : Type 0} where
  -- behind one turn of a DO
  abbrev pub behind_turn : Flow → (S → Ran E S Flow) → S → Ran E S Flow
  behind_turn Next more = more
  behind_turn (Cycles zero) more = more
  behind_turn (Cycles (suc out)) more = pure (Cycles out)
  behind_turn (Exits zero) more = pure Next
  behind_turn (Exits (suc out)) more = pure (Exits out)
  behind_turn Returns more = pure Returns

  -- behind a statement of a list
  abbrev pub behind : Flow → (S → Ran E S Flow) → S → Ran E S Flow
  behind Next more = more
  behind flow more = pure flow

abbrev pub one_turn : Step Flow → Step Flow → Step Flow
one_turn body more = do
  turn
  flow ← body
  behind_turn flow more

-- a DO with so many turns: the variable takes its value before each one, and once more behind the last
unfoldable pub counted : ℕ → ℕ → ℤ → ℤ → Step Flow → Step Flow
counted n zero i step body = do
  store_one n (scalar.Int (wrapped i))
  pure Next
counted n (suc turns) i step body = do
  store_one n (scalar.Int (wrapped i))
  one_turn body (counted n turns (i +ℤ step) step body)

-- a DO WHILE, with as many rounds at most as turns are left: without one it still may end, or fault. So many are enough, since
-- each round begins a turn, and none comes back
unfoldable pub while_true : ℕ → Step Bool → Step Flow → Step Flow
while_true zero test body = do
  go ← test
  choose go (stop OutOfTurns) (pure Next)
while_true (suc k) test body = do
  go ← test
  choose go (one_turn body (while_true k test body)) (pure Next)

-- ---- CASE

abbrev pub is_at_least : Scalar → Scalar → Bool
is_at_least x y = is_ge (compared x y)

abbrev pub is_at_most : Scalar → Scalar → Bool
is_at_most x y = is_le (compared x y)

abbrev pub is_same : Scalar → Scalar → Bool
is_same (scalar.Log a) (scalar.Log b) = is_equivalent a b
is_same x y = is_eq (compared x y)

abbrev pub is_in : List Scalar → Scalar → Range → Bool
is_in constants x (range.One n) = is_same x (slice_index_or constants n nothing)
is_in constants x (range.From n) = is_at_least x (slice_index_or constants n nothing)
is_in constants x (range.UpTo n) = is_at_most x (slice_index_or constants n nothing)
is_in constants x (range.Between n m) = is_at_least x (slice_index_or constants n nothing) && is_at_most x
    (slice_index_or constants m nothing)

module _ (unit : Program) (calls : Caller) where
  -- ---- allocation

  -- the bounds of each dimension, lower before upper
  unfoldable pub dimensions : ℕ → List Span → Step (List Dimension)
  dimensions line [] = pure []
  dimensions line (s ∷ more) = do
    lower ← bound_or unit calls line [] (pos 1) s.lower
    upper ← integer unit calls line [] s.upper
    rest ← dimensions line more
    pure (dimension lower upper ∷ rest)

  -- for each object its bounds, then its size, then that it isn't allocated
  unfoldable pub allocates : ℕ → List Allocation → Step (Unit {0})
  allocates line [] = pure tt
  allocates line (a ∷ more) = do
    bounds ← dimensions line a.spans
    unless (nat_le (size_of (extents_of bounds)) most_elements) fault.TooLarge line
    v ← variable a.variable
    unless (not (is_some v.held)) fault.Allocated line
    set_variable a.variable (fresh v.blank bounds)
    allocates line more

  unfoldable pub deallocates : ℕ → List ℕ → Step (Unit {0})
  deallocates line [] = pure tt
  deallocates line (n ∷ more) = do
    v ← variable n
    allocated_array line v.held
    set_variable n (record v { held = None })
    deallocates line more

  -- ---- statements

  abbrev pub ends : Step (Unit {0}) → Step Flow
  ends step = do
    step
    pure Next

  abbrev mutual
    pub acts : Stmt → Step Flow
    acts (Assigns a) = ends (assigned unit calls None a)
    acts (Masks w) = ends (where_acts unit calls None w)
    acts (ForAll f) = ends (forall_acts unit calls f)
    acts (Calls line (call p es)) = do
      vs ← actuals unit calls line [] es
      calls p line vs
      pure Next
    acts (Allocate line objects) = ends (allocates line objects)
    acts (Deallocate line names) = ends (deallocates line names)
    acts (Print line es) = ends (prints unit calls line es)
    acts (Read line targets) = ends (reads unit calls line targets)
    acts (If branches otherwise) = branch_acts branches (all_act otherwise)
    acts (Select line e cases otherwise) = do
      v ← evaluate unit calls line [] e
      case_acts (only v) cases (all_act otherwise)
    -- the number of turns is fixed here, in exact integers
    acts (Do line n first last step body) = do
      f ← integer unit calls line [] first
      l ← integer unit calls line [] last
      s ← bound_or unit calls line [] (pos 1) step
      unless (not (int_eq s (pos 0))) fault.ZeroStep line
      counted n (triplet_count f l s) f s (all_act body)
    acts (While line e body) = turns_left (λ k. while_true k (truth unit calls line [] e) (all_act body))
    acts (Forever line body) = turns_left (λ k. while_true k (pure true) (all_act body))
    acts (Exit line out) = pure (Exits out)
    acts (Cycle line out) = pure (Cycles out)
    acts (Return line) = pure Returns
    acts (Stop line) = stop Stopped

    pub all_act : Stmts → Step Flow
    all_act no_stmt = pure Next
    all_act (stmt s more) = do
      flow ← acts s
      behind flow (all_act more)

    -- the statements behind the first condition that is true
    pub branch_acts : Branches → Step Flow → Step Flow
    branch_acts no_branch otherwise = otherwise
    branch_acts (branch line e body more) otherwise = do
      b ← truth unit calls line [] e
      choose b (all_act body) (branch_acts more otherwise)

    -- those of the first CASE that has the selector's value
    pub case_acts : Scalar → Cases → Step Flow → Step Flow
    case_acts x no_case otherwise = otherwise
    case_acts x (case ranges body more) otherwise =
        choose (list_any (is_in unit.constants x) ranges) (all_act body) (case_acts x more otherwise)
