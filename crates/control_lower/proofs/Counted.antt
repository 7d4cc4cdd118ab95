-- DO: the bounds in their order, the count, and the turns.
use Rattle.std.proofs.Common.{◌≡◌, refl, sym, ap, subst, ◌∙◌, ℕ, ℤ, zero, suc, pos, ◌<◌, ◌≤◌, ◌^◌, ◌+◌, ◌*◌, arith, Bool, true}
use Rattle.std.proofs.Common.{false, List, [], ◌∷◌, ◌++◌}
use Rattle.std.specs.Prelude.{Some, Ok, length, not, int_lt, int_div, ◌+ℤ◌, ◌-ℤ◌, unsigned_abs, FitsSigned, slice_index_or}
use Rattle.std.specs.Int.{w32}
use Rattle.std.specs.Ordering.{int_eq}
use Rattle.std.proofs.Math.Nat.{suc-mul}
use Rattle.std.proofs.lemmas.Int.{ints}
use Rattle.std.proofs.lemmas.Bool.{both_ways}
use Rattle.a95_base.specs.declared.fault.FaultKind.TheVariants as fault
use Rattle.a95_base.specs.declared.scalar.Scalar.{Scalar}
use Rattle.a95_base.specs.declared.scalar.Scalar.TheVariants as scalar
use Rattle.a95_base.specs.Integer.{wrapped}
use Rattle.a95_base.specs.Steps.{pure, stop, behind as goes_on, ◌>>=◌, ◌>>◌}
use Rattle.a95_base.proofs.Steps.{assoc, value_unread}
use Rattle.std.proofs.lemmas.Option.{same_Some}
use Rattle.nest_tree.proofs.Stays.{set_other}
use Rattle.f95_unit.specs.Plain.{Program, Entity, Expr, Bound, Absent, Given}
use Rattle.array_meaning.specs.Values.{Value, integer_of, only}
use Rattle.array_meaning.specs.State as source
use Rattle.array_meaning.specs.State.{State, no_variable}
use Rattle.array_meaning.specs.Sections.{triplet_count}
use Rattle.array_meaning.specs.Trees as trees
use Rattle.array_meaning.specs.Expressions.{evaluate, integer, bound_or}
use Rattle.array_meaning.specs.Control as control
use Rattle.array_meaning.specs.Control.{Flow, Next, Exits, Cycles, Returns, behind_turn}
use Rattle.nest_tree.specs.declared.tree.Exact.{Exact}
use Rattle.nest_tree.specs.declared.tree.Exact.TheVariants as exact
use Rattle.nest_tree.specs.declared.unit.Sort.{Sort}
use Rattle.nest_tree.specs.declared.unit.Sort.TheVariants as sort
use Rattle.nest_tree.specs.Plain.{Tree, Statement, Statements, no_statement, statement, joined, Number, Fixed, Exactly, Wrapped}
use Rattle.nest_tree.specs.Plain.{Set, Test}
use Rattle.nest_tree.specs.State.{NestState, By, Step, given, found, sees, pick, within, enter, turns_left}
use Rattle.nest_tree.specs.Elements.{exact_of, in_64_bits}
use Rattle.nest_tree.specs.Statements.{Caller, acts, truth, calmly, rounds, one_turn}
use Rattle.control_lower.specs.Trees.{sort_at, sort_of_expr, lowered, held}
use Rattle.control_lower.specs.Units.{LoweredList, store, nonzero, step_of, count_tree, counting, first_then}
use Rattle.control_lower.proofs.Agree.{Agrees, agrees_then, agrees_pure, agrees_stop, run, parts_then, run_only, run_none, run_next}
use Rattle.control_lower.proofs.Agree.{run_halt}
use Rattle.nest_tree.specs.Sound.{is_sort}
use Rattle.control_lower.proofs.Stands.{HasSort, Holds, HoldsOne, From, from_here, from_kept, from_then, kept_in}
use Rattle.control_lower.proofs.Stands.{kept_at, set_here, value}
use Rattle.control_lower.proofs.Operators.{only_is, set_ok}
use Rattle.control_lower.proofs.Sorts.{sort_fits, wrapped_sort, lt_true}
use Rattle.control_lower.proofs.Parts.{Valued, held_as, prepared, taken_grow, taken_more, holds_from}
use Rattle.control_lower.proofs.Stores.{nest_after, plain_after, holds_after, store_ok, store_one_is}
use Rattle.control_lower.proofs.Runs.{Goes, FlowR, Runs, goes_from, flow_then}
use Rattle.control_lower.proofs.Chains.{joined_assoc}
use Rattle.control_lower.proofs.Grow.{step_grow}
use Rattle.control_lower.proofs.Exact.{in_64, abs_add, Counts, counts}
use Rattle.control_lower.proofs.Premises.{IsBound, IsOf}

-- an INTEGER
pub record IsInt (x : Scalar) : Type 0 where
  pub number : ℤ
  pub is : x ≡ scalar.Int number
  pub fits : FitsSigned w32 number

no_sort : (s t : Sort) → (s ≡ t → ⊥) → Some s ≡ Some t → ⊥
no_sort s t out h = out (same_Some s t h)

int_value : (x : Scalar) → HasSort sort.Int x → IsInt x
int_value (scalar.Int z) h = record { number = z; is = refl; fits = sort_fits z h }
int_value (scalar.Log b) h = absurd (both_ways false refl (ap (λ o. is_sort o sort.Int) h))
int_value (scalar.Text bytes) h = absurd (both_ways false refl (ap (λ o. is_sort o sort.Int) h))

module _ (unit : Program) (entities : List Entity) (calls : Caller) (scalls : trees.Caller) (line : ℕ) where
  abbrev Value' : Tree → ℤ → NestState → Type 0
  Value' t z n = value unit.constants calls scalls line [] t n ≡ given line (Ok (scalar.Int z)) n

  -- ---- trees

  fixed_int : (j : ℕ) (z : ℤ) (n : NestState) → kept_in n j ≡ scalar.Int z → Value' (Fixed j) z n
  unfolding sees given
  fixed_int j z n h = rw h refl

  number_int : (z : ℤ) (n : NestState) → Value' (Number z) z n
  unfolding pure given
  number_int z n = refl

  exact_two : (op : Exact) (t u : Tree) (x y : ℤ) (w : Scalar) (n : NestState) → Value' t x n → Value' u y n
      → exact_of op x y ≡ Some w
      → value unit.constants calls scalls line [] (Exactly op t u) n ≡ given line (Ok w) n
  unfolding ◌>>=◌ goes_on given found
  exact_two op t u x y w n h g e = rw h (rw g (rw e refl))

  wrapped_int : (j : ℕ) (z : ℤ) (n : NestState) → kept_in n j ≡ scalar.Int z → Value' (Wrapped (Fixed j)) (wrapped z) n
  unfolding ◌>>=◌ goes_on pure given sees
  wrapped_int j z n h = rw h refl

  -- ---- an integer that a scalar holds

  pure_integer : {B : Type 0} (g : ℤ → source.Step B) (v : Value) (z : ℤ) (p : State) → only v ≡ scalar.Int z
      → (pure (integer_of (only v)) >>= g) p ≡ g z p
  unfolding ◌>>=◌ goes_on pure
  pure_integer g v z p h = rw h refl

  integer_then : {B : Type 0} (R : Flow → B → NestState → Type 0) (e : Expr) (taken : List Sort) (s : Sort) (n : NestState)
      (q : Statements) (g : ℤ → source.Step B)
      → IsOf unit.constants entities sort.Int e → Holds entities n.cells.plain.variables
      → ((n' : NestState) (z : ℤ) → From (length taken) n n' → kept_in n' (length (lowered line taken e).scalars) ≡ scalar.Int z
      → FitsSigned w32 z
      → Agrees R (run unit.constants calls q n') (g z n'.cells.plain))
      → Agrees R (run unit.constants calls (joined (held line s (lowered line taken e)).parts q) n)
      ((integer unit scalls line [] e >>= g) n.cells.plain)
  integer_then R e taken s n q g h holds fine =
      rw (assoc (evaluate unit scalls line [] e) (λ v. pure (integer_of (only v))) g n.cells.plain)
      (parts_then unit.constants calls (Valued unit calls scalls line (length taken) (length (lowered line taken e).scalars)
      (sort_of_expr e) n) R
      (held line (sort_of_expr e) (lowered line taken e)).parts q (evaluate unit scalls line [] e)
      (λ v. (pure (integer_of (only v)) >>= g)) n n.cells.plain
      (held_as unit entities calls scalls line e taken n (prepared unit entities calls scalls line e h.1 taken n holds))
      (λ v n' r.
      let one : IsInt (kept_in n' (length (lowered line taken e).scalars)) = int_value
      (kept_in n' (length (lowered line taken e).scalars))
      (subst (λ w. HasSort w (kept_in n' (length (lowered line taken e).scalars))) h.0 r.typed) in
      rw (pure_integer g v one.number n'.cells.plain
      (only_is unit.constants calls scalls line v (kept_in n' (length (lowered line taken e).scalars)) r.alone ∙ one.is))
      (fine n' one.number r.from one.is one.fits)))

  -- ---- the step

  -- a tree has a value as long as the scalars between two numbers stay
  pub record StepAt (low high : ℕ) (t : Tree) (z : ℤ) (n : NestState) : Type 0 where
    pub there : (m : NestState) → ((j : ℕ) → low < j → j < high → kept_in m j ≡ kept_in n j) → Value' t z m

  not_zero : (k : ℕ) (t : Tree) (z : ℤ) (n : NestState) → Value' t z n
      → value unit.constants calls scalls line [] (nonzero t) n ≡ given line (Ok (scalar.Log (not (int_eq z (pos 0))))) n
  unfolding ◌>>=◌ goes_on given found pure
  not_zero k t z n h = rw h refl

  test_true : (t : Tree) (b : Bool) (n : NestState) → b ≡ true
      → value unit.constants calls scalls line [] t n ≡ given line (Ok (scalar.Log b)) n
      → acts unit.constants calls [] (Test line fault.ZeroStep t) n ≡ pure Next n
  unfolding ◌>>=◌ ◌>>◌ goes_on given within source.unless pure
  test_true t b n e h = rw h (rw e refl)

  test_false : (t : Tree) (b : Bool) (n : NestState) → b ≡ false
      → value unit.constants calls scalls line [] t n ≡ given line (Ok (scalar.Log b)) n
      → acts unit.constants calls [] (Test line fault.ZeroStep t) n ≡ stop (By (source.Faults fault.ZeroStep line)) n
  unfolding ◌>>=◌ ◌>>◌ goes_on given within source.unless stop pure
  test_false t b n e h = rw h (rw e refl)

  unless_true : {B : Type 0} (b : Bool) (g : source.Step B) (p : State) → b ≡ true
      → (source.unless b fault.ZeroStep line >> g) p ≡ g p
  unfolding ◌>>◌ goes_on source.unless pure
  unless_true b g p e = rw e refl

  unless_false : {B : Type 0} (b : Bool) (g : source.Step B) (p : State) → b ≡ false
      → (source.unless b fault.ZeroStep line >> g) p ≡ stop (source.Faults fault.ZeroStep line) p
  unfolding ◌>>◌ goes_on source.unless stop
  unless_false b g p e = rw e refl

  one_first : {B : Type 0} (g : ℤ → source.Step B) (p : State)
      → (pure (pos 1) >>= (λ s. (source.unless (not (int_eq s (pos 0))) fault.ZeroStep line >> g s))) p ≡ g (pos 1) p
  unfolding ◌>>=◌ ◌>>◌ goes_on pure source.unless
  one_first g p = refl

  after_test : {B : Type 0} (R : Flow → B → NestState → Type 0) (t : Tree) (z : ℤ) (n : NestState) (q : Statements)
      (g : source.Step B) → Value' t z n
      → (b : Bool) → not (int_eq z (pos 0)) ≡ b → (b ≡ true → Agrees R (run unit.constants calls q n) (g n.cells.plain))
      → Agrees R (run unit.constants calls (statement (Test line fault.ZeroStep (nonzero t)) q) n)
      ((source.unless (not (int_eq z (pos 0))) fault.ZeroStep line >> g) n.cells.plain)
  after_test R t z n q g h true e fine =
      rw (
        run_next unit.constants calls (Test line fault.ZeroStep (nonzero t)) q n n
            (test_true (nonzero t) (not (int_eq z (pos 0))) n e (not_zero 0 t z n h)),
        unless_true (not (int_eq z (pos 0))) g n.cells.plain e,
      ) (fine refl)
  after_test R t z n q g h false e fine =
      rw (
        run_halt unit.constants calls (Test line fault.ZeroStep (nonzero t)) q (By (source.Faults fault.ZeroStep line)) n n
            (test_false (nonzero t) (not (int_eq z (pos 0))) n e (not_zero 0 t z n h)),
        unless_false (not (int_eq z (pos 0))) g n.cells.plain e,
      )
      (agrees_stop R (source.Faults fault.ZeroStep line) n n.cells.plain refl)

  step_then : {B : Type 0} (R : Flow → B → NestState → Type 0) (b : Bound) (taken : List Sort) (low : ℕ) (n : NestState)
      (q : Statements) (g : ℤ → source.Step B)
      → low < length taken → IsBound unit.constants entities b → Holds entities n.cells.plain.variables
      → ((n' : NestState) (z : ℤ) → From (length taken) n n'
      → StepAt low (length (step_of line taken b).scalars) (step_of line taken b).tree z n' → FitsSigned w32 z
      → not (int_eq z (pos 0)) ≡ true → Agrees R (run unit.constants calls q n') (g z n'.cells.plain))
      → Agrees R (run unit.constants calls (joined (step_of line taken b).parts q) n)
      ((bound_or unit scalls line [] (pos 1) b >>= (λ s. (source.unless (not (int_eq s (pos 0))) fault.ZeroStep line >> g s)))
      n.cells.plain)
  step_then R Absent taken low n q g under h holds fine = rw (one_first g n.cells.plain)
      (fine n (pos 1) (from_here (length taken) n) (record { there = λ m same. number_int (pos 1) m }) (omega arith) refl)
  step_then R (Given e) taken low n q g under h holds fine =
      rw (joined_assoc (held line sort.Int (lowered line taken e)).parts
      (statement (Test line fault.ZeroStep (nonzero (Fixed (length (lowered line taken e).scalars)))) no_statement) q)
      (integer_then R e taken sort.Int n (statement (Test line fault.ZeroStep
      (nonzero (Fixed (length (lowered line taken e).scalars)))) q)
      (λ s. (source.unless (not (int_eq s (pos 0))) fault.ZeroStep line >> g s)) h holds
      (λ n' z from is fits. after_test R (Fixed (length (lowered line taken e).scalars)) z n' q (g z)
      (fixed_int (length (lowered line taken e).scalars) z n' is) (not (int_eq z (pos 0))) refl
      (λ e'. fine n' z from (record {
        there = λ m same. fixed_int (length (lowered line taken e).scalars) z m
            (same (length (lowered line taken e).scalars) (omega (arith, under, taken_grow line e taken))
            (omega (arith, taken_more (lowered line taken e).scalars sort.Int)) ∙ is);
      }) fits e')))

  -- ---- the count

  over_is : (x y : ℤ) → int_eq y (pos 0) ≡ false → in_64_bits (int_div x y) ≡ Some (scalar.Int (int_div x y))
      → exact_of exact.Over x y ≡ Some (scalar.Int (int_div x y))
  over_is x y h g = rw h g

  count_value : (f l s : ℤ) (first last step : Tree) (n : NestState) → Value' first f n → Value' last l n → Value' step s n
      → int_eq s (pos 0) ≡ false
      → Counts f l s → Value' (count_tree first last step) (pos (triplet_count f l s)) n
  count_value f l s first last step n hf hl hs nonzero c =
      let a : Value' (Exactly exact.Minus last first) (l -ℤ f) n =
      exact_two exact.Minus last first l f (scalar.Int (l -ℤ f)) n hl hf (in_64 (l -ℤ f) c.difference) in
      let b : Value' (Exactly exact.Plus (Exactly exact.Minus last first) step) ((l -ℤ f) +ℤ s) n =
      exact_two exact.Plus (Exactly exact.Minus last first) step (l -ℤ f) s (scalar.Int ((l -ℤ f) +ℤ s)) n a hs
      (in_64 ((l -ℤ f) +ℤ s) c.sum) in
      let q : Value' (Exactly exact.Over (Exactly exact.Plus (Exactly exact.Minus last first) step) step)
      (int_div ((l -ℤ f) +ℤ s) s) n =
      exact_two exact.Over (Exactly exact.Plus (Exactly exact.Minus last first) step) step ((l -ℤ f) +ℤ s) s
      (scalar.Int (int_div ((l -ℤ f) +ℤ s) s)) n b hs
      (over_is ((l -ℤ f) +ℤ s) s nonzero (in_64 (int_div ((l -ℤ f) +ℤ s) s) c.quotient)) in
      exact_two exact.Most (Exactly exact.Over (Exactly exact.Plus (Exactly exact.Minus last first) step) step) (Number (pos 0))
      (int_div ((l -ℤ f) +ℤ s) s) (pos 0)
      (scalar.Int (pos (triplet_count f l s))) n q (number_int (pos 0) n) (ap (λ z. Some (scalar.Int z)) c.most)

  -- ---- the turns

  calm_next : {A : Type 0} (p : Statements) (t : Step A) (n m : NestState) → run unit.constants calls p n ≡ pure Next m
      → (calmly (run unit.constants calls p) >> t) n ≡ t m
  unfolding ◌>>=◌ ◌>>◌ goes_on pure
  calm_next p t n m h = rw h refl

  abbrev entered : NestState → NestState
  entered n = record n { entries = suc n.entries }

  enter_then : {A : Type 0} (m : Step A) (n : NestState) → (enter >> m) n ≡ m (entered n)
  unfolding ◌>>◌ goes_on enter
  enter_then m n = refl

  test_then : {A : Type 0} (t : Tree) (b : Bool) (g : Bool → Step A) (n : NestState)
      → value unit.constants calls scalls line [] t n ≡ given line (Ok (scalar.Log b)) n
      → (truth unit.constants calls line [] t >>= g) n ≡ g b n
  unfolding ◌>>=◌ goes_on given pure
  test_then t b g n h = rw h refl

  below_value : (count turns : ℕ) (n : NestState) → kept_in n count ≡ scalar.Int (pos turns)
      → value unit.constants calls scalls line [] (Exactly exact.Below (Number (pos 0)) (Fixed count)) n ≡ given line
      (Ok (scalar.Log (int_lt (pos 0) (pos turns)))) n
  below_value count turns n h =
      exact_two exact.Below (Number (pos 0)) (Fixed count) (pos 0) (pos turns) (scalar.Log (int_lt (pos 0) (pos turns))) n
      (number_int (pos 0) n)
      (fixed_int count (pos turns) n h) refl

  store_then : {B : Type 0} (j : ℕ) (old x : Scalar) (g : source.Step B) (p : State)
      → (slice_index_or p.variables j no_variable).held ≡ Some (record { bounds = []; elements = old ∷ [] })
      → (source.store_one j x >> g) p ≡ g (plain_after p j old x)
  unfolding ◌>>◌ goes_on pure
  store_then j old x g p h = rw (store_one_is unit calls scalls line j old x p h) refl

  no_turn : (f g : source.Step Flow) (p : State) → p.left ≡ 0 → control.one_turn f g p ≡ stop source.OutOfTurns p
  unfolding ◌>>=◌ ◌>>◌ goes_on source.turn source.turn_from stop
  no_turn f g p h = rw h refl

  -- a turn, and nothing else
  record Turned (m l : NestState) : Type 0 where
    kept : (j : ℕ) → kept_in l j ≡ kept_in m j
    pending : l.pending ≡ m.pending
    variables : l.cells.plain.variables ≡ m.cells.plain.variables
    left : suc l.cells.plain.left ≡ m.cells.plain.left

  turn_only : (m : NestState) (left : ℕ) → m.cells.plain.left ≡ left
      → Agrees (λ a b l. Turned m l) (within source.turn m) (source.turn m.cells.plain)
  unfolding within source.turn source.turn_from pure stop
  turn_only m zero e = rw e (record { by = (refl, refl) })
  turn_only m (suc left) e = rw e (record {
    by = (
      refl,
      record
          { kept = λ j. refl; pending = refl; variables = refl; left = refl },
    );
  })

  behind_at : (k : ℕ) (n : NestState) (more : Step Flow) (more' : source.Step Flow) (flow : Flow) (m : NestState)
      → Goes entities k n m
      → Agrees (FlowR unit entities calls k n) (more m) (more' m.cells.plain)
      → Agrees (FlowR unit entities calls k n) (behind_turn flow more m) (control.behind_turn flow more' m.cells.plain)
  behind_at k n more more' Next m goes h = h
  behind_at k n more more' (Cycles zero) m goes h = h
  behind_at k n more more' (Cycles (suc out)) m goes h = agrees_pure (FlowR unit entities calls k n) (Cycles out) (Cycles out) m
      m.cells.plain refl (refl, goes)
  behind_at k n more more' (Exits zero) m goes h = agrees_pure (FlowR unit entities calls k n) Next Next m m.cells.plain refl
      (refl, goes)
  behind_at k n more more' (Exits (suc out)) m goes h = agrees_pure (FlowR unit entities calls k n) (Exits out) (Exits out) m
      m.cells.plain refl (refl, goes)
  behind_at k n more more' Returns m goes h = agrees_pure (FlowR unit entities calls k n) Returns Returns m m.cells.plain refl
      (refl, goes)

  module _ (j k valued count : ℕ) (over : k ≤ valued) (after : valued < count) (step : Tree) (s : ℤ)
      (there : sort_at entities j ≡ Some sort.Int)
      (body : Statements) (f : source.Step Flow) (runs : Runs unit entities calls (suc count) body f) where
    abbrev head_step : Step (Unit {0})
    head_step = calmly (run unit.constants calls (statement (store line j (Wrapped (Fixed valued))) no_statement))

    abbrev test_step : Step Bool
    test_step = truth unit.constants calls line [] (Exactly exact.Below (Number (pos 0)) (Fixed count))

    abbrev whole_body : Statements
    whole_body = statement (Set line count (Exactly exact.Minus (Fixed count) (Number (pos 1))))
        (statement (Set line valued (Exactly exact.Plus (Fixed valued) step)) body)

    -- the state of a loop that has so many turns to go, from this value on
    pub record At (turns : ℕ) (i : ℤ) (n : NestState) : Type 0 where
      pub now : kept_in n valued ≡ scalar.Int i
      pub left : kept_in n count ≡ scalar.Int (pos turns)
      pub steps : StepAt valued count step s n
      pub reach : unsigned_abs i + turns * unsigned_abs s ≤ 2 ^ 34
      pub small : turns ≤ 2 ^ 34
      pub holds : Holds entities n.cells.plain.variables
      pub pending : n.pending ≡ []

    one_at : (n : NestState) → Holds entities n.cells.plain.variables
        → HoldsOne sort.Int (slice_index_or n.cells.plain.variables j no_variable)
    one_at n holds = holds.holds j sort.Int there

    abbrev headed : (n : NestState) → HoldsOne sort.Int (slice_index_or n.cells.plain.variables j no_variable) → ℤ → NestState
    headed n one i = nest_after (entered n) j one.value (scalar.Int (wrapped i))

    round_at : (turns : ℕ) (i : ℤ) (n : NestState) (at : At turns i n) (one other : Step Flow)
        → (enter >> (head_step >> (test_step >>= (λ go. pick go one other)))) n
        ≡ pick (int_lt (pos 0) (pos turns)) one other (headed n (one_at n at.holds) i)
    round_at turns i n at one other =
        enter_then (head_step >> (test_step >>= (λ go. pick go one other))) n
        ∙ calm_next (statement (store line j (Wrapped (Fixed valued))) no_statement) (test_step >>= (λ go. pick go one other))
        (entered n) (headed n (one_at n at.holds) i)
        (run_next unit.constants calls (store line j (Wrapped (Fixed valued))) no_statement (entered n)
        (headed n (one_at n at.holds) i)
        (store_ok unit calls scalls line j (Wrapped (Fixed valued)) (one_at n at.holds).value (scalar.Int (wrapped i)) (entered n)
        (wrapped_int valued i (entered n) at.now) (one_at n at.holds).held)
        ∙ run_none unit.constants calls (headed n (one_at n at.holds) i))
        ∙ test_then (Exactly exact.Below (Number (pos 0)) (Fixed count)) (int_lt (pos 0) (pos turns)) (λ go. pick go one other)
        (headed n (one_at n at.holds) i)
        (below_value count turns (headed n (one_at n at.holds) i) at.left)

    headed_goes : (turns : ℕ) (i : ℤ) (n : NestState) (at : At turns i n) → Goes entities k n (headed n (one_at n at.holds) i)
    headed_goes turns i n at = record {
      kept = λ l below. refl;
      pending = at.pending;
      left = omega arith;
      holds = holds_after entities n.cells.plain.variables j sort.Int (scalar.Int (wrapped i)) at.holds there (one_at n at.holds)
          (wrapped_sort i);
    }

    abbrev goes_counted : ℕ → NestState → ℕ → NestState
    goes_counted count l turns = kept_at l count (scalar.Int (pos turns))

    minus_value : (turns : ℕ) (l : NestState) → kept_in l count ≡ scalar.Int (pos (suc turns)) → suc turns ≤ 2 ^ 34
        → Value' (Exactly exact.Minus (Fixed count) (Number (pos 1))) (pos turns) l
    minus_value turns l h small =
        let less : pos (suc turns) -ℤ pos 1 ≡ pos turns = omega (arith, ints) in
        exact_two exact.Minus (Fixed count) (Number (pos 1)) (pos (suc turns)) (pos 1) (scalar.Int (pos turns)) l
        (fixed_int count (pos (suc turns)) l h)
        (number_int (pos 1) l) (ap (λ z. in_64_bits z) less ∙ in_64 (pos turns) (omega (arith, small)))

    plus_value : (i : ℤ) (l : NestState) → kept_in l valued ≡ scalar.Int i → Value' step s l → unsigned_abs (i +ℤ s) ≤ 2 ^ 40
        → Value' (Exactly exact.Plus (Fixed valued) step) (i +ℤ s) l
    plus_value i l h g small =
        exact_two exact.Plus (Fixed valued) step i s (scalar.Int (i +ℤ s)) l (fixed_int valued i l h) g (in_64 (i +ℤ s) small)

    next_reach : (turns : ℕ) (i : ℤ) → unsigned_abs i + suc turns * unsigned_abs s ≤ 2 ^ 34
        → unsigned_abs (i +ℤ s) + turns * unsigned_abs s ≤ 2 ^ 34
    next_reach turns i h =
        let sum : unsigned_abs (i +ℤ s) ≤ unsigned_abs i + unsigned_abs s = abs_add i s in
        let product : suc turns * unsigned_abs s ≡ turns * unsigned_abs s + unsigned_abs s = suc-mul turns (unsigned_abs s) in
        omega (arith, h, sum, product)

    abbrev next_state : NestState → ℕ → ℤ → NestState
    next_state l turns i = kept_at (kept_at l count (scalar.Int (pos turns))) valued (scalar.Int (i +ℤ s))

    -- the two sets before the body
    whole_body_is : (turns : ℕ) (i : ℤ) (n l : NestState) → At (suc turns) i n → ((x : ℕ) → kept_in l x ≡ kept_in n x)
        → run unit.constants calls whole_body l ≡ run unit.constants calls body (next_state l turns i)
    whole_body_is turns i n l at same =
        let first : NestState = kept_at l count (scalar.Int (pos turns)) in
        run_next unit.constants calls (Set line count (Exactly exact.Minus (Fixed count) (Number (pos 1))))
        (statement (Set line valued (Exactly exact.Plus (Fixed valued) step)) body)
        l first (set_ok unit.constants calls scalls line count (Exactly exact.Minus (Fixed count) (Number (pos 1)))
        (scalar.Int (pos turns)) l
        (minus_value turns l (same count ∙ at.left) at.small))
        ∙ run_next unit.constants calls (Set line valued (Exactly exact.Plus (Fixed valued) step)) body first (next_state l turns i)
        (set_ok unit.constants calls scalls line valued (Exactly exact.Plus (Fixed valued) step) (scalar.Int (i +ℤ s)) first
        (plus_value i first (set_other l.cells.temps.setting.kept count valued (scalar.Int (pos turns))
        (λ e. absurd (omega (arith, e, after))) ∙ same valued ∙ at.now)
        (at.steps.there first (λ x low high. set_other l.cells.temps.setting.kept count x (scalar.Int (pos turns))
        (λ e. absurd (omega (arith, e, high))) ∙ same x))
        (omega (arith, next_reach turns i at.reach))))

    next_at : (turns : ℕ) (i : ℤ) (n l m : NestState) → At (suc turns) i n → ((x : ℕ) → kept_in l x ≡ kept_in n x)
        → Goes entities (suc count) (next_state l turns i) m → At turns (i +ℤ s) m
    next_at turns i n l m at same goes = record {
      now = goes.kept valued (omega (arith, after)) ∙ set_here (kept_at l count (scalar.Int (pos turns))).cells.temps.setting.kept
          valued (scalar.Int (i +ℤ s));
      left = goes.kept count (omega arith)
          ∙ set_other (kept_at l count (scalar.Int (pos turns))).cells.temps.setting.kept valued count (scalar.Int (i +ℤ s))
          (λ e. absurd (omega (arith, e, after)))
          ∙ set_here l.cells.temps.setting.kept count (scalar.Int (pos turns));
      steps = record {
        there = λ w stays. at.steps.there w (λ x low high. stays x low high ∙ goes.kept x (omega (arith, high))
            ∙ set_other (kept_at l count (scalar.Int (pos turns))).cells.temps.setting.kept valued x (scalar.Int (i +ℤ s))
            (λ e. absurd (omega (arith, e, low)))
            ∙ set_other l.cells.temps.setting.kept count x (scalar.Int (pos turns)) (λ e. absurd (omega (arith, e, high)))
            ∙ same x);
      };
      reach = next_reach turns i at.reach;
      small = omega (arith, at.small);
      holds = goes.holds;
      pending = goes.pending;
    }

    -- from the state before the body on, no scalar below is touched
    goes_next : (turns : ℕ) (i : ℤ) (n m l l' : NestState) → Goes entities k n m → Turned m l
        → Goes entities (suc count) (next_state l turns i) l' → Goes entities k n l'
    goes_next turns i n m l l' goes turned after_body = record {
      kept = λ x below. after_body.kept x (omega (arith, below, over, after))
          ∙ set_other (kept_at l count (scalar.Int (pos turns))).cells.temps.setting.kept valued x (scalar.Int (i +ℤ s))
          (λ e. absurd (omega (arith, e, below, over)))
          ∙ set_other l.cells.temps.setting.kept count x (scalar.Int (pos turns))
          (λ e. absurd (omega (arith, e, below, over, after)))
          ∙ turned.kept x ∙ goes.kept x below;
      pending = after_body.pending;
      left = omega (arith, after_body.left, turned.left, goes.left);
      holds = after_body.holds;
    }

    turn_at : (turns : ℕ) (i : ℤ) (n : NestState) (at : At (suc turns) i n) (more : Step Flow) (more' : source.Step Flow)
        → ((m : NestState) → suc m.cells.plain.left ≤ n.cells.plain.left → At turns (i +ℤ s) m
        → Agrees (FlowR unit entities calls k m) (more m) (more' m.cells.plain))
        → Agrees (FlowR unit entities calls k n) (one_turn (run unit.constants calls whole_body) more
        (headed n (one_at n at.holds) i))
        (control.one_turn f more' (headed n (one_at n at.holds) i).cells.plain)
    turn_at turns i n at more more' again =
        let m : NestState = headed n (one_at n at.holds) i in
        let goes : Goes entities k n m = headed_goes (suc turns) i n at in
        rw (
          value_unread (within source.turn) (run unit.constants calls whole_body >>= (λ flow. behind_turn flow more)) m,
          value_unread source.turn (f >>= (λ flow. control.behind_turn flow more')) m.cells.plain,
        )
        (agrees_then (λ a b l. Turned m l) (FlowR unit entities calls k n) (within source.turn) source.turn
        (λ a. (run unit.constants calls whole_body >>= (λ flow. behind_turn flow more)))
        (λ a. (f >>= (λ flow. control.behind_turn flow more'))) m m.cells.plain
        (turn_only m m.cells.plain.left refl)
        (λ a b l t. agrees_then (FlowR unit entities calls (suc count) (next_state l turns i)) (FlowR unit entities calls k n)
        (run unit.constants calls whole_body) f (λ flow. behind_turn flow more) (λ flow. control.behind_turn flow more') l
        l.cells.plain
        (rw (whole_body_is turns i n l at (λ x. t.kept x))
        (runs.runs (next_state l turns i) (subst (λ vs. Holds entities vs) (sym t.variables) goes.holds)
        (t.pending ∙ goes.pending)))
        (λ flow flow' l' r. rw (sym r.0) (behind_at k n more more' flow l' (goes_next turns i n m l l' goes t r.1)
        (flow_then unit entities calls k k n l' (more l') (more' l'.cells.plain) (omega arith)
        (goes_next turns i n m l l' goes t r.1)
        (again l' (omega (arith, r.1.left, t.left, goes.left)) (next_at turns i n l l' at (λ x. t.kept x) r.1)))))))

    -- no turn, or one and the others
    loop_ends : (i : ℤ) (n : NestState) (at : At zero i n) (one : Step Flow)
        → Agrees (FlowR unit entities calls k n) ((enter >> (head_step >> (test_step >>= (λ go. pick go one (pure Next))))) n)
        ((source.store_one j (scalar.Int (wrapped i)) >> pure Next) n.cells.plain)
    unfolding pick
    loop_ends i n at one = rw (
      round_at zero i n at one (pure Next),
      store_then j (one_at n at.holds).value (scalar.Int (wrapped i)) (pure Next) n.cells.plain (one_at n at.holds).held,
    )
        (agrees_pure (FlowR unit entities calls k n) Next Next (headed n (one_at n at.holds) i)
        (headed n (one_at n at.holds) i).cells.plain refl
        (refl, headed_goes zero i n at))

    loop_goes : (turns : ℕ) (i : ℤ) (n : NestState) (at : At (suc turns) i n) (one : Step Flow) (g : source.Step Flow)
        → Agrees (FlowR unit entities calls k n) (one (headed n (one_at n at.holds) i))
        (g (headed n (one_at n at.holds) i).cells.plain)
        → Agrees (FlowR unit entities calls k n) ((enter >> (head_step >> (test_step >>= (λ go. pick go one (pure Next))))) n)
        ((source.store_one j (scalar.Int (wrapped i)) >> g) n.cells.plain)
    unfolding pick
    loop_goes turns i n at one g h =
        let more : int_lt (pos 0) (pos (suc turns)) ≡ true = lt_true (pos 0) (pos (suc turns)) (omega (arith, ints)) in
        rw (
          round_at (suc turns) i n at one (pure Next),
          more,
          store_then j (one_at n at.holds).value (scalar.Int (wrapped i)) g n.cells.plain (one_at n at.holds).held,
        ) h

    waits_at : (turns : ℕ) (i : ℤ) (n : NestState) (at : At (suc turns) i n) (g : source.Step Flow) → n.cells.plain.left ≡ 0
        → Agrees (FlowR unit entities calls k n) (stop (By source.OutOfTurns) (headed n (one_at n at.holds) i))
        (control.one_turn f g (headed n (one_at n at.holds) i).cells.plain)
    waits_at turns i n at g e = rw (no_turn f g (headed n (one_at n at.holds) i).cells.plain e)
        (agrees_stop (FlowR unit entities calls k n) source.OutOfTurns (headed n (one_at n at.holds) i)
        (headed n (one_at n at.holds) i).cells.plain refl)

    loop_agrees : (fuel turns : ℕ) (i : ℤ) (n : NestState) → n.cells.plain.left ≤ fuel → At turns i n
        → Agrees (FlowR unit entities calls k n) (rounds fuel head_step test_step (run unit.constants calls whole_body) n)
        (control.counted j turns i s f n.cells.plain)
    unfolding rounds control.counted
    loop_agrees zero zero i n enough at = loop_ends i n at (stop (By source.OutOfTurns))
    loop_agrees (suc fuel) zero i n enough at = loop_ends i n at
        (one_turn (run unit.constants calls whole_body) (rounds fuel head_step test_step (run unit.constants calls whole_body)))
    loop_agrees zero (suc turns) i n enough at = loop_goes turns i n at (stop (By source.OutOfTurns))
        (control.one_turn f (control.counted j turns (i +ℤ s) s f))
        (waits_at turns i n at (control.counted j turns (i +ℤ s) s f) (omega (arith, enough)))
    loop_agrees (suc fuel) (suc turns) i n enough at =
        loop_goes turns i n at (one_turn (run unit.constants calls whole_body)
        (rounds fuel head_step test_step (run unit.constants calls whole_body)))
        (control.one_turn f (control.counted j turns (i +ℤ s) s f))
        (turn_at turns i n at (rounds fuel head_step test_step (run unit.constants calls whole_body))
        (control.counted j turns (i +ℤ s) s f)
        (λ m less at'. loop_agrees fuel turns (i +ℤ s) m (omega (arith, enough, less)) at'))

    while_acts : (n : NestState) → acts unit.constants calls [] (counting line j valued count step body) n
        ≡ rounds n.cells.plain.left head_step test_step (run unit.constants calls whole_body) n
    unfolding turns_left
    while_acts n = refl

    pub counting_agrees : (turns : ℕ) (i : ℤ) (n : NestState) → At turns i n
        → Agrees (FlowR unit entities calls k n) (run unit.constants calls
        (statement (counting line j valued count step body) no_statement) n)
        (control.counted j turns i s f n.cells.plain)
    counting_agrees turns i n at = rw (run_only unit.constants calls (counting line j valued count step body) n, while_acts n)
        (loop_agrees n.cells.plain.left turns i n (omega arith) at)

  not_true : (b : Bool) → not b ≡ true → b ≡ false
  not_true true h = absurd (both_ways false refl h)
  not_true false h = refl

  module _ (j : ℕ) (first last : Expr) (step : Bound) (taken : List Sort) (body : List Sort → LoweredList) (f : source.Step Flow)
      (there : sort_at entities j ≡ Some sort.Int) (h1 : IsOf unit.constants entities sort.Int first)
      (h2 : IsOf unit.constants entities sort.Int last)
      (h3 : IsBound unit.constants entities step) (runs : (more : List Sort)
      → Runs unit entities calls (length more) (body more).list f) where
    abbrev k : ℕ
    k = length taken

    abbrev valued : ℕ
    valued = length (lowered line taken first).scalars

    abbrev behind_first : List Sort
    behind_first = (lowered line taken first).scalars ++ sort.Exact ∷ []

    abbrev lasted : ℕ
    lasted = length (lowered line behind_first last).scalars

    abbrev behind_last : List Sort
    behind_last = (lowered line behind_first last).scalars ++ sort.Int ∷ []

    abbrev step_tree : Tree
    step_tree = (step_of line behind_last step).tree

    abbrev count : ℕ
    count = length (step_of line behind_last step).scalars

    abbrev behind_count : List Sort
    behind_count = (step_of line behind_last step).scalars ++ sort.Exact ∷ []

    abbrev loop : Statement
    loop = counting line j valued count step_tree (body behind_count).list

    abbrev set_count : Statement
    set_count = Set line count (count_tree (Fixed valued) (Fixed lasted) step_tree)

    first_up : length behind_first ≡ suc valued
    first_up = taken_more (lowered line taken first).scalars sort.Exact

    last_up : length behind_last ≡ suc lasted
    last_up = taken_more (lowered line behind_first last).scalars sort.Int

    count_up : length behind_count ≡ suc count
    count_up = taken_more (step_of line behind_last step).scalars sort.Exact

    valued_up : k ≤ valued
    valued_up = taken_grow line first taken

    lasted_up : length behind_first ≤ lasted
    lasted_up = taken_grow line last behind_first

    step_up : length behind_last ≤ count
    step_up = step_grow line step behind_last

    counted_then : (n n1 n2 n3 : NestState) (x y s : ℤ) → Holds entities n.cells.plain.variables → n.pending ≡ [] → From k n n1
        → kept_in n1 valued ≡ scalar.Int x → FitsSigned w32 x → From (length behind_first) n1 n2
        → kept_in n2 lasted ≡ scalar.Int y → FitsSigned w32 y
        → From (length behind_last) n2 n3 → StepAt valued count step_tree s n3 → FitsSigned w32 s → not (int_eq s (pos 0)) ≡ true
        → Agrees (FlowR unit entities calls k n) (run unit.constants calls (statement set_count (statement loop no_statement)) n3)
        (control.counted j (triplet_count x y s) x s f n3.cells.plain)
    counted_then n n1 n2 n3 x y s holds pending from1 is1 fits1 from2 is2 fits2 from3 at3 fits3 nonzero =
        let c : Counts x y s = counts x y s fits1 fits2 fits3 in
        let is_x : kept_in n3 valued ≡ scalar.Int x =
        from3.kept valued (omega (arith, first_up, lasted_up, last_up)) ∙ from2.kept valued (omega (arith, first_up)) ∙ is1 in
        let is_y : kept_in n3 lasted ≡ scalar.Int y = from3.kept lasted (omega (arith, last_up)) ∙ is2 in
        let turns : ℕ = triplet_count x y s in
        let n4 : NestState = kept_at n3 count (scalar.Int (pos turns)) in
        let from : From k n n3 = from_then k (length behind_last) n n2 n3 (omega (arith, valued_up, first_up, lasted_up, last_up))
        (from_then k (length behind_first) n n1 n2 (omega (arith, valued_up, first_up)) from1 from2) from3 in
        let goes : Goes entities k n n4 = goes_from unit entities calls k n n4 holds pending
        (from_then k k n n3 n4 (omega arith) from (from_kept k count n3 (scalar.Int (pos turns))
        (omega (arith, valued_up, first_up, lasted_up, last_up, step_up)))) in
        rw (run_next unit.constants calls set_count (statement loop no_statement) n3 n4
        (set_ok unit.constants calls scalls line count (count_tree (Fixed valued) (Fixed lasted) step_tree)
        (scalar.Int (pos turns)) n3
        (count_value x y s (Fixed valued) (Fixed lasted) step_tree n3 (fixed_int valued x n3 is_x) (fixed_int lasted y n3 is_y)
        (at3.there n3 (λ i low high. refl)) (not_true (int_eq s (pos 0)) nonzero) c)))
        (flow_then unit entities calls k k n n4 (run unit.constants calls (statement loop no_statement) n4)
        (control.counted j turns x s f n4.cells.plain) (omega arith) goes
        (counting_agrees j k valued count valued_up (omega (arith, first_up, lasted_up, last_up, step_up)) step_tree s there
        (body behind_count).list f
        (subst (λ i. Runs unit entities calls i (body behind_count).list f) count_up (runs behind_count)) turns x n4
        (record {
          now = set_other n3.cells.temps.setting.kept count valued (scalar.Int (pos turns))
              (λ e. absurd (omega (arith, e, first_up, lasted_up, last_up, step_up))) ∙ is_x;
          left = set_here n3.cells.temps.setting.kept count (scalar.Int (pos turns));
          steps = record {
            there = λ m same. at3.there m (λ i low high. same i low high
                ∙ set_other n3.cells.temps.setting.kept count i (scalar.Int (pos turns)) (λ e. absurd (omega (arith, e, high))));
          };
          reach = c.reach;
          small = c.small;
          holds = goes.holds;
          pending = goes.pending;
        })))

    pub runs_do : Runs unit entities calls k
        (first_then line j (lowered line taken first) (λ more. held line sort.Int (lowered line more last))
        (λ more. step_of line more step) body).list
        (integer unit scalls line [] first >>= (λ x. (integer unit scalls line [] last >>=
        (λ y. (bound_or unit scalls line [] (pos 1) step
        >>= (λ s. (source.unless (not (int_eq s (pos 0))) fault.ZeroStep line >> control.counted j (triplet_count x y s) x s
        f)))))))
    runs_do = record {
      runs = λ n holds pending.
          integer_then (FlowR unit entities calls k n) first taken sort.Exact n
          (joined (held line sort.Int (lowered line behind_first last)).parts
          (joined (step_of line behind_last step).parts (statement set_count (statement loop no_statement))))
          (λ x. (integer unit scalls line [] last >>= (λ y. (bound_or unit scalls line [] (pos 1) step
          >>= (λ s. (source.unless (not (int_eq s (pos 0))) fault.ZeroStep line >> control.counted j (triplet_count x y s) x s
          f)))))) h1 holds
          (λ n1 x from1 is1 fits1. integer_then (FlowR unit entities calls k n) last behind_first sort.Int n1
          (joined (step_of line behind_last step).parts (statement set_count (statement loop no_statement)))
          (λ y. (bound_or unit scalls line [] (pos 1) step
          >>= (λ s. (source.unless (not (int_eq s (pos 0))) fault.ZeroStep line >> control.counted j (triplet_count x y s) x s
          f)))) h2
          (holds_from entities k n n1 from1 holds)
          (λ n2 y from2 is2 fits2. step_then (FlowR unit entities calls k n) step behind_last valued n2
          (statement set_count (statement loop no_statement))
          (λ s. control.counted j (triplet_count x y s) x s f) (omega (arith, first_up, lasted_up, last_up)) h3
          (holds_from entities (length behind_first) n1 n2 from2 (holds_from entities k n n1 from1 holds))
          (λ n3 s from3 at3 fits3 nonzero. counted_then n n1 n2 n3 x y s holds pending from1 is1 fits1 from2 is2 fits2 from3 at3
          fits3 nonzero)));
    }
