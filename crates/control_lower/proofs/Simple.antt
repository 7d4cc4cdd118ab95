-- Assignments, IF with one branch, and PRINT.
use Rattle.std.proofs.Common.{◌≡◌, refl, sym, ap, subst, ◌∙◌, ℕ, ◌≤◌, arith, Bool, true, false, List, [], ◌∷◌, ◌++◌, append_assoc}
use Rattle.std.proofs.Common.{append-nil}
use Rattle.std.specs.Prelude.{Some, None, Result, Ok, Err, length, slice_index_or}
use Rattle.a95_base.specs.declared.fault.FaultKind.{FaultKind}
use Rattle.a95_base.specs.declared.scalar.Scalar.{Scalar}
use Rattle.a95_base.specs.Lists.{Every}
use Rattle.a95_base.specs.Steps.{pure, stop, behind as goes_on, ◌>>=◌, ◌>>◌}
use Rattle.a95_base.proofs.Steps.{assoc}
use Rattle.f95_unit.specs.Plain.{Program, Entity, Expr, Designator, at, Whole, Subscripted, AllOf, BytesOf, Assign}
use Rattle.array_meaning.specs.Values.{Value, truth_of, only}
use Rattle.array_meaning.specs.State as source
use Rattle.array_meaning.specs.State.{State, no_variable}
use Rattle.array_meaning.specs.Trees as trees
use Rattle.array_meaning.specs.Expressions.{prepare, evaluate, truth as source_truth}
use Rattle.array_meaning.specs.Assignments.{assigned}
use Rattle.array_meaning.specs.InputOutput.{record_of, printed, prints}
use Rattle.array_meaning.specs.Control.{Flow, Next}
use Rattle.nest_tree.specs.declared.unit.Sort.{Sort}
use Rattle.nest_tree.specs.Plain.{Tree, Statements, no_statement, statement, joined, If, Put, Write}
use Rattle.nest_tree.specs.State.{NestState, By, given, pick, with_written, joins, writes}
use Rattle.nest_tree.specs.Statements.{Caller, acts}
use Rattle.control_lower.specs.Trees.{sort_at, sort_of_expr, lowered}
use Rattle.control_lower.specs.Units.{store, stored, items}
use Rattle.control_lower.proofs.Agree.{assoc_next, Agrees, agrees_pure, agrees_stop, agrees_weak, run, parts_then, run_next}
use Rattle.control_lower.proofs.Agree.{run_halt, run_only}
use Rattle.control_lower.proofs.Stands.{HasSort, Holds, HoldsOne, From, from_here, later_of, value}
use Rattle.control_lower.proofs.Operators.{only_is}
use Rattle.control_lower.proofs.Parts.{Prepared, prepared, taken_grow, holds_from}
use Rattle.control_lower.proofs.Stores.{nest_after, plain_after, holds_after, store_ok, store_err, rest_of, rest_ok, rest_err}
use Rattle.control_lower.proofs.Tests.{evaluated_then, if_ok, if_err}
use Rattle.control_lower.proofs.Runs.{Goes, FlowR, Runs, goes_from, flow_then}
use Rattle.control_lower.proofs.Premises.{IsScalar, IsStore}

module _ (unit : Program) (entities : List Entity) (calls : Caller) (scalls : trees.Caller) where
  -- ---- assignments

  module _ (line j : ℕ) (k k' : ℕ) (s : Sort) (n : NestState) (holds : Holds entities n.cells.plain.variables)
      (pending : n.pending ≡ [])
      (there : sort_at entities j ≡ Some s) (t : Tree) where
    stored_by : (u : trees.Tree) (n' : NestState) → From k n n' → trees.shape u ≡ Ok []
        → (one : HoldsOne s (slice_index_or n'.cells.plain.variables j no_variable)) → (r : Result Scalar FaultKind)
        → value unit.constants calls scalls line [] t n' ≡ given line r n'
        → trees.element scalls line u 0 n'.cells.plain ≡ source.given line r n'.cells.plain
        → ((x : Scalar) → r ≡ Ok x → HasSort s x)
        → Agrees (FlowR unit entities calls k n) (run unit.constants calls (statement (store line j t) no_statement) n')
        ((rest_of unit calls scalls line j u >> pure Next) n'.cells.plain)
    stored_by u n' from shape one (Ok x) e h sorted =
        rw (
          run_only unit.constants calls (store line j t) n',
          store_ok unit calls scalls line j t one.value x n' e one.held,
          rest_ok unit calls scalls line j u one.value x n'.cells.plain shape h one.held,
        )
        (agrees_pure (FlowR unit entities calls k n) Next Next (nest_after n' j one.value x)
        (plain_after n'.cells.plain j one.value x) refl (
          refl,
          record {
            kept = from.kept;
            pending = from.pending ∙ pending;
            left = (goes_from unit entities calls k n n' holds pending from).left;
            holds = holds_after entities n'.cells.plain.variables j s x (holds_from entities k n n' from holds) there one
                (sorted x refl);
          },
        ))
    stored_by u n' from shape one (Err kind) e h sorted =
        rw (
          run_only unit.constants calls (store line j t) n',
          store_err unit calls scalls line j t one.value kind n' e one.held,
          rest_err unit calls scalls line j u one.value kind n'.cells.plain shape h one.held,
        )
        (agrees_stop (FlowR unit entities calls k n) (source.Faults kind line) n' n'.cells.plain refl)

    stored_prepared : (u : trees.Tree) (n' : NestState) → Prepared unit calls scalls line k k' s n t u n'
        → Agrees (FlowR unit entities calls k n) (run unit.constants calls (statement (store line j t) no_statement) n')
        ((rest_of unit calls scalls line j u >> pure Next) n'.cells.plain)
    stored_prepared u n' r = stored_by u n' r.from r.stands.shape ((holds_from entities k n n' r.from holds).holds j s there)
        r.stands.result
        (r.stands.nest [] n' (later_of k' k' n' n' (omega arith) (from_here k' n'))) (r.stands.source 0 n'.cells.plain)
        r.stands.typed

  stores_scalar : (line j : ℕ) (e : Expr) (taken : List Sort) (d : Designator) → sort_at entities j ≡ Some (sort_of_expr e)
      → IsScalar unit.constants entities e
      → Runs unit entities calls (length taken) (joined (lowered line taken e).parts
      (statement (store line j (lowered line taken e).tree) no_statement))
      ((prepare unit scalls line [] e >>= (λ u. rest_of unit calls scalls line j u)) >> pure Next)
  stores_scalar line j e taken d there h = record {
    runs = λ n holds pending. rw (assoc_next (λ u. rest_of unit calls scalls line j u) (pure Next) (prepare unit scalls line [] e)
        n.cells.plain)
        (parts_then unit.constants calls
        (Prepared unit calls scalls line (length taken) (length (lowered line taken e).scalars) (sort_of_expr e) n
        (lowered line taken e).tree)
        (FlowR unit entities calls (length taken) n) (lowered line taken e).parts
        (statement (store line j (lowered line taken e).tree) no_statement)
        (prepare unit scalls line [] e) (λ u. (rest_of unit calls scalls line j u >> pure Next)) n n.cells.plain
        (prepared unit entities calls scalls line e h taken n holds)
        (λ u n' r. stored_prepared line j (length taken) (length (lowered line taken e).scalars) (sort_of_expr e) n holds pending
        there
        (lowered line taken e).tree u n' r));
  }

  pub runs_assign : (a : Assign) (d : Designator) (taken : List Sort) → a.target.designator ≡ d
      → IsStore unit.constants entities d a.value
      → Runs unit entities calls (length taken) (stored a.line d (lowered a.line taken a.value)).list
      (assigned unit scalls None a >> pure Next)
  runs_assign a (at j Whole AllOf) taken e h = rw e (stores_scalar a.line j a.value taken (at j Whole AllOf) h.0 h.1)
  runs_assign a (at j Whole (BytesOf first last)) taken e h = absurd h
  runs_assign a (at j (Subscripted ss) part) taken e h = absurd h

  -- ---- IF with one branch

  pick_choice : (k ka kb : ℕ) (n m : NestState) (a b : Statements) (f g : source.Step Flow) → k ≤ ka → k ≤ kb
      → Runs unit entities calls ka a f → Runs unit entities calls kb b g → Goes entities k n m → (t : Bool)
      → Agrees (FlowR unit entities calls k n) (pick t (run unit.constants calls a) (run unit.constants calls b) m)
      (source.choose t f g m.cells.plain)
  unfolding pick source.choose
  pick_choice k ka kb n m a b f g up up' h h' goes true =
      flow_then unit entities calls k ka n m (run unit.constants calls a m) (f m.cells.plain) up goes
      (h.runs m goes.holds goes.pending)
  pick_choice k ka kb n m a b f g up up' h h' goes false =
      flow_then unit entities calls k kb n m (run unit.constants calls b m) (g m.cells.plain) up' goes
      (h'.runs m goes.holds goes.pending)

  pub choice_is : {B : Type 0} (f g : source.Step B) (v : Value) (x : Scalar) (p : State) → only v ≡ x
      → (pure (truth_of (only v)) >>= (λ t. source.choose t f g)) p ≡ source.choose (truth_of x) f g p
  unfolding ◌>>=◌ goes_on pure
  choice_is f g v x p h = rw h refl

  pub runs_if : (line : ℕ) (e : Expr) (taken : List Sort) (ka kb : ℕ) (a b : Statements) (f g : source.Step Flow)
      → IsScalar unit.constants entities e → length taken ≤ ka → length taken ≤ kb → Runs unit entities calls ka a f
      → Runs unit entities calls kb b g
      → Runs unit entities calls (length taken) (joined (lowered line taken e).parts
      (statement (If line (lowered line taken e).tree a b) no_statement))
      (source_truth unit scalls line [] e >>= (λ t. source.choose t f g))
  runs_if line e taken ka kb a b f g h up up' ra rb = record {
    runs = λ n holds pending. rw (assoc (evaluate unit scalls line [] e) (λ v. pure (truth_of (only v)))
        (λ t. source.choose t f g) n.cells.plain)
        (evaluated_then unit calls scalls line (FlowR unit entities calls (length taken) n) entities e taken n
        (statement (If line (lowered line taken e).tree a b) no_statement)
        (λ v. (pure (truth_of (only v)) >>= (λ t. source.choose t f g)))
        (prepared unit entities calls scalls line e h taken n holds)
        (λ n' x v came alone. rw (
          run_only unit.constants calls (If line (lowered line taken e).tree a b) n',
          if_ok unit calls scalls line (lowered line taken e).tree x a b n' came.is,
          choice_is f g v x n'.cells.plain (only_is unit.constants calls scalls line v x alone),
        )
        (pick_choice (length taken) ka kb n n' a b f g up up' ra rb
        (goes_from unit entities calls (length taken) n n' holds pending came.from) (truth_of x)))
        (λ n' kind e'. run_only unit.constants calls (If line (lowered line taken e).tree a b) n'
        ∙ if_err unit calls scalls line (lowered line taken e).tree kind a b n' e'));
  }

  -- ---- PRINT

  abbrev record_step : List Scalar → List Scalar → source.Step Flow
  record_step before xs = source.put (record_of (before ++ xs)) >> pure Next

  more_by : (came : Result (List Scalar) source.Halt) (s : State) (ys before : List Scalar) (x : Scalar)
      → goes_on (record_step before) (goes_on (λ xs. pure (x ∷ xs)) came s).came (goes_on (λ xs. pure (x ∷ xs)) came s).after
      ≡ goes_on (λ xs. record_step (before ++ x ∷ []) xs) came s
  unfolding goes_on pure
  more_by (Ok xs) s ys before x = ap (λ zs. (source.put (record_of zs) >> pure Next) s) (sym (append_assoc before (x ∷ []) xs))
  more_by (Err halt) s ys before x = refl

  record_more : (line : ℕ) (more : List Expr) (before : List Scalar) (v : Value) (x : Scalar) (p : State) → v.elements ≡ x ∷ []
      → ((printed unit scalls line more >>= (λ xs. pure (v.elements ++ xs))) >>= record_step before) p
      ≡ (printed unit scalls line more >>= record_step (before ++ x ∷ [])) p
  unfolding ◌>>=◌
  record_more line more before v x p h = rw h (more_by (printed unit scalls line more p).came
      (printed unit scalls line more p).after [] before x)

  record_more_at : (line : ℕ) (more : List Expr) (before now : List Scalar) (v : Value) (x : Scalar) (p : State)
      → v.elements ≡ x ∷ [] → now ≡ before
      → ((printed unit scalls line more >>= (λ xs. pure (v.elements ++ xs))) >>= record_step before) p
      ≡ (printed unit scalls line more >>= record_step (now ++ x ∷ [])) p
  record_more_at line more before now v x p h same = record_more line more before v x p h
      ∙ ap (λ zs. (printed unit scalls line more >>= record_step (zs ++ x ∷ [])) p) (sym same)

  abbrev pending_more : NestState → Scalar → NestState
  pending_more n x = record n { pending = n.pending ++ x ∷ [] }

  put_ok : (line : ℕ) (t : Tree) (x : Scalar) (n : NestState) → value unit.constants calls scalls line [] t n ≡ given line (Ok x) n
      → acts unit.constants calls [] (Put line t) n ≡ pure Next (pending_more n x)
  unfolding ◌>>=◌ ◌>>◌ goes_on given joins pure
  put_ok line t x n h = rw h refl

  put_err : (line : ℕ) (t : Tree) (kind : FaultKind) (n : NestState)
      → value unit.constants calls scalls line [] t n ≡ given line (Err kind) n
      → acts unit.constants calls [] (Put line t) n ≡ stop (By (source.Faults kind line)) n
  unfolding ◌>>=◌ ◌>>◌ goes_on given joins stop
  put_err line t kind n h = rw h refl

  abbrev written_now : NestState → NestState
  written_now n = record n { cells = with_written n.cells (record_of n.pending); pending = [] }

  write_acts : (n : NestState) → acts unit.constants calls [] Write n ≡ pure Next (written_now n)
  unfolding ◌>>◌ goes_on writes pure
  write_acts n = refl

  no_more : (line : ℕ) (before : List Scalar) (p : State)
      → (printed unit scalls line [] >>= record_step before) p ≡ pure Next (record p { written = p.written ++ record_of before })
  unfolding printed ◌>>=◌ ◌>>◌ goes_on source.put pure
  no_more line before p = ap (λ zs. pure Next (record p { written = p.written ++ record_of zs })) (append-nil before)

  goes_on_from : (k k' : ℕ) (n n' m l : NestState) → k ≤ k' → From k n n' → m.cells ≡ n'.cells → Goes entities k' m l
      → Goes entities k n l
  goes_on_from k k' n n' m l up from same goes = record {
    kept = λ j below. goes.kept j (omega (arith, below, up)) ∙ ap (λ c. c.temps.setting.kept j) same ∙ from.kept j below;
    pending = goes.pending;
    left = omega (
      arith,
      goes.left,
      subst (λ c. c.plain.left ≤ n.cells.plain.left) (sym same)
          (subst (λ p. p.left ≤ n.cells.plain.left) (sym from.plain) (omega arith)),
    );
    holds = goes.holds;
  }

  first_printed : (line : ℕ) (e : Expr) (more : List Expr) (before : List Scalar) (p : State)
      → (printed unit scalls line (e ∷ more) >>= record_step before) p
      ≡ (evaluate unit scalls line [] e >>= (λ v. ((printed unit scalls line more >>= (λ xs. pure (v.elements ++ xs))) >>=
      record_step before))) p
  unfolding printed
  first_printed line e more before p =
      assoc (evaluate unit scalls line [] e) (λ v. (printed unit scalls line more >>= (λ xs. pure (v.elements ++ xs))))
      (record_step before) p

  prints_from : (line : ℕ) (es : List Expr) (taken : List Sort) → Every (λ e. IsScalar unit.constants entities e) es
      → (n : NestState)
      → Holds entities n.cells.plain.variables
      → Agrees (FlowR unit entities calls (length taken) n) (run unit.constants calls (items line taken es).list n)
      ((printed unit scalls line es >>= record_step n.pending) n.cells.plain)
  unfolding items
  prints_from line [] taken h n holds = rw (
    run_only unit.constants calls Write n,
    write_acts n,
    no_more line n.pending
        n.cells.plain,
  )
      (agrees_pure (FlowR unit entities calls (length taken) n) Next Next (written_now n)
      (record n.cells.plain { written = n.cells.plain.written ++ record_of n.pending }) refl
      (refl, record { kept = λ j below. refl; pending = refl; left = omega arith; holds = holds }))
  prints_from line (e ∷ more) taken h n holds = rw (first_printed line e more n.pending n.cells.plain)
      (evaluated_then unit calls scalls line (FlowR unit entities calls (length taken) n) entities e taken n
      (statement (Put line (lowered line taken e).tree) (items line (lowered line taken e).scalars more).list)
      (λ v. ((printed unit scalls line more >>= (λ xs. pure (v.elements ++ xs))) >>= record_step n.pending))
      (prepared unit entities calls scalls line e h.0 taken n holds)
      (λ n' x v came alone. rw (
        run_next unit.constants calls (Put line (lowered line taken e).tree)
            (items line (lowered line taken e).scalars more).list
            n' (pending_more n' x) (put_ok line (lowered line taken e).tree x n' came.is),
        record_more_at line more n.pending n'.pending v x n'.cells.plain alone.elements came.from.pending,
      )
      (agrees_weak (FlowR unit entities calls (length (lowered line taken e).scalars) (pending_more n' x))
      (FlowR unit entities calls (length taken) n)
      (run unit.constants calls (items line (lowered line taken e).scalars more).list (pending_more n' x))
      ((printed unit scalls line more >>= record_step (n'.pending ++ x ∷ [])) n'.cells.plain)
      (prints_from line more (lowered line taken e).scalars h.1 (pending_more n' x)
      (holds_from entities (length taken) n n' came.from holds))
      (λ flow flow' l r. (
        r.0,
        goes_on_from (length taken) (length (lowered line taken e).scalars) n n' (pending_more n' x) l
            (taken_grow line e taken) came.from refl r.1,
      ))))
      (λ n' kind e'. run_halt unit.constants calls (Put line (lowered line taken e).tree)
      (items line (lowered line taken e).scalars more).list
      (By (source.Faults kind line)) n' n' (put_err line (lowered line taken e).tree kind n' e')))

  pub runs_print : (line : ℕ) (es : List Expr) (taken : List Sort) → Every (λ e. IsScalar unit.constants entities e) es
      → Runs unit entities calls (length taken) (items line taken es).list (prints unit scalls line es >> pure Next)
  runs_print line es taken h = record {
    runs = λ n holds pending. rw (assoc_next (λ xs. source.put (record_of xs)) (pure Next) (printed unit scalls line es)
        n.cells.plain)
        (subst (λ before. Agrees (FlowR unit entities calls (length taken) n)
        (run unit.constants calls (items line taken es).list n)
        ((printed unit scalls line es >>= record_step before) n.cells.plain)) pending (prints_from line es taken h n holds));
  }
