-- A statement that begins with the value of an expression: its parts come first, then its tree.
use Rattle.std.proofs.Common.{◌≡◌, refl, ℕ, arith, List, [], ◌∷◌}
use Rattle.std.specs.Prelude.{Result, Ok, Err, length}
use Rattle.a95_base.specs.declared.fault.FaultKind.{FaultKind}
use Rattle.a95_base.specs.declared.scalar.Scalar.{Scalar}
use Rattle.a95_base.specs.Steps.{pure, stop, behind as goes_on, ◌>>=◌, ◌>>◌}
use Rattle.a95_base.proofs.Steps.{assoc}
use Rattle.f95_unit.specs.Plain.{Program, Entity, Expr}
use Rattle.array_meaning.specs.Values.{Value, truth_of}
use Rattle.array_meaning.specs.State as source
use Rattle.array_meaning.specs.State.{State}
use Rattle.array_meaning.specs.Trees as trees
use Rattle.array_meaning.specs.Expressions.{prepare, evaluate}
use Rattle.array_meaning.specs.Control.{Flow}
use Rattle.nest_tree.specs.declared.unit.Sort.{Sort}
use Rattle.nest_tree.specs.Plain.{Tree, Statements, joined, If}
use Rattle.nest_tree.specs.State.{NestState, Step, By, given, pick}
use Rattle.nest_tree.specs.Statements.{Caller, acts, truth, only_next, calmly}
use Rattle.control_lower.specs.Trees.{sort_of_expr, lowered}
use Rattle.control_lower.proofs.Agree.{assoc_next, pure_next, Agrees, agrees_then, agrees_stop, run, Ends, parts_then}
use Rattle.control_lower.proofs.Stands.{HasSort, From, from_here, later_of, value}
use Rattle.control_lower.proofs.Operators.{IsAlone, whole_ok, whole_err}
use Rattle.control_lower.proofs.Parts.{Prepared, PreparedAs}

module _ (unit : Program) (calls : Caller) (scalls : trees.Caller) (line : ℕ) where
  -- what is known where a value has been evaluated, and where that faulted
  pub record Came (k : ℕ) (s : Sort) (n : NestState) (t : Tree) (x : Scalar) (n' : NestState) : Type 0 where
    pub from : From k n n'
    pub is : value unit.constants calls scalls line [] t n' ≡ given line (Ok x) n'
    pub typed : HasSort s x

  whole_then : {B : Type 0} (g : Value → source.Step B) (u : trees.Tree) (v : Value) (p : State)
      → trees.whole scalls line u p ≡ pure v p
      → (trees.whole scalls line u >>= g) p ≡ g v p
  unfolding ◌>>=◌ goes_on pure
  whole_then g u v p h = rw h refl

  whole_stops : {B : Type 0} (g : Value → source.Step B) (u : trees.Tree) (halt : source.Halt) (p : State)
      → trees.whole scalls line u p ≡ stop halt p → (trees.whole scalls line u >>= g) p ≡ stop halt p
  unfolding ◌>>=◌ goes_on stop
  whole_stops g u halt p h = rw h refl

  module _ {A B : Type 0} (R : A → B → NestState → Type 0) (k k' : ℕ) (s : Sort) (n : NestState) (t : Tree) (m : Step A)
      (g : Value → source.Step B) where
    by_result : (u : trees.Tree) (n' : NestState) → From k n n' → trees.shape u ≡ Ok [] → (r : Result Scalar FaultKind)
        → value unit.constants calls scalls line [] t n' ≡ given line r n'
        → trees.element scalls line u 0 n'.cells.plain ≡ source.given line r n'.cells.plain
        → ((x : Scalar) → r ≡ Ok x → HasSort s x)
        → ((x : Scalar) (v : Value) → Came k s n t x n' → IsAlone unit.constants calls scalls line v x
        → Agrees R (m n') (g v n'.cells.plain))
        → ((kind : FaultKind) → value unit.constants calls scalls line [] t n' ≡ given line (Err kind) n'
        → m n' ≡ stop (By (source.Faults kind line)) n')
        → Agrees R (m n') ((trees.whole scalls line u >>= g) n'.cells.plain)
    by_result u n' from shape (Ok x) e h sorted fine fault =
        let v : Value = record { extents = []; like = trees.like u; elements = x ∷ [] } in
        rw (whole_then g u v n'.cells.plain (whole_ok unit.constants calls scalls line u x n'.cells.plain shape h))
        (fine x v (record { from = from; is = e; typed = sorted x refl }) (record { extents = refl; elements = refl }))
    by_result u n' from shape (Err kind) e h sorted fine fault =
        rw (
          whole_stops g u (source.Faults kind line) n'.cells.plain
              (whole_err unit.constants calls scalls line u kind n'.cells.plain shape h),
          fault kind e,
        )
        (agrees_stop R (source.Faults kind line) n' n'.cells.plain refl)

    -- the value of a tree that stands for a prepared one
    pub value_then : (u : trees.Tree) (n' : NestState) → Prepared unit calls scalls line k k' s n t u n'
        → ((x : Scalar) (v : Value) → Came k s n t x n' → IsAlone unit.constants calls scalls line v x
        → Agrees R (m n') (g v n'.cells.plain))
        → ((kind : FaultKind) → value unit.constants calls scalls line [] t n' ≡ given line (Err kind) n'
        → m n' ≡ stop (By (source.Faults kind line)) n')
        → Agrees R (m n') ((trees.whole scalls line u >>= g) n'.cells.plain)
    value_then u n' r fine fault = by_result u n' r.from r.stands.shape r.stands.result
        (r.stands.nest [] n' (later_of k' k' n' n' (omega arith) (from_here k' n'))) (r.stands.source 0 n'.cells.plain)
        r.stands.typed fine fault

  -- a statement behind the parts of its value
  pub evaluated_then : {B : Type 0} (R : Flow → B → NestState → Type 0) (entities : List Entity) (e : Expr) (taken : List Sort)
      (n : NestState)
      (q : Statements) (g : Value → source.Step B)
      → PreparedAs unit entities calls scalls line e taken n
      → ((n' : NestState) (x : Scalar) (v : Value) → Came (length taken) (sort_of_expr e) n (lowered line taken e).tree x n'
      → IsAlone unit.constants calls scalls line v x → Agrees R (run unit.constants calls q n') (g v n'.cells.plain))
      → ((n' : NestState) (kind : FaultKind) → value unit.constants calls scalls line [] (lowered line taken e).tree n' ≡ given
      line (Err kind) n'
      → run unit.constants calls q n' ≡ stop (By (source.Faults kind line)) n')
      → Agrees R (run unit.constants calls (joined (lowered line taken e).parts q) n)
      ((evaluate unit scalls line [] e >>= g) n.cells.plain)
  evaluated_then R entities e taken n q g h fine fault =
      rw (assoc (prepare unit scalls line [] e) (trees.whole scalls line) g n.cells.plain)
      (parts_then unit.constants calls
      (Prepared unit calls scalls line (length taken) (length (lowered line taken e).scalars) (sort_of_expr e) n
      (lowered line taken e).tree) R
      (lowered line taken e).parts q (prepare unit scalls line [] e) (λ u. (trees.whole scalls line u >>= g)) n n.cells.plain h
      (λ u n' r. value_then R (length taken) (length (lowered line taken e).scalars) (sort_of_expr e) n (lowered line taken e).tree
      (run unit.constants calls q) g u n' r (λ x v. fine n' x v) (λ kind. fault n' kind)))

  -- the same where the parts are the head of a loop
  pub calm_then : {A B C : Type 0} (R : C → NestState → Type 0) (R' : A → B → NestState → Type 0) (p : Statements) (t : Step A)
      (m : source.Step C) (g : C → source.Step B) (n : NestState) (s : State)
      → Agrees (Ends R) (run unit.constants calls p n) (m s)
      → ((c : C) (n : NestState) → R c n → Agrees R' (t n) (g c n.cells.plain))
      → Agrees R' ((calmly (run unit.constants calls p) >> t) n) ((m >>= g) s)
  calm_then {A} {B} {C} R R' p t m g n s h k = rw (assoc_next (λ flow. only_next flow) t (run unit.constants calls p) n)
      (agrees_then (Ends R) R' (run unit.constants calls p) m (λ flow. (only_next flow >> t)) g n s h
      (λ flow c n' r. rw r.0 (rw (pure_next (tt {0}) t n') (k c n' r.1))))

  -- ---- tests

  pub truth_ok : (t : Tree) (x : Scalar) (n : NestState) → value unit.constants calls scalls line [] t n ≡ given line (Ok x) n
      → truth unit.constants calls line [] t n ≡ pure (truth_of x) n
  unfolding ◌>>=◌ goes_on given pure
  truth_ok t x n h = rw h refl

  pub truth_err : (t : Tree) (kind : FaultKind) (n : NestState)
      → value unit.constants calls scalls line [] t n ≡ given line (Err kind) n
      → truth unit.constants calls line [] t n ≡ stop (By (source.Faults kind line)) n
  unfolding ◌>>=◌ goes_on given stop
  truth_err t kind n h = rw h refl

  pub if_ok : (t : Tree) (x : Scalar) (a b : Statements) (n : NestState)
      → value unit.constants calls scalls line [] t n ≡ given line (Ok x) n
      → acts unit.constants calls [] (If line t a b) n ≡ pick (truth_of x) (run unit.constants calls a)
      (run unit.constants calls b) n
  unfolding ◌>>=◌ goes_on given pure
  if_ok t x a b n h = rw h refl

  pub if_err : (t : Tree) (kind : FaultKind) (a b : Statements) (n : NestState)
      → value unit.constants calls scalls line [] t n ≡ given line (Err kind) n
      → acts unit.constants calls [] (If line t a b) n ≡ stop (By (source.Faults kind line)) n
  unfolding ◌>>=◌ goes_on given stop
  if_err t kind a b n h = rw h refl
