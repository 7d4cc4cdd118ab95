-- Loops that ask a condition.
use Rattle.std.proofs.Common.{◌≡◌, refl, sym, ℕ, zero, suc, ◌≤◌, arith, Bool, true, false, List, []}
use Rattle.std.specs.Prelude.{Result, Ok, Err, length}
use Rattle.a95_base.specs.declared.scalar.Scalar.{Scalar}
use Rattle.a95_base.specs.declared.scalar.Scalar.TheVariants as scalar
use Rattle.a95_base.specs.Steps.{Ran, pure, stop, behind as goes_on, ◌>>=◌, ◌>>◌}
use Rattle.a95_base.proofs.Steps.{assoc, value_unread}
use Rattle.f95_unit.specs.Plain.{Program, Entity, Expr}
use Rattle.array_meaning.specs.Values.{Value, truth_of, only}
use Rattle.array_meaning.specs.State as source
use Rattle.array_meaning.specs.State.{State}
use Rattle.array_meaning.specs.Trees as trees
use Rattle.array_meaning.specs.Expressions.{prepare, truth as source_truth}
use Rattle.array_meaning.specs.Control as control
use Rattle.array_meaning.specs.Control.{Flow, Next, Exits, Cycles, Returns, while_true, behind_turn}
use Rattle.nest_tree.specs.declared.unit.Sort.{Sort}
use Rattle.nest_tree.specs.Plain as nest
use Rattle.nest_tree.specs.Plain.{Tree, Statements, no_statement, statement, Literal}
use Rattle.nest_tree.specs.State.{NestState, By, Step, pick, within, enter, turns_left}
use Rattle.nest_tree.specs.Statements.{Caller, acts, truth, calmly, rounds, one_turn}
use Rattle.control_lower.specs.Trees.{sort_of_expr, lowered}
use Rattle.control_lower.proofs.Agree.{Agrees, agrees_then, agrees_pure, agrees_stop, run, run_only}
use Rattle.control_lower.proofs.Stands.{Holds}
use Rattle.control_lower.proofs.Operators.{only_is}
use Rattle.control_lower.proofs.Parts.{Prepared, prepared}
use Rattle.control_lower.proofs.Tests.{value_then, calm_then, truth_ok, truth_err}
use Rattle.control_lower.proofs.Runs.{Goes, FlowR, Runs, goes_here, goes_then, goes_from, flow_then}
use Rattle.control_lower.proofs.Premises.{IsScalar}

-- brackets of two steps, one without a value
module _ {E S A B C : Type 0} (t : S → Ran E S B) (g : B → S → Ran E S C) where
  next_then_by : (r : Result A E) (s : S)
      → goes_on g (goes_on (λ a. t) r s).came (goes_on (λ a. t) r s).after ≡ goes_on (λ a. (t >>= g)) r s
  unfolding goes_on ◌>>=◌
  next_then_by (Ok a) s = refl
  next_then_by (Err e) s = refl

  pub next_then : (m : S → Ran E S A) (s : S) → ((m >> t) >>= g) s ≡ (m >> (t >>= g)) s
  unfolding ◌>>=◌ ◌>>◌
  next_then m s = next_then_by (m s).came (m s).after

module _ (unit : Program) (entities : List Entity) (calls : Caller) (scalls : trees.Caller) where
  -- the head and the condition of a loop are those of the source
  pub record Tests (line k : ℕ) (head : Statements) (t : Tree) (q : source.Step Bool) : Type 0 where
    pub tests : (n : NestState) → Holds entities n.cells.plain.variables → n.pending ≡ []
        → Agrees (λ b b' n'. (b ≡ b') × Goes entities k n n')
        ((calmly (run unit.constants calls head) >> truth unit.constants calls line [] t) n) (q n.cells.plain)

  abbrev truth_from : Value → source.Step Bool
  truth_from v = pure (truth_of (only v))

  truth_is : (v : Value) (x : Scalar) (p : State) → only v ≡ x → truth_from v p ≡ pure (truth_of x) p
  truth_is v x p h = rw h refl

  pub tests_expr : (line : ℕ) (e : Expr) (taken : List Sort) → IsScalar unit.constants entities e
      → Tests line (length taken) (lowered line taken e).parts (lowered line taken e).tree (source_truth unit scalls line [] e)
  tests_expr line e taken h = record {
    tests = λ n holds pending. rw (assoc (prepare unit scalls line [] e) (trees.whole scalls line) truth_from n.cells.plain)
        (calm_then unit calls scalls line
        (Prepared unit calls scalls line (length taken) (length (lowered line taken e).scalars) (sort_of_expr e) n
        (lowered line taken e).tree)
        (λ b b' n'. (b ≡ b') × Goes entities (length taken) n n') (lowered line taken e).parts
        (truth unit.constants calls line [] (lowered line taken e).tree)
        (prepare unit scalls line [] e) (λ u. (trees.whole scalls line u >>= truth_from)) n n.cells.plain
        (prepared unit entities calls scalls line e h taken n holds)
        (λ u n' r. value_then unit calls scalls line (λ b b' n'. (b ≡ b') × Goes entities (length taken) n n') (length taken)
        (length (lowered line taken e).scalars) (sort_of_expr e) n (lowered line taken e).tree
        (truth unit.constants calls line [] (lowered line taken e).tree) truth_from u n' r
        (λ x v came alone. rw (
          truth_ok unit calls scalls line (lowered line taken e).tree x n' came.is,
          truth_is v x n'.cells.plain (only_is unit.constants calls scalls line v x alone),
        )
        (agrees_pure (λ b b' n'. (b ≡ b') × Goes entities (length taken) n n') (truth_of x) (truth_of x) n' n'.cells.plain refl
        (refl, goes_from unit entities calls (length taken) n n' holds pending came.from)))
        (λ kind e'. truth_err unit calls scalls line (lowered line taken e).tree kind n' e')));
  }

  always_is : (line : ℕ) (n : NestState)
      → (calmly (run unit.constants calls no_statement) >> truth unit.constants calls line [] (Literal (scalar.Log true))) n ≡
      pure true n
  unfolding ◌>>=◌ ◌>>◌ goes_on pure
  always_is line n = refl

  pub tests_always : (line k : ℕ) → Tests line k no_statement (Literal (scalar.Log true)) (pure true)
  tests_always line k = record {
    tests = λ n holds pending. rw (always_is line n)
        (agrees_pure (λ b b' n'. (b ≡ b') × Goes entities k n n') true true n n.cells.plain refl
        (refl, goes_here unit entities calls k n holds pending));
  }

  -- ---- a turn

  pub turn_goes : (k : ℕ) (n : NestState) (left : ℕ) → n.cells.plain.left ≡ left → Holds entities n.cells.plain.variables
      → n.pending ≡ []
      → Agrees (λ a b n'. Goes entities k n n') (within source.turn n) (source.turn n.cells.plain)
  unfolding within source.turn source.turn_from pure stop
  turn_goes k n zero e holds pending = rw e (record { by = (refl, refl) })
  turn_goes k n (suc left) e holds pending = rw e (record {
    by = (refl, record { kept = λ j below. refl; pending = pending; left = omega arith; holds = holds });
  })

  module _ (k k' : ℕ) (up : k ≤ k') (n : NestState) (more : Step Flow) (more' : source.Step Flow)
      (again : (m : NestState) → Goes entities k n m → Agrees (FlowR unit entities calls k m) (more m) (more' m.cells.plain)) where
    turn_behind : (flow : Flow) (m : NestState) → Goes entities k n m
        → Agrees (FlowR unit entities calls k n) (behind_turn flow more m) (control.behind_turn flow more' m.cells.plain)
    turn_behind Next m goes = flow_then unit entities calls k k n m (more m) (more' m.cells.plain) (omega arith) goes (again m goes)
    turn_behind (Cycles zero) m goes = flow_then unit entities calls k k n m (more m) (more' m.cells.plain) (omega arith) goes
        (again m goes)
    turn_behind (Cycles (suc out)) m goes = agrees_pure (FlowR unit entities calls k n) (Cycles out) (Cycles out) m m.cells.plain
        refl (refl, goes)
    turn_behind (Exits zero) m goes = agrees_pure (FlowR unit entities calls k n) Next Next m m.cells.plain refl (refl, goes)
    turn_behind (Exits (suc out)) m goes = agrees_pure (FlowR unit entities calls k n) (Exits out) (Exits out) m m.cells.plain
        refl (refl, goes)
    turn_behind Returns m goes = agrees_pure (FlowR unit entities calls k n) Returns Returns m m.cells.plain refl (refl, goes)

    -- a turn, the body, and what comes behind
    pub turn_then : (body : Statements) (f : source.Step Flow) → Runs unit entities calls k' body f → (m : NestState)
        → Goes entities k n m
        → Agrees (FlowR unit entities calls k n) (one_turn (run unit.constants calls body) more m)
        (control.one_turn f more' m.cells.plain)
    turn_then body f runs m goes =
        rw (
          value_unread (within source.turn) (run unit.constants calls body >>= (λ flow. behind_turn flow more)) m,
          value_unread source.turn (f >>= (λ flow. control.behind_turn flow more')) m.cells.plain,
        )
        (agrees_then (λ a b n'. Goes entities k m n') (FlowR unit entities calls k n) (within source.turn) source.turn
        (λ a. (run unit.constants calls body >>= (λ flow. behind_turn flow more)))
        (λ a. (f >>= (λ flow. control.behind_turn flow more'))) m m.cells.plain
        (turn_goes k m m.cells.plain.left refl goes.holds goes.pending)
        (λ a b l t. agrees_then (FlowR unit entities calls k' l) (FlowR unit entities calls k n) (run unit.constants calls body) f
        (λ flow. behind_turn flow more) (λ flow. control.behind_turn flow more') l l.cells.plain
        (runs.runs l t.holds t.pending)
        (λ flow flow' l' r. rw (sym r.0) (turn_behind flow l' (goes_then unit entities calls k k n m l' (omega arith) goes
        (goes_then unit entities calls k k' m l l' up t r.1))))))

  -- ---- DO WHILE

  abbrev entered : NestState → NestState
  entered n = record n { entries = suc n.entries }

  enter_then : {A : Type 0} (m : Step A) (n : NestState) → (enter >> m) n ≡ m (entered n)
  unfolding ◌>>◌ goes_on enter
  enter_then m n = refl

  entered_goes : (k : ℕ) (n : NestState) → Holds entities n.cells.plain.variables → n.pending ≡ [] → Goes entities k n (entered n)
  entered_goes k n holds pending = record { kept = λ j below. refl; pending = pending; left = omega arith; holds = holds }

  module _ (line k k' : ℕ) (up : k ≤ k') (head body : Statements) (t : Tree) (q : source.Step Bool) (f : source.Step Flow)
      (tests : Tests line k head t q) (runs : Runs unit entities calls k' body f) where
    abbrev head_step : Step (Unit {0})
    head_step = calmly (run unit.constants calls head)

    abbrev test_step : Step Bool
    test_step = truth unit.constants calls line [] t

    choice : (n : NestState) (one other : Step Flow) (one' other' : source.Step Flow)
        → ((m : NestState) → Goes entities k n m → Agrees (FlowR unit entities calls k n) (one m) (one' m.cells.plain))
        → ((m : NestState) → Goes entities k n m → Agrees (FlowR unit entities calls k n) (other m) (other' m.cells.plain))
        → (b : Bool) (m : NestState) → Goes entities k n m
        → Agrees (FlowR unit entities calls k n) (pick b one other m) (source.choose b one' other' m.cells.plain)
    unfolding pick source.choose
    choice n one other one' other' h h' true m goes = h m goes
    choice n one other one' other' h h' false m goes = h' m goes

    -- one round: the test, and then the same choice
    round_then : (n : NestState) (one other : Step Flow) (one' other' : source.Step Flow) → Holds entities n.cells.plain.variables
        → n.pending ≡ []
        → ((m : NestState) → Goes entities k n m → Agrees (FlowR unit entities calls k n) (one m) (one' m.cells.plain))
        → ((m : NestState) → Goes entities k n m → Agrees (FlowR unit entities calls k n) (other m) (other' m.cells.plain))
        → Agrees (FlowR unit entities calls k n) ((enter >> (head_step >> (test_step >>= (λ go. pick go one other)))) n)
        ((q >>= (λ go. source.choose go one' other')) n.cells.plain)
    round_then n one other one' other' holds pending h h' =
        rw (
          enter_then (head_step >> (test_step >>= (λ go. pick go one other))) n,
          sym (next_then test_step (λ go. pick go one other) head_step (entered n)),
        )
        (agrees_then (λ b b' n'. (b ≡ b') × Goes entities k (entered n) n') (FlowR unit entities calls k n)
        (head_step >> test_step) q
        (λ go. pick go one other) (λ go. source.choose go one' other') (entered n) n.cells.plain
        (tests.tests (entered n) holds pending)
        (λ b b' m r. rw (sym r.0) (choice n one other one' other' h h' b m
        (goes_then unit entities calls k k n (entered n) m (omega arith) (entered_goes k n holds pending) r.1))))

    ends_next : (n m : NestState) → Goes entities k n m
        → Agrees (FlowR unit entities calls k n) (pure Next m) (pure Next m.cells.plain)
    ends_next n m goes = agrees_pure (FlowR unit entities calls k n) Next Next m m.cells.plain refl (refl, goes)

    waits : (n m : NestState) → Agrees (FlowR unit entities calls k n) (stop (By source.OutOfTurns) m)
        (stop source.OutOfTurns m.cells.plain)
    waits n m = agrees_stop (FlowR unit entities calls k n) source.OutOfTurns m m.cells.plain refl

    rounds_agree : (turns : ℕ) (n : NestState) → Holds entities n.cells.plain.variables → n.pending ≡ []
        → Agrees (FlowR unit entities calls k n) (rounds turns head_step test_step (run unit.constants calls body) n)
        (while_true turns q f n.cells.plain)
    unfolding rounds while_true
    rounds_agree zero n holds pending = round_then n (stop (By source.OutOfTurns)) (pure Next) (stop source.OutOfTurns)
        (pure Next) holds pending
        (λ m goes. waits n m) (ends_next n)
    rounds_agree (suc turns) n holds pending =
        round_then n (one_turn (run unit.constants calls body) (rounds turns head_step test_step (run unit.constants calls body)))
        (pure Next)
        (control.one_turn f (while_true turns q f)) (pure Next) holds pending
        (λ m goes. turn_then k k' up n (rounds turns head_step test_step (run unit.constants calls body)) (while_true turns q f)
        (λ l g. rounds_agree turns l g.holds g.pending) body f runs m goes)
        (ends_next n)

    while_acts : (n : NestState) → acts unit.constants calls [] (nest.While line head t body) n
        ≡ rounds n.cells.plain.left head_step test_step (run unit.constants calls body) n
    unfolding turns_left
    while_acts n = refl

    source_while : (p : State) → source.turns_left (λ turns. while_true turns q f) p ≡ while_true p.left q f p
    unfolding source.turns_left
    source_while p = refl

    pub runs_while : Runs unit entities calls k (statement (nest.While line head t body) no_statement)
        (source.turns_left (λ turns. while_true turns q f))
    runs_while = record {
      runs = λ n holds pending. rw (
        run_only unit.constants calls (nest.While line head t body) n,
        while_acts n,
        source_while
            n.cells.plain,
      )
          (rounds_agree n.cells.plain.left n holds pending);
    }
