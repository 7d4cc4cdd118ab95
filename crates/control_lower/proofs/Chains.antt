-- Branches one behind the other, of which at most one is taken: a scalar tells whether one was.
use Rattle.std.proofs.Common.{◌≡◌, refl, sym, ap, ◌∙◌, ℕ, ◌<◌, ◌≤◌, arith, Bool, true, false, List, []}
use Rattle.std.specs.Prelude.{Ok, length, not}
use Rattle.a95_base.specs.declared.scalar.Scalar.{Scalar}
use Rattle.a95_base.specs.declared.scalar.Scalar.TheVariants as scalar
use Rattle.a95_base.specs.Steps.{pure, behind as goes_on, ◌>>=◌}
use Rattle.a95_base.proofs.Steps.{assoc, right_unit}
use Rattle.f95_unit.specs.Plain.{Program, Entity, Expr}
use Rattle.array_meaning.specs.Values.{truth_of, only}
use Rattle.array_meaning.specs.State as source
use Rattle.array_meaning.specs.State.{State}
use Rattle.array_meaning.specs.Trees as trees
use Rattle.array_meaning.specs.Expressions.{evaluate, truth as source_truth}
use Rattle.array_meaning.specs.Control.{Flow, Next, Exits, Cycles, Returns}
use Rattle.nest_tree.specs.declared.unit.Sort.{Sort}
use Rattle.nest_tree.specs.Plain.{Statement, Statements, no_statement, statement, joined, Literal, Set, If}
use Rattle.nest_tree.specs.State.{NestState, By, given, sees, pick}
use Rattle.nest_tree.specs.Statements.{Caller, acts}
use Rattle.control_lower.specs.Trees.{lowered}
use Rattle.control_lower.specs.Units.{not_taken}
use Rattle.control_lower.proofs.Agree.{Agrees, agrees_then, agrees_pure, run, behind_all, joined_acts, run_only, run_none, run_next}
use Rattle.control_lower.proofs.Agree.{run_halt}
use Rattle.control_lower.proofs.Stands.{Holds, From, from_kept, kept_in, kept_at, set_here, value}
use Rattle.control_lower.proofs.Operators.{only_is, set_ok}
use Rattle.control_lower.proofs.Parts.{prepared}
use Rattle.control_lower.proofs.Tests.{evaluated_then, if_ok, if_err}
use Rattle.control_lower.proofs.Simple.{choice_is}
use Rattle.control_lower.proofs.Runs.{Goes, FlowR, Runs, goes_here, goes_then, goes_from, flow_then}
use Rattle.control_lower.proofs.Premises.{IsScalar}

pub joined_assoc : (p q r : Statements) → joined (joined p q) r ≡ joined p (joined q r)
joined_assoc no_statement q r = refl
joined_assoc (statement s more) q r = ap (λ rest. statement s rest) (joined_assoc more q r)

module _ (unit : Program) (entities : List Entity) (calls : Caller) (scalls : trees.Caller) where
  -- a list that does what a step does where the flag is false, and nothing where it is true
  pub record Flagged (k flag : ℕ) (list : Statements) (q : source.Step Flow) : Type 0 where
    pub runs : (n : NestState) → Holds entities n.cells.plain.variables → n.pending ≡ [] → kept_in n flag ≡ scalar.Log false
        → Agrees (FlowR unit entities calls k n) (run unit.constants calls list n) (q n.cells.plain)
    pub skips : (n : NestState) → kept_in n flag ≡ scalar.Log true → run unit.constants calls list n ≡ pure Next n

  -- a statement that does what a list does from another state
  pub instead_at : (x : Statement) (p rest : Statements) (n m : NestState)
      → acts unit.constants calls [] x n ≡ run unit.constants calls p m
      → run unit.constants calls (statement x rest) n ≡ run unit.constants calls (joined p rest) m
  unfolding ◌>>=◌ behind_all
  instead_at x p rest n m h = ap (λ r. goes_on (behind_all unit.constants calls rest) r.came r.after) h
      ∙ sym (joined_acts unit.constants calls p rest m)

  pub not_value : (line flag : ℕ) (b : Bool) (n : NestState) → kept_in n flag ≡ scalar.Log b
      → value unit.constants calls scalls line [] (not_taken flag) n ≡ given line (Ok (scalar.Log (not b))) n
  unfolding sees ◌>>=◌ goes_on pure given
  not_value line flag b n h = rw h refl

  if_open : (line flag : ℕ) (a b : Statements) (n : NestState) → kept_in n flag ≡ scalar.Log false
      → acts unit.constants calls [] (If line (not_taken flag) a b) n ≡ run unit.constants calls a n
  unfolding pick
  if_open line flag a b n h = if_ok unit calls scalls line (not_taken flag) (scalar.Log true) a b n (not_value line flag false n h)

  if_closed : (line flag : ℕ) (a b : Statements) (n : NestState) → kept_in n flag ≡ scalar.Log true
      → acts unit.constants calls [] (If line (not_taken flag) a b) n ≡ run unit.constants calls b n
  unfolding pick
  if_closed line flag a b n h = if_ok unit calls scalls line (not_taken flag) (scalar.Log false) a b n
      (not_value line flag true n h)

  pub skip_one : (line flag : ℕ) (a rest : Statements) (n : NestState) → kept_in n flag ≡ scalar.Log true
      → run unit.constants calls rest n ≡ pure Next n
      → run unit.constants calls (statement (If line (not_taken flag) a no_statement) rest) n ≡ pure Next n
  skip_one line flag a rest n h g =
      run_next unit.constants calls (If line (not_taken flag) a no_statement) rest n n
      (if_closed line flag a no_statement n h ∙ run_none unit.constants calls n) ∙ g

  -- what stands behind all branches
  pub flagged_end : (line k flag k' : ℕ) (a : Statements) (q : source.Step Flow) → k ≤ k' → Runs unit entities calls k' a q
      → Flagged k flag (statement (If line (not_taken flag) a no_statement) no_statement) q
  flagged_end line k flag k' a q up h = record {
    runs = λ n holds pending open'. rw (
      run_only unit.constants calls (If line (not_taken flag) a no_statement) n,
      if_open line
          flag a no_statement n open',
    )
        (flow_then unit entities calls k k' n n (run unit.constants calls a n) (q n.cells.plain) up
        (goes_here unit entities calls k n holds pending) (h.runs n holds pending));
    skips = λ n shut. skip_one line flag a no_statement n shut (run_none unit.constants calls n);
  }

  literal_true : (line : ℕ) (n : NestState) → value unit.constants calls scalls line [] (Literal (scalar.Log true)) n ≡ given line
      (Ok (scalar.Log true)) n
  unfolding pure given
  literal_true line n = refl

  pub picked_true : (t : Bool) → t ≡ true → (a : Statements) (n : NestState)
      → pick t (run unit.constants calls a) (run unit.constants calls no_statement) n ≡ run unit.constants calls a n
  unfolding pick
  picked_true t h a n = rw h refl

  pub picked_false : (t : Bool) → t ≡ false → (a : Statements) (n : NestState)
      → pick t (run unit.constants calls a) (run unit.constants calls no_statement) n ≡ pure Next n
  unfolding pick
  picked_false t h a n = rw h refl

  pub set_taken : (line flag : ℕ) (a : Statements) (n : NestState)
      → run unit.constants calls (statement (Set line flag (Literal (scalar.Log true))) a) n ≡ run unit.constants calls a
      (kept_at n flag (scalar.Log true))
  set_taken line flag a n = run_next unit.constants calls (Set line flag (Literal (scalar.Log true))) a n
      (kept_at n flag (scalar.Log true))
      (set_ok unit.constants calls scalls line flag (Literal (scalar.Log true)) (scalar.Log true) n (literal_true line n))

  module _ (k flag kb : ℕ) (up : k ≤ kb) (below : flag < kb) (rest : Statements)
      (skips : (n : NestState) → kept_in n flag ≡ scalar.Log true → run unit.constants calls rest n ≡ pure Next n) where
    skip_behind : (n : NestState) (flow : Flow) (m : NestState) → Goes entities k n m → kept_in m flag ≡ scalar.Log true
        → Agrees (FlowR unit entities calls k n) (behind_all unit.constants calls rest flow m) (pure flow m.cells.plain)
    unfolding behind_all
    skip_behind n Next m goes shut = rw (skips m shut) (agrees_pure (FlowR unit entities calls k n) Next Next m m.cells.plain refl
        (refl, goes))
    skip_behind n (Exits out) m goes shut = agrees_pure (FlowR unit entities calls k n) (Exits out) (Exits out) m m.cells.plain
        refl (refl, goes)
    skip_behind n (Cycles out) m goes shut = agrees_pure (FlowR unit entities calls k n) (Cycles out) (Cycles out) m m.cells.plain
        refl (refl, goes)
    skip_behind n Returns m goes shut = agrees_pure (FlowR unit entities calls k n) Returns Returns m m.cells.plain refl
        (refl, goes)

    -- the branch that is taken, and all others behind
    pub taken_then : (a : Statements) (f : source.Step Flow) → Runs unit entities calls kb a f → (n m : NestState)
        → Goes entities k n m
        → kept_in m flag ≡ scalar.Log true
        → Agrees (FlowR unit entities calls k n) (run unit.constants calls (joined a rest) m) (f m.cells.plain)
    taken_then a f h n m goes shut = rw (joined_acts unit.constants calls a rest m, sym (right_unit f m.cells.plain))
        (agrees_then (FlowR unit entities calls kb m) (FlowR unit entities calls k n) (run unit.constants calls a) f
        (behind_all unit.constants calls rest) pure m m.cells.plain
        (h.runs m goes.holds goes.pending)
        (λ flow flow' l r. rw (sym r.0) (skip_behind n flow l (goes_then unit entities calls k kb n m l up goes r.1)
        (r.1.kept flag below ∙ shut))))

    pub goes_taken : k ≤ flag → (n m : NestState) → Goes entities k n m → Goes entities k n (kept_at m flag (scalar.Log true))
    goes_taken over n m goes = record {
      kept = λ j b. (from_kept k flag m (scalar.Log true) over).kept j b ∙ goes.kept j b;
      pending = goes.pending;
      left = goes.left;
      holds = goes.holds;
    }

    -- IF or ELSE IF
    module _ (q : source.Step Flow) (later : Flagged k flag rest q) (line : ℕ) (e : Expr) (taken : List Sort)
        (h : IsScalar unit.constants entities e) (over : k ≤ flag) (under : flag < length taken)
        (a : Statements) (f : source.Step Flow) (body : Runs unit entities calls kb a f) where
      abbrev chosen : Statement
      chosen = If line (lowered line taken e).tree (statement (Set line flag (Literal (scalar.Log true))) a) no_statement

      choose_branch : (n m : NestState) → Goes entities k n m → kept_in m flag ≡ scalar.Log false → (x : Scalar)
          → value unit.constants calls scalls line [] (lowered line taken e).tree m ≡ given line (Ok x) m → (t : Bool)
          → truth_of x ≡ t
          → Agrees (FlowR unit entities calls k n) (run unit.constants calls (statement chosen rest) m)
          (source.choose t f q m.cells.plain)
      unfolding source.choose
      choose_branch n m goes open' x is true e' =
          rw (instead_at chosen a rest m (kept_at m flag (scalar.Log true))
          (if_ok unit calls scalls line (lowered line taken e).tree x (statement (Set line flag (Literal (scalar.Log true))) a)
          no_statement m is
          ∙ picked_true (truth_of x) e' (statement (Set line flag (Literal (scalar.Log true))) a) m ∙ set_taken line flag a m))
          (taken_then a f body n (kept_at m flag (scalar.Log true)) (goes_taken over n m goes)
          (set_here m.cells.temps.setting.kept flag (scalar.Log true)))
      choose_branch n m goes open' x is false e' =
          rw (run_next unit.constants calls chosen rest m m
          (if_ok unit calls scalls line (lowered line taken e).tree x (statement (Set line flag (Literal (scalar.Log true))) a)
          no_statement m is
          ∙ picked_false (truth_of x) e' (statement (Set line flag (Literal (scalar.Log true))) a) m))
          (flow_then unit entities calls k k n m (run unit.constants calls rest m) (q m.cells.plain) (omega arith) goes
          (later.runs m goes.holds goes.pending open'))

      pub flagged_branch : Flagged k flag
          (statement (If line (not_taken flag) (joined (lowered line taken e).parts (statement chosen no_statement)) no_statement)
          rest)
          (source_truth unit scalls line [] e >>= (λ t. source.choose t f q))
      flagged_branch = record {
        runs = λ n holds pending open'.
            rw (
              instead_at (If line (not_taken flag) (joined (lowered line taken e).parts (statement chosen no_statement))
                  no_statement)
                  (joined (lowered line taken e).parts (statement chosen no_statement)) rest n n
                  (if_open line flag (joined (lowered line taken e).parts (statement chosen no_statement)) no_statement n open'),
              joined_assoc (lowered line taken e).parts (statement chosen no_statement) rest,
              assoc (evaluate unit scalls line [] e) (λ v. pure (truth_of (only v))) (λ t. source.choose t f q) n.cells.plain,
            )
            (evaluated_then unit calls scalls line (FlowR unit entities calls k n) entities e taken n (statement chosen rest)
            (λ v. (pure (truth_of (only v)) >>= (λ t. source.choose t f q)))
            (prepared unit entities calls scalls line e h taken n holds)
            (λ n' x v came alone. rw (choice_is unit entities calls scalls f q v x n'.cells.plain
            (only_is unit.constants calls scalls line v x alone))
            (choose_branch n n' (goes_from unit entities calls k n n' holds pending (lower_from n n' came.from))
            (came.from.kept flag under ∙ open') x came.is (truth_of x) refl))
            (λ n' kind e'. run_halt unit.constants calls chosen rest (By (source.Faults kind line)) n' n'
            (if_err unit calls scalls line (lowered line taken e).tree kind
            (statement (Set line flag (Literal (scalar.Log true))) a) no_statement n' e')));
        skips = λ n shut. skip_one line flag (joined (lowered line taken e).parts (statement chosen no_statement)) rest n shut
            (later.skips n shut);
      } where
        lower_from : (n n' : NestState) → From (length taken) n n' → From k n n'
        lower_from n n' from = record {
          plain = from.plain;
          kept = λ j b. from.kept j (omega (arith, b, over, under));
          pending =
              from.pending;
        }
