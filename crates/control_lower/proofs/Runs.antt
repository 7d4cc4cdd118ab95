-- A list of nest statements that does what a step of the source does, from every state that holds the scalars.
use Rattle.std.proofs.Common.{◌≡◌, refl, sym, subst, ◌∙◌, ℕ, ◌<◌, ◌≤◌, arith, List, []}
use Rattle.a95_base.specs.Steps.{Ran, pure, stop, ◌>>=◌}
use Rattle.f95_unit.specs.Plain.{Program, Entity}
use Rattle.array_meaning.specs.State as source
use Rattle.array_meaning.specs.State.{State}
use Rattle.array_meaning.specs.Control as control
use Rattle.array_meaning.specs.Control.{Flow, Next, Exits, Cycles, Returns}
use Rattle.nest_tree.specs.Plain.{Statement, Statements, no_statement, statement, joined, Exit, Cycle, Return, Stop}
use Rattle.nest_tree.specs.State.{NestState}
use Rattle.nest_tree.specs.Statements.{Caller, acts}
use Rattle.control_lower.proofs.Agree.{Agrees, agrees_then, agrees_pure, agrees_stop, agrees_weak, run, behind_all, joined_acts}
use Rattle.control_lower.proofs.Agree.{run_only, run_none}
use Rattle.control_lower.proofs.Stands.{Holds, From, kept_in}

-- what a statement leaves: the scalars below k, no more turns, and the scalar variables with values of their sorts
pub record Goes (entities : List Entity) (k : ℕ) (n n' : NestState) : Type 0 where
  pub kept : (j : ℕ) → j < k → kept_in n' j ≡ kept_in n j
  pub pending : n'.pending ≡ []
  pub left : n'.cells.plain.left ≤ n.cells.plain.left
  pub holds : Holds entities n'.cells.plain.variables

module _ (unit : Program) (entities : List Entity) (calls : Caller) where
  abbrev pub FlowR : ℕ → NestState → Flow → Flow → NestState → Type 0
  FlowR k n flow flow' n' = (flow ≡ flow') × Goes entities k n n'

  pub record Runs (k : ℕ) (list : Statements) (q : source.Step Flow) : Type 0 where
    pub runs : (n : NestState) → Holds entities n.cells.plain.variables → n.pending ≡ []
        → Agrees (FlowR k n) (run unit.constants calls list n) (q n.cells.plain)

  pub goes_here : (k : ℕ) (n : NestState) → Holds entities n.cells.plain.variables → n.pending ≡ [] → Goes entities k n n
  goes_here k n holds pending = record { kept = λ j h. refl; pending = pending; left = omega arith; holds = holds }

  pub goes_then : (k k' : ℕ) (n m l : NestState) → k ≤ k' → Goes entities k n m → Goes entities k' m l → Goes entities k n l
  goes_then k k' n m l up h g = record {
    kept = λ j below. g.kept j (omega (arith, below, up)) ∙ h.kept j below;
    pending = g.pending;
    left = omega (arith, h.left, g.left);
    holds = g.holds;
  }

  pub goes_from : (k : ℕ) (n m : NestState) → Holds entities n.cells.plain.variables → n.pending ≡ [] → From k n m
      → Goes entities k n m
  goes_from k n m holds pending h = record {
    kept = h.kept;
    pending = h.pending ∙ pending;
    left = subst (λ p. p.left ≤ n.cells.plain.left) (sym h.plain) (omega arith);
    holds = subst (λ p. Holds entities p.variables) (sym h.plain) holds;
  }

  pub flow_then : (k k' : ℕ) (n m : NestState) (r : Ran _ NestState Flow) (q : Ran source.Halt State Flow) → k ≤ k'
      → Goes entities k n m
      → Agrees (FlowR k' m) r q → Agrees (FlowR k n) r q
  flow_then k k' n m r q up h a = agrees_weak (FlowR k' m) (FlowR k n) r q a
      (λ flow flow' l g. (g.0, goes_then k k' n m l up h g.1))

  pub runs_weak : (k k' : ℕ) (list : Statements) (q : source.Step Flow) → k ≤ k' → Runs k' list q → Runs k list q
  runs_weak k k' list q up h = record {
    runs = λ n holds pending. flow_then k k' n n (run unit.constants calls list n) (q n.cells.plain) up
        (goes_here k n holds pending) (h.runs n holds pending);
  }

  pub runs_none : (k : ℕ) → Runs k no_statement (pure Next)
  runs_none k = record {
    runs = λ n holds pending. rw (run_none unit.constants calls n)
        (agrees_pure (FlowR k n) Next Next n n.cells.plain refl (refl, goes_here k n holds pending));
  }

  module _ (k : ℕ) (q : Statements) (g : source.Step Flow) (n : NestState) where
    behind_flow : (k' : ℕ) → k ≤ k' → Runs k' q g → (flow : Flow) (m : NestState) → Goes entities k n m
        → Agrees (FlowR k n) (behind_all unit.constants calls q flow m) (control.behind flow g m.cells.plain)
    unfolding behind_all
    behind_flow k' up h Next m goes = flow_then k k' n m (run unit.constants calls q m) (g m.cells.plain) up goes
        (h.runs m goes.holds goes.pending)
    behind_flow k' up h (Exits out) m goes = agrees_pure (FlowR k n) (Exits out) (Exits out) m m.cells.plain refl (refl, goes)
    behind_flow k' up h (Cycles out) m goes = agrees_pure (FlowR k n) (Cycles out) (Cycles out) m m.cells.plain refl (refl, goes)
    behind_flow k' up h Returns m goes = agrees_pure (FlowR k n) Returns Returns m m.cells.plain refl (refl, goes)

  -- one list behind another
  pub runs_then : (k k' : ℕ) (p q : Statements) (m g : source.Step Flow) → k ≤ k' → Runs k p m → Runs k' q g
      → Runs k (joined p q) (m >>= (λ flow. control.behind flow g))
  runs_then k k' p q m g up h h' = record {
    runs = λ n holds pending. rw (joined_acts unit.constants calls p q n)
        (agrees_then (FlowR k n) (FlowR k n) (run unit.constants calls p) m (behind_all unit.constants calls q)
        (λ flow. control.behind flow g) n n.cells.plain
        (h.runs n holds pending)
        (λ flow flow' l r. rw (sym r.0) (behind_flow k q g n k' up h' flow l r.1)));
  }

  -- what leaves at once
  leaves_acts : (x : Statement) (flow : Flow) (k : ℕ) → ((n : NestState) → acts unit.constants calls [] x n ≡ pure flow n)
      → Runs k (statement x no_statement) (pure flow)
  leaves_acts x flow k h = record {
    runs = λ n holds pending. rw (run_only unit.constants calls x n, h n)
        (agrees_pure (FlowR k n) flow flow n n.cells.plain refl (refl, goes_here k n holds pending));
  }

  pub runs_exit : (k out : ℕ) → Runs k (statement (Exit out) no_statement) (pure (Exits out))
  runs_exit k out = leaves_acts (Exit out) (Exits out) k (λ n. refl)

  pub runs_cycle : (k out : ℕ) → Runs k (statement (Cycle out) no_statement) (pure (Cycles out))
  runs_cycle k out = leaves_acts (Cycle out) (Cycles out) k (λ n. refl)

  pub runs_return : (k : ℕ) → Runs k (statement Return no_statement) (pure Returns)
  runs_return k = leaves_acts Return Returns k (λ n. refl)

  pub runs_stop : (k : ℕ) → Runs k (statement Stop no_statement) (stop source.Stopped)
  runs_stop k = record {
    runs = λ n holds pending. rw (run_only unit.constants calls Stop n)
        (agrees_stop (FlowR k n) source.Stopped n n.cells.plain refl);
  }
