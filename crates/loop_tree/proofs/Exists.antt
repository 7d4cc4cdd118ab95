-- A run has an outcome within any number of turns: a step that begins no turn leaves less to do.
use Rattle.std.proofs.Common.{◌≡◌, ℕ, zero, suc, ◌+◌, ◌-◌, ◌<◌, Bool, true, false, List, ◌++◌, refl, ap, arith}
use Rattle.a95_base.specs.Outcome.{Finished, Going}
use Rattle.loop_tree.specs.declared.tree.Function.{Function}
use Rattle.loop_tree.specs.State.{State, Next, Goes, Ends}
use Rattle.loop_tree.specs.Machine.{step}
use Rattle.loop_tree.specs.Run.{Configuration, configuration, count_turn, after, begins_turn}
use Rattle.loop_tree.specs.RunLaws.{HasOutcome, SomeOutcome}
use Rattle.loop_tree.proofs.Runs.{stays, steps_once}
use Rattle.loop_tree.proofs.Outcomes.{runs_behind}
use Rattle.loop_tree.proofs.Lessens.{left_over, Lessens, step_lessens}

-- the outcome behind one step is the outcome
behind_step : (functions : List Function) (limit : ℕ) (t : Configuration) (turn : Bool) (new : List ℕ) (s : State) →
    step functions t.state ≡ Goes turn new s →
    HasOutcome functions (configuration (t.turns + count_turn turn) (t.written ++ new) s) limit → HasOutcome functions t limit
behind_step functions limit t turn new s e o =
    let next = configuration (t.turns + count_turn turn) (t.written ++ new) s in
    record {
      written = o.written;
      outcome = o.outcome;
      runs =
          runs_behind functions t next limit o.written o.outcome (steps_once functions t next (ap (after t) e)) o.runs;
    }

-- where k turns are left: an outcome, given those of the trails behind one step
from_next : (functions : List Function) (limit k : ℕ) (t : Configuration) (next : Next) → step functions t.state ≡ next →
    t.turns + k ≡ limit → Lessens (left_over t.state) next →
    ((u : Configuration) → left_over u.state < left_over t.state → u.turns + k ≡ limit → HasOutcome functions u limit) →
    ((u : Configuration) (j : ℕ) → k ≡ suc j → u.turns + j ≡ limit → HasOutcome functions u limit) → HasOutcome functions t limit
from_next functions limit k t (Ends how) e r less quiet turning =
    record {
      written = t.written;
      outcome = Finished how;
      runs =
          record { last = t; leads = stays functions t; within = omega arith; output = refl; ends = e };
    }
from_next functions limit k t (Goes false new s) e r less quiet turning =
    behind_step functions limit t false new s e (quiet (configuration (t.turns + 0) (t.written ++ new) s) less (omega arith))
from_next functions limit zero t (Goes true new s) e r less quiet turning =
    record {
      written = t.written;
      outcome = Going;
      runs = record
          { last = t; leads = stays functions t; spent = omega arith; output = refl; waits = ap begins_turn e };
    }
from_next functions limit (suc j) t (Goes true new s) e r less quiet turning =
    behind_step functions limit t true new s e (turning (configuration (t.turns + 1) (t.written ++ new) s) j refl (omega arith))

-- with less than n left over
by_size : (functions : List Function) (limit k n : ℕ) →
    ((u : Configuration) (j : ℕ) → k ≡ suc j → u.turns + j ≡ limit → HasOutcome functions u limit) →
    (t : Configuration) → left_over t.state < n → t.turns + k ≡ limit → HasOutcome functions t limit
by_size functions limit k zero turning t h r = absurd (omega arith)
by_size functions limit k (suc n) turning t h r =
    from_next functions limit k t (step functions t.state) refl r (step_lessens functions t.state)
    (λ u less same. by_size functions limit k n turning u (omega arith) same) turning

by_turns : (functions : List Function) (limit k : ℕ) (t : Configuration) → t.turns + k ≡ limit → HasOutcome functions t limit
by_turns functions limit zero t r = by_size functions limit zero (suc (left_over t.state)) (λ u j e same. absurd (omega arith)) t
    (omega arith) r
by_turns functions limit (suc k) t r =
    by_size functions limit (suc k) (suc (left_over t.state))
    (λ u j e same. let one : j ≡ k = omega arith in by_turns functions limit k u (omega arith)) t (omega arith) r

pub some_outcome : SomeOutcome
some_outcome functions start limit h = by_turns functions limit (limit - start.turns) start (omega arith)
