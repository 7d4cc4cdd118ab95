-- From a state on, a run ends having written a given text. Facts of this form are put in front of one another, one step at a time.
use Rattle.std.proofs.Common.{◌≡◌, ℕ, ◌+◌, ◌≤◌, false, List, [], ◌++◌, Some, ap, sym, subst, arith}
use Rattle.a95_base.specs.Outcome.{Finished, Ended}
use Rattle.loop_tree.specs.declared.tree.Function.{Function}
use Rattle.loop_tree.specs.State.{State, Comes, Goes, Ends}
use Rattle.loop_tree.specs.Machine.{step}
use Rattle.loop_tree.specs.Run.{Configuration, configuration, FinishesAt}
use Rattle.loop_laws.specs.Meets.{Expected, expected, Meets}
use Rattle.loop_laws.proofs.Meets as laws

-- what is to be written, within so many turns in all
abbrev pub written_within : ℕ → ℕ → List ℕ → Expected
written_within limit turns final = expected limit turns final (Finished (Comes Ended))

-- with at most `cost` more turns, however many were begun before
pub record Good (functions : List Function) (final : List ℕ) (cost : ℕ) (written : List ℕ) (s : State) : Type 0 where
  pub go : (turns limit : ℕ) → Meets functions (configuration turns written s) (written_within limit (turns + cost) final)

module _ (functions : List Function) (final : List ℕ) where
  -- the same number of turns, written in another way
  pub turns_are : (start : Configuration) (limit turns other : ℕ) → turns ≡ other →
      Meets functions start (written_within limit turns final) → Meets functions start (written_within limit other final)
  turns_are start limit turns other e m = subst (λ (n : ℕ). Meets functions start (written_within limit n final)) e m

  pub ended : (written : List ℕ) (s : State) → step functions s ≡ Ends (Comes Ended) → written ≡ final →
      Good functions final 0 written s
  ended written s e w = record {
    go = λ turns limit. laws.ends e (ap (λ (o : List ℕ). Some (record { written = o; outcome = Finished (Comes Ended) })) (sym w))
        (omega arith);
  }

  -- more turns are allowed
  pub cheaper : (cost most : ℕ) (written : List ℕ) (s : State) → cost ≤ most → Good functions final cost written s →
      Good functions final most written s
  cheaper cost most written s h g = record {
    go = λ turns limit. let f : FinishesAt functions (configuration turns written s) (turns + cost) final (Comes Ended) =
        (g.go turns limit).by in
        record {
          by =
              record { last = f.last; leads = f.leads; within = omega (arith, f.within, h); output = f.output; ends = f.ends };
        };
  }

  pub silent : (cost : ℕ) (written : List ℕ) (s s' : State) → step functions s ≡ Goes false [] s' →
      Good functions final cost written s' → Good functions final cost written s
  silent cost written s s' e g = record { go = λ turns limit. laws.silent e (g.go turns limit) }

  pub writes : (cost : ℕ) (written bytes : List ℕ) (s s' : State) → step functions s ≡ Goes false bytes s' →
      Good functions final cost (written ++ bytes) s' → Good functions final cost written s
  writes cost written bytes s s' e g = record { go = λ turns limit. laws.writes e (g.go turns limit) }
