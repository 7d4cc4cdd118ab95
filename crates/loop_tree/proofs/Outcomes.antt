-- Outcomes of runs. None opens a step.
use Rattle.std.proofs.Common.{◌≡◌, ℕ, zero, suc, ◌+◌, ◌≤◌, true, List, [], ◌++◌, Option, Some, None, refl, sym, ◌∙◌, ap, subst, inl}
use Rattle.std.proofs.Common.{inr, arith, add_assoc, append_assoc, append-nil}
use Rattle.a95_base.specs.Outcome.{Outcome, Finished, Going, IsPrefix}
use Rattle.loop_tree.specs.declared.tree.Function.{Function}
use Rattle.loop_tree.specs.State.{Next, Goes, Ends, End}
use Rattle.loop_tree.specs.Machine.{step}
use Rattle.loop_tree.specs.Run.{Configuration, configuration, count_turn, after, one_step, steps, Reaches, begins_turn, FinishesAt}
use Rattle.loop_tree.specs.Run.{GoesOnAt, Runs}
use Rattle.loop_tree.specs.RunLaws.{OneOutcome, EndStays, OutputGrows, TurnsAdd}
use Rattle.loop_tree.proofs.Runs.{joins, linear, grows, last, not_past, Grows}

-- ---- one outcome

-- where two runs stand at one place with one next step
same_ends : (functions : List Function) (a b : Configuration) (how other : End) → b ≡ a → step functions a.state ≡ Ends how →
    step functions b.state ≡ Ends other → how ≡ other
same_ends functions a b how other same e f =
    let both : step functions b.state ≡ step functions a.state = ap (λ (t : Configuration). step functions t.state) same in
    cc

two_ends : (functions : List Function) (start : Configuration) (limit : ℕ) (written other : List ℕ) (how second : End)
    (f : FinishesAt functions start limit written how) (g : FinishesAt functions start limit other second) → g.last ≡ f.last →
    (written ≡ other) × (Finished how ≡ Finished second)
two_ends functions start limit written other how second f g same = (
  sym f.output ∙ (ap (λ (t : Configuration). t.written) (sym same) ∙ g.output),
  ap Finished (same_ends functions f.last g.last how second same f.ends g.ends),
)

-- an end is not a place where a turn would begin
end_waits : (functions : List Function) (a b : Configuration) (how : End) → b ≡ a → step functions a.state ≡ Ends how →
    begins_turn (step functions b.state) ≡ true → ⊥
end_waits functions a b how same e w =
    let both : begins_turn (step functions b.state) ≡ begins_turn (Ends how) =
    ap (λ (t : Configuration). begins_turn (step functions t.state)) same ∙ ap begins_turn e in
    absurd cc

end_and_wait : (functions : List Function) (start : Configuration) (limit : ℕ) (written other : List ℕ) (how : End) →
    FinishesAt functions start limit written how → GoesOnAt functions start limit other → ⊥
end_and_wait functions start limit written other how f g =
    elim (linear functions start f.last g.last f.leads g.leads) [
      | inl way ↦ end_waits functions f.last g.last how (last functions f.last g.last how f.ends way) f.ends g.waits
      | inr way ↦ let h : f.last.turns ≤ g.last.turns = omega (arith, f.within, g.spent) in
          end_waits functions f.last g.last how (sym (not_past functions g.last f.last g.waits h way)) f.ends g.waits
    ]

two_waits : (functions : List Function) (start : Configuration) (limit : ℕ) (written other : List ℕ)
    (f : GoesOnAt functions start limit written) (g : GoesOnAt functions start limit other) → g.last ≡ f.last
two_waits functions start limit written other f g =
    let below : g.last.turns ≤ f.last.turns = omega (arith, f.spent, g.spent) in
    let above : f.last.turns ≤ g.last.turns = omega (arith, f.spent, g.spent) in
    elim (linear functions start f.last g.last f.leads g.leads) [
      | inl way ↦ not_past functions f.last g.last f.waits below way
      | inr way ↦ sym (not_past functions g.last f.last g.waits above way)
    ]

pub one_outcome : OneOutcome
one_outcome functions start limit written other (Finished how) (Finished second) f g =
    elim (linear functions start f.last g.last f.leads g.leads) [
      | inl way ↦ two_ends functions start limit written other how second f g (last functions f.last g.last how f.ends way)
      | inr way ↦ two_ends functions start limit written other how second f g (sym (last functions g.last f.last second g.ends way))
    ]
one_outcome functions start limit written other (Finished how) Going f g =
    absurd (end_and_wait functions start limit written other how f g)
one_outcome functions start limit written other Going (Finished how) f g =
    absurd (end_and_wait functions start limit other written how g f)
one_outcome functions start limit written other Going Going f g = (
  sym f.output ∙ (ap (λ (t : Configuration). t.written) (sym (two_waits functions start limit written other f g)) ∙ g.output),
  refl,
)

-- ---- more turns

pub end_stays : EndStays
end_stays functions start limit more written how h f =
    record { last = f.last; leads = f.leads; within = omega (arith, f.within); output = f.output; ends = f.ends }

-- the place where a run with more turns stands lies behind that of one with fewer
prefix_by : (a b : Configuration) (written other : List ℕ) → Grows a b → a.written ≡ written → b.written ≡ other →
    IsPrefix written other
prefix_by a b written other g e f = record { more = g.more; is = sym f ∙ (g.written ∙ ap (λ t. t ++ g.more) e) }

prefix_of_same : (a b : Configuration) (written other : List ℕ) → b ≡ a → a.written ≡ written → b.written ≡ other →
    IsPrefix written other
prefix_of_same a b written other same e f =
    record { more = []; is = sym f ∙ (ap (λ (t : Configuration). t.written) same ∙ (e ∙ sym (append-nil written))) }

pub output_grows : OutputGrows
output_grows functions start limit more written other (Finished how) (Finished second) h f g =
    let same = one_outcome functions start more written other (Finished how) (Finished second)
    (end_stays functions start limit more written how h f) g in
    record { more = []; is = sym same.0 ∙ sym (append-nil written) }
output_grows functions start limit more written other (Finished how) Going h f g =
    absurd (end_and_wait functions start more written other how (end_stays functions start limit more written how h f) g)
output_grows functions start limit more written other Going (Finished how) h f g =
    elim (linear functions start f.last g.last f.leads g.leads) [
      | inl way ↦ prefix_by f.last g.last written other (grows functions f.last g.last way) f.output g.output
      | inr way ↦ prefix_of_same f.last g.last written other (sym (last functions g.last f.last how g.ends way)) f.output g.output
    ]
output_grows functions start limit more written other Going Going h f g =
    elim (linear functions start f.last g.last f.leads g.leads) [
      | inl way ↦ prefix_by f.last g.last written other (grows functions f.last g.last way) f.output g.output
      | inr way ↦ let above : f.last.turns ≤ g.last.turns = omega (arith, f.spent, g.spent) in
          prefix_of_same f.last g.last written other (sym (not_past functions g.last f.last g.waits above way)) f.output g.output
    ]

-- ---- turns and output before a place don't matter

abbrev pub moved : ℕ → List ℕ → Configuration → Configuration
moved turns written t = configuration (turns + t.turns) (written ++ t.written) t.state

abbrev moved_option : ℕ → List ℕ → Option Configuration → Option Configuration
moved_option turns written None = None
moved_option turns written (Some t) = Some (moved turns written t)

after_moved : (turns : ℕ) (written : List ℕ) (t : Configuration) (next : Next) → after (moved turns written t) next
    ≡ moved_option turns written (after t next)
after_moved turns written t (Goes turn new s) =
    ap (λ n. Some (configuration n ((written ++ t.written) ++ new) s)) (add_assoc turns t.turns (count_turn turn))
    ∙ ap (λ o. Some (configuration (turns + (t.turns + count_turn turn)) o s)) (append_assoc written t.written new)
after_moved turns written t (Ends how) = refl

step_moved : (functions : List Function) (turns : ℕ) (written : List ℕ) (o : Option Configuration) →
    one_step functions (moved_option turns written o) ≡ moved_option turns written (one_step functions o)
step_moved functions turns written None = refl
step_moved functions turns written (Some t) = after_moved turns written t (step functions t.state)

steps_moved : (functions : List Function) (turns : ℕ) (written : List ℕ) (n : ℕ) (t : Configuration) →
    steps functions n (moved turns written t) ≡ moved_option turns written (steps functions n t)
unfolding steps
steps_moved functions turns written zero t = refl
steps_moved functions turns written (suc n) t = ap (one_step functions) (steps_moved functions turns written n t)
    ∙ step_moved functions turns written (steps functions n t)

pub leads_moved : (functions : List Function) (turns : ℕ) (written : List ℕ) (a b : Configuration) → Reaches functions a b →
    Reaches functions (moved turns written a) (moved turns written b)
leads_moved functions turns written a b f =
    record { count = f.count; there = steps_moved functions turns written f.count a ∙ ap (moved_option turns written) f.there }

pub runs_moved : (functions : List Function) (turns : ℕ) (written : List ℕ) (start : Configuration) (limit : ℕ) (other : List ℕ)
    (outcome : Outcome End) →
    Runs functions start limit other outcome → Runs functions (moved turns written start) (turns + limit) (written ++ other) outcome
runs_moved functions turns written start limit other (Finished how) f =
    record {
      last = moved turns written f.last;
      leads = leads_moved functions turns written start f.last f.leads;
      within =
          omega (arith, f.within);
      output = ap (λ t. written ++ t) f.output;
      ends = f.ends;
    }
runs_moved functions turns written start limit other Going f =
    record {
      last = moved turns written f.last;
      leads = leads_moved functions turns written start f.last f.leads;
      spent =
          ap (λ n. turns + n) f.spent;
      output = ap (λ t. written ++ t) f.output;
      waits = f.waits;
    }

-- a run from the end of a way is a run from its beginning
pub runs_behind : (functions : List Function) (a b : Configuration) (limit : ℕ) (written : List ℕ) (outcome : Outcome End) →
    Reaches functions a b → Runs functions b limit written outcome → Runs functions a limit written outcome
runs_behind functions a b limit written (Finished how) way f =
    record { last = f.last; leads = joins functions a b f.last way f.leads; within = f.within; output = f.output; ends = f.ends }
runs_behind functions a b limit written Going way f =
    record { last = f.last; leads = joins functions a b f.last way f.leads; spent = f.spent; output = f.output; waits = f.waits }

at_zero : (turns : ℕ) (written : List ℕ) (t : Configuration) → t.turns ≡ turns → t.written ≡ written →
    moved turns written (configuration 0 [] t.state) ≡ t
at_zero turns written t e f =
    let first : turns + 0 ≡ t.turns = omega arith in
    ap (λ n. configuration n (written ++ []) t.state) first ∙ ap (λ o. configuration t.turns o t.state) (append-nil written ∙ sym f)

pub turns_add : TurnsAdd
turns_add functions start limit more written other outcome waits f =
    let there = runs_moved functions limit written (configuration 0 [] waits.last.state) more other outcome f in
    let here = subst (λ t. Runs functions t (limit + more) (written ++ other) outcome)
    (at_zero limit written waits.last waits.spent waits.output) there in
    runs_behind functions start waits.last (limit + more) (written ++ other) outcome waits.leads here
