-- Nested loops run the turns of a walk, and two loops one after the other are one.
use Rattle.std.proofs.Common.{◌≡◌, ℕ, ◌-◌, List, [], ◌∷◌, ◌++◌, Result, Ok, Err, get_or, set, refl, sym, ap, ◌∙◌}
use Rattle.std.specs.List.{flat_map}
use Rattle.a95_base.specs.Lists.{Every, Pairwise}
use Rattle.rank_shape.specs.Order.{Level}
use Rattle.rank_shape.specs.Walk.{turns_of, tour_from}
use Rattle.store_laws.specs.Store.{and_then, Evaluated, Statement, direct}
use Rattle.store_laws.specs.Loops.{run_each, nested, both, IsQuiet, KeepsSound, Passes}
use Rattle.store_laws.proofs.StoreLaws.{then_then, then_same}

pub then_ok : {A F : Type 0} (r : Result A F) → and_then r (λ a. let answer : Result A F = Ok a in answer) ≡ r
then_ok (Ok a) = refl
then_ok (Err stop) = refl

pub run_each-append : {T S F : Type 0} (body : T → S → Result S F) (xs ys : List T) (s : S) → run_each body (xs ++ ys) s
    ≡ and_then (run_each body xs s) (run_each body ys)
run_each-append body [] ys s = refl
run_each-append body (x ∷ xs) ys s =
    then_same (body x s) (run_each body (xs ++ ys)) (λ t. and_then (run_each body xs t) (run_each body ys))
    (λ t is. run_each-append body xs ys t)
    ∙ sym (then_then (body x s) (run_each body xs) (run_each body ys))

pub run_each-flat_map : {T U S F : Type 0} (body : U → S → Result S F) (f : T → List U) (xs : List T) (s : S) →
    run_each body (flat_map f xs) s ≡ run_each (λ x t. run_each body (f x) t) xs s
run_each-flat_map body f [] s = refl
run_each-flat_map body f (x ∷ xs) s =
    run_each-append body (f x) (flat_map f xs) s
    ∙ then_same (run_each body (f x) s) (run_each body (flat_map f xs)) (run_each (λ y t. run_each body (f y) t) xs)
    (λ t is. run_each-flat_map body f xs t)

pub run_each_same : {T S F : Type 0} (body other : T → S → Result S F) → ((x : T) (s : S) → body x s ≡ other x s) →
    (xs : List T) (s : S) → run_each body xs s ≡ run_each other xs s
run_each_same body other same [] s = refl
run_each_same body other same (x ∷ xs) s =
    ap (λ r. and_then r (run_each body xs)) (same x s)
    ∙ then_same (other x s) (run_each body xs) (run_each other xs) (λ t is. run_each_same body other same xs t)

pub nested_runs : {S F : Type 0} (body : List ℕ → S → Result S F) (order : List Level) (extents place : List ℕ) (s : S) →
    nested body order extents place s ≡ run_each body (tour_from order extents place) s
nested_runs body [] extents place s = sym (then_ok (body place s))
nested_runs body (level ∷ inner) extents place s =
    let k : ℕ = level.number - 1 in
    let turns : List ℕ = turns_of level.down (get_or extents k 0) in
    run_each_same (λ i t. nested body inner extents (set place k i) t)
    (λ i t. run_each body (tour_from inner extents (set place k i)) t) (λ i t. nested_runs body inner extents (set place k i) t)
    turns s
    ∙ sym (run_each-flat_map body (λ i. tour_from inner extents (set place k i)) turns s)

-- storing at once is a loop
pub direct_runs : {T S V F : Type 0} (statement : Statement T S V F) (turns : List T) (s : S) → direct statement turns s
    ≡ run_each (λ t x. and_then (statement.evaluate t x) (λ e. Ok (statement.store t e.value e.after))) turns s
direct_runs statement [] s = refl
direct_runs {T} {S} {V} {F} statement (t ∷ turns) s =
    let put : Evaluated V S → Result S F = λ e. Ok (statement.store t e.value e.after) in
    then_same (statement.evaluate t s) (λ e. direct statement turns (statement.store t e.value e.after))
    (λ e. and_then (put e)
    (run_each (λ u x. and_then (statement.evaluate u x) (λ d. Ok (statement.store u d.value d.after))) turns))
    (λ e is. direct_runs statement turns (statement.store t e.value e.after))
    ∙ sym (then_then (statement.evaluate t s) put
    (run_each (λ u x. and_then (statement.evaluate u x) (λ d. Ok (statement.store u d.value d.after))) turns))

module _ {T S F : Type 0} (first : T → S → Result S F) (Sound : S → Type 0) where
  -- a quiet loop never stops
  loop_quiet : (turns : List T) (s : S) → Every (IsQuiet first Sound) turns → Sound s →
      (after : S) × ((run_each first turns s ≡ Ok after) × Sound after)
  loop_quiet [] s quiet sound = (s, (refl, sound))
  loop_quiet (t ∷ turns) s quiet sound =
      let one = quiet.0.goes s sound in
      let rest = loop_quiet turns one.0 quiet.1 one.1.1 in
      (rest.0, (ap (λ r. and_then r (run_each first turns)) one.1.0 ∙ rest.1.0, rest.1.1))

  -- a step that passes each turn of a quiet loop passes the loop
  pub step_passes : (step : S → Result S F) (turns : List T) (s : S) → Every (IsQuiet first Sound) turns →
      Every (Passes step first Sound) turns → Sound s → and_then (step s) (run_each first turns)
      ≡ and_then (run_each first turns s) step
  step_passes step [] s quiet passes sound = then_ok (step s)
  step_passes step (t ∷ turns) s quiet passes sound =
      let one = quiet.0.goes s sound in
      sym (then_then (step s) (first t) (run_each first turns))
      ∙ ap (λ r. and_then r (run_each first turns)) (passes.0.same s sound)
      ∙ ap (λ r. and_then (and_then r step) (run_each first turns)) one.1.0
      ∙ step_passes step turns one.0 quiet.1 passes.1 one.1.1
      ∙ sym (ap (λ r. and_then (and_then r (run_each first turns)) step) one.1.0)

  pub loops_fused : (second : T → S → Result S F) (turns : List T) (s : S) → Every (IsQuiet first Sound) turns →
      Every (λ t. KeepsSound (second t) Sound) turns → Pairwise (λ t later. Passes (second t) first Sound later) turns → Sound s →
      and_then (run_each first turns s) (run_each second turns) ≡ run_each (both first second) turns s
  loops_fused second [] s quiet keeps passes sound = refl
  loops_fused second (t ∷ turns) s quiet keeps passes sound =
      let one = quiet.0.goes s sound in
      ap (λ r. and_then (and_then r (run_each first turns)) (run_each second (t ∷ turns))) one.1.0
      ∙ sym (then_then (run_each first turns one.0) (second t) (run_each second turns))
      ∙ ap (λ r. and_then r (run_each second turns)) (sym (step_passes (second t) turns one.0 quiet.1 passes.0 one.1.1))
      ∙ then_then (second t one.0) (run_each first turns) (run_each second turns)
      ∙ then_same (second t one.0) (λ x. and_then (run_each first turns x) (run_each second turns))
      (run_each (both first second) turns)
      (λ x is. loops_fused second turns x quiet.1 keeps.1 passes.1 (keeps.0.kept one.0 x one.1.1 is))
      ∙ sym (ap (λ r. and_then (and_then r (second t)) (run_each (both first second) turns)) one.1.0)
