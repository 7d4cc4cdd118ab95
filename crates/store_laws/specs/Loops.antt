-- Loops that run a body in each of their turns, and stop with it.
use Rattle.std.specs.Prelude.{◌≡◌, ℕ, ◌-◌, List, [], ◌∷◌, Result, Ok, map, slice_index, slice_set}
use Rattle.rank_shape.specs.Order.{Level}
use Rattle.rank_shape.specs.Walk.{turns_of}
use Rattle.store_laws.specs.Store.{and_then}

abbrev pub run_each : {T S F : Type 0} → (T → S → Result S F) → List T → S → Result S F
run_each body [] s = Ok s
run_each body (turn ∷ turns) s = and_then (body turn s) (run_each body turns)

-- nested loops, outermost first; the body has the place that they have come to
abbrev pub nested : {S F : Type 0} → (List ℕ → S → Result S F) → List Level → List ℕ → List ℕ → S → Result S F
nested body [] extents place s = body place s
nested body (level ∷ inner) extents place s =
    run_each (λ i s. nested body inner extents (slice_set place (level.number - 1) i) s)
    (turns_of level.down (slice_index extents (level.number - 1))) s

-- the place at which all loops stand before the first turn
abbrev pub start_of : List ℕ → List ℕ
start_of = map (λ extent. 0)

-- the body of two loops made one
abbrev pub both : {T S F : Type 0} → (T → S → Result S F) → (T → S → Result S F) → T → S → Result S F
both first second turn s = and_then (first turn s) (second turn)

-- a turn that never stops the run
pub record IsQuiet {T S F : Type 0} (body : T → S → Result S F) (Sound : S → Type 0) (turn : T) : Type 0 where
  pub goes : (s : S) → Sound s → (after : S) × ((body turn s ≡ Ok after) × Sound after)

-- a step keeps the states sound
pub record KeepsSound {S F : Type 0} (step : S → Result S F) (Sound : S → Type 0) : Type 0 where
  pub kept : (s after : S) → Sound s → step s ≡ Ok after → Sound after

-- a step and a turn of a loop may change places, also where the step stops the run
pub record Passes {T S F : Type 0} (step : S → Result S F) (body : T → S → Result S F) (Sound : S → Type 0) (turn : T) : Type 0
  where
    pub same : (s : S) → Sound s → and_then (step s) (body turn) ≡ and_then (body turn s) step
