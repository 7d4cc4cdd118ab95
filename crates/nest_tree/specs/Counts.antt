-- What is known of the count of entries, and of turns: each turn is paid for by an entry before it, so a run that may begin no
-- more turns has more entries than turns.
use Rattle.std.specs.Prelude.{◌≡◌, ℕ, suc, ◌+◌, ◌*◌, ◌-◌, ◌<◌, ◌≤◌, List, [], ◌∷◌, slice_index}
use Rattle.a95_base.specs.Outcome.{Going}
use Rattle.rank_shape.specs.Order.{Level}
use Rattle.nest_tree.specs.Plain.{NestUnit}
use Rattle.nest_tree.specs.State.{NestState, Step}
use Rattle.nest_tree.specs.Statements.{loops}
use Rattle.nest_tree.specs.Run.{nest_run, entries}

-- a run that goes on has begun all its turns, and has entered once more
abbrev pub TurnsArePaid : Type 0
TurnsArePaid = (unit : NestUnit) (input : List ℕ) (turns : ℕ) → (nest_run unit input turns).outcome ≡ Going
    → turns < entries unit input turns

-- the entries of loops that all run, where each turn of the innermost body adds so many
abbrev pub entries_of : List Level → List ℕ → ℕ → ℕ
entries_of [] extents each = each
entries_of (level ∷ inner) extents each = slice_index extents (level.number - 1) * suc (entries_of inner extents each)

-- a step adds no more entries than so many, however it comes out
pub record AddsAtMost {A : Type 0} (each : ℕ) (step : Step A) : Type 0 where
  pub adds : (n : NestState) → (step n).after.entries ≤ n.entries + each

-- loops add at most the entries of loops that all run
abbrev pub LoopsAreBounded : Type 0
LoopsAreBounded = (body : List ℕ → Step (Unit {0})) (each : ℕ) → ((turn : List ℕ) → AddsAtMost each (body turn))
    → (order : List Level) (extents turn : List ℕ) → AddsAtMost (entries_of order extents each) (loops body order extents turn)
