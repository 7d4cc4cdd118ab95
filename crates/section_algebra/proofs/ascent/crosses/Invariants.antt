use Rattle.std.proofs.Common.{ℕ, ◌+◌, ◌*◌, ◌<◌, ◌≤◌}
use Rattle.section_algebra.specs.Ascent.{IsOn}
use Rattle.section_algebra.proofs.ascent.crosses.Given as goal

abbrev pub invariant-loop-turn : goal.invariant-loop-turn
invariant-loop-turn l =
    (k : ℕ) → l.skipped ≤ k → k < l.turn → IsOn (l.ascent.first + k * l.ascent.step) l.other.first l.other.step l.other.count
    → ⊥
