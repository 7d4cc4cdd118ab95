-- A dimension's subscripts as natural numbers that rise, counted from -2^31. No public clause cites this.
use Rattle.std.specs.Prelude.{◌≡◌, ℕ, ℤ, pos, ◌+◌, ◌*◌, ◌^◌, ◌<◌, ◌≤◌, ◌-ℤ◌}
use Rattle.a95_base.specs.Lists.{Member}
use Rattle.section_algebra.specs.Section.{Progression, subscripts_of}

-- numbers that rise, none of them past 32 bits
pub record IsAscent (first step count : ℕ) : Type 0 where
  pub rises : 0 < step
  pub step_small : step ≤ 2 ^ 31
  pub first_small : first < 2 ^ 32
  pub below : (k : ℕ) → k < count → first + k * step < 2 ^ 32

-- the number is first, first + step, .., one of so many
pub record IsOn (n first step count : ℕ) : Type 0 where
  pub turn : ℕ
  pub below : turn < count
  pub is : n ≡ first + turn * step

-- two such lists of numbers have one in common
pub record Crossing (first step count other other_step other_count : ℕ) : Type 0 where
  pub turn : ℕ
  pub other_turn : ℕ
  pub below : turn < count
  pub other_below : other_turn < other_count
  pub same : first + turn * step ≡ other + other_turn * other_step

-- the subscripts are these numbers, in some order
pub record Ascends (p : Progression) (first step : ℕ) : Type 0 where
  pub has : (k : ℕ) → k < p.count → Member (subscripts_of p) (pos (first + k * step) -ℤ pos 2147483648)
  pub only : (z : ℤ) → Member (subscripts_of p) z → (k : ℕ) × ((k < p.count) × (z ≡ pos (first + k * step) -ℤ pos 2147483648))
