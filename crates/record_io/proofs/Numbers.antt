-- Numbers that digits write, up to the largest that is told.
use Rattle.std.proofs.Common.{◌≡◌, ℕ, ◌+◌, ◌-◌, ◌*◌, ◌^◌, min, Bool, List, length, arith}
use Rattle.std.specs.Prelude.{fold, Some, None, position}
use Rattle.std.specs.List.{position_or_len}
use Rattle.std.proofs.lemmas.List.Folds.{fold_along}
use Rattle.std.proofs.lemmas.Bool.Decides.{nat_tests}

-- one digit more
abbrev pub with_digit : ℕ → ℕ → ℕ
with_digit n c = 10 * n + (c - 48)

abbrev Alike : ℕ → ℕ → Type 0
Alike n m = min n (2 ^ 32) ≡ min m (2 ^ 32)

alike_step : (n m c : ℕ) → Alike n m → Alike (with_digit n c) (with_digit m c)
alike_step n m c h = omega arith

-- two numbers that are alike up to the most stay so with the same digits behind them
pub alike_on : (n m : ℕ) (digits : List ℕ) → min n (2 ^ 32) ≡ min m (2 ^ 32)
    → min (fold with_digit n digits) (2 ^ 32) ≡ min (fold with_digit m digits) (2 ^ 32)
alike_on n m digits h = fold_along with_digit with_digit Alike alike_step n m digits h

-- the place of the first that passes
pub position_found : (p : ℕ → Bool) (xs : List ℕ) (n : ℕ) → Some n ≡ position p xs
    → n + 1 ≡ min (position_or_len p xs + 1) (length xs)
position_found p xs n h = grind (arith, nat_tests)

pub position_missing : (p : ℕ → Bool) (xs : List ℕ) → None ≡ position p xs → length xs ≡ min (position_or_len p xs + 1) (length xs)
position_missing p xs h = grind (arith, nat_tests)
