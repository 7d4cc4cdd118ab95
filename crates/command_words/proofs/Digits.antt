-- Numbers of a few digits.
use Rattle.std.proofs.Common.{ℕ, suc, ◌+◌, ◌-◌, ◌*◌, ◌^◌, ◌<◌, ◌≤◌, arith}
use Rattle.std.proofs.Math.Nat.{pow-le-pow_right, pow-suc}

-- one digit more
abbrev pub with_digit : ℕ → ℕ → ℕ
with_digit n c = 10 * n + (c - 48)

-- a number of fewer than 38 digits has room for one more in 128 bits
pub room : (i n : ℕ) → i < 38 → n < 10 ^ i → 10 * n + 10 ≤ 10 ^ 38
room i n few small =
    let most : 10 ^ suc i ≤ 10 ^ 38 = pow-le-pow_right {n = 10} (omega arith) {i = suc i} {j = 38} (omega (arith, few)) in
    omega (arith, small, most, pow-suc 10 i)
