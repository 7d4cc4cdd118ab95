-- The 32-bit INTEGER: its operators, and the elemental functions on integers.
use Rattle.std.specs.Prelude.{ℕ, ℤ, pos, negsuc, neg_ℤ, zero, suc, ◌^◌, ◌+ℤ◌, ◌-ℤ◌, ◌*ℤ◌, int_div, int_le, unsigned_abs}
use Rattle.std.specs.Prelude.{if◌then◌else◌, Option, Some, None}
use Rattle.std.specs.Int.{int_rem_euclid, int_pow, int_min, int_max, int_bit_and, int_bit_or, int_bit_xor, w32}
use Rattle.std.specs.Ordering.{int_eq}

-- the value modulo 2 ^ 32 that lies from -2 ^ 31 to 2 ^ 31 - 1
unfoldable pub wrapped : ℤ → ℤ
wrapped x = int_rem_euclid (x +ℤ pos (2 ^ 31)) (pos (2 ^ 32)) -ℤ pos (2 ^ 31)

-- ---- operators

abbrev pub sum_of : ℤ → ℤ → ℤ
sum_of x y = wrapped (x +ℤ y)

abbrev pub difference_of : ℤ → ℤ → ℤ
difference_of x y = wrapped (x -ℤ y)

abbrev pub product_of : ℤ → ℤ → ℤ
product_of x y = wrapped (x *ℤ y)

abbrev pub negation_of : ℤ → ℤ
negation_of x = wrapped (neg_ℤ x)

-- division cuts off towards zero; there is none by zero
abbrev pub quotient_of : ℤ → ℤ → Option ℤ
quotient_of x y = if int_eq y (pos 0) then None else Some (wrapped (int_div x y))

-- the power by an exponent that isn't negative
abbrev pub raised : ℤ → ℕ → ℤ
raised x n = wrapped (int_pow x n)

-- by a negative one it is one divided by the exact power
abbrev pub power_of : ℤ → ℤ → Option ℤ
power_of x (pos n) = Some (raised x n)
power_of x (negsuc n) = quotient_of (pos 1) (int_pow x (suc n))

-- ---- functions

-- MOD(a, p) is a - INT(a / p) * p
abbrev pub remainder_of : ℤ → ℤ → Option ℤ
remainder_of a p = if int_eq p (pos 0) then None else Some (a -ℤ int_div a p *ℤ p)

-- MODULO(a, p): how far a lies from the multiple of p that is nearest to it on the side that p comes from
abbrev pub modulo_of : ℤ → ℤ → Option ℤ
modulo_of a (pos zero) = None
modulo_of a (pos (suc n)) = Some (int_rem_euclid a (pos (suc n)))
modulo_of a (negsuc n) = Some (neg_ℤ (int_rem_euclid (neg_ℤ a) (pos (suc n))))

abbrev pub absolute_of : ℤ → ℤ
absolute_of x = wrapped (pos (unsigned_abs x))

-- SIGN(x, y): the absolute value of x where y isn't negative, else its negative
abbrev pub sign_of : ℤ → ℤ → ℤ
sign_of x y = if int_le (pos 0) y then absolute_of x else wrapped (neg_ℤ (pos (unsigned_abs x)))

abbrev pub greater_of : ℤ → ℤ → ℤ
greater_of x y = int_max x y

abbrev pub lesser_of : ℤ → ℤ → ℤ
lesser_of x y = int_min x y

-- IAND, IOR and IEOR, bit by bit
abbrev pub and_of : ℤ → ℤ → ℤ
and_of x y = int_bit_and w32 x y

abbrev pub or_of : ℤ → ℤ → ℤ
or_of x y = int_bit_or w32 x y

abbrev pub exclusive_or_of : ℤ → ℤ → ℤ
exclusive_or_of x y = int_bit_xor w32 x y
