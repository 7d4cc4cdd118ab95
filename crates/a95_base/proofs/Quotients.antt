-- Quotients of INTEGERs, and what division leaves.
use Rattle.std.proofs.Common.{◌≡◌, ◌≢◌, ℕ, zero, suc, ◌-◌, ◌/◌, ◌%◌, ◌^◌, ◌<◌, ◌≤◌, false, ℤ, pos, ◌+ℤ◌, ◌-ℤ◌, ◌*ℤ◌, FitsSigned, w8}
use Rattle.std.proofs.Common.{w16, w32, w64, refl, sym, ap, ◌∙◌, subst, arith}
use mir.Syntax.{w128}
use mir.Val.{bits, hbits}
use Rattle.std.specs.Prelude.{negsuc, unsigned_abs, int_div, int_rem, neg_ℤ, Some}
use Rattle.std.specs.Int.{Width, int_wrap, int_wrapping_div, cast_signed, cast_unsigned}
use Rattle.std.specs.Ordering.{int_eq}
use Rattle.std.proofs.Math.Nat.{div-le_self, mod-eq_of_lt}
use Rattle.std.proofs.lemmas.Bool.{false_from_ne_true}
use Rattle.std.proofs.lemmas.Bool.Decides.{Decides-int_eq}
use Rattle.std.proofs.lemmas.Int.{ints, quot-rem}
use Rattle.a95_base.specs.Integer.{quotient_of, remainder_of}
use Rattle.a95_base.proofs.Wrapping.{wrapped_is}

pub abs_neg : (n : ℕ) → unsigned_abs (neg_ℤ (pos n)) ≡ n
abs_neg zero = refl
abs_neg (suc n) = refl

pub abs_div : (x y : ℤ) → unsigned_abs (int_div x y) ≤ unsigned_abs x
abs_div (pos a) (pos b) = div-le_self a b
abs_div (pos a) (negsuc b) = subst (λ n. n ≤ a) (sym (abs_neg (a / suc b))) (div-le_self a (suc b))
abs_div (negsuc a) (pos b) = subst (λ n. n ≤ suc a) (sym (abs_neg (suc a / b))) (div-le_self (suc a) b)
abs_div (negsuc a) (negsuc b) = div-le_self (suc a) (suc b)

-- a number of the width but for its sign
half : (w : Width) → 2 ^ hbits w < 2 ^ bits w
half w8 = omega arith
half w16 = omega arith
half w32 = omega arith
half w64 = omega arith
half w128 = omega arith

wrap_near : (w : Width) (z : ℤ) → unsigned_abs z ≤ 2 ^ hbits w → cast_signed w (cast_unsigned w z) ≡ int_wrap w z
unfolding int_wrap
wrap_near w (pos n) h = let low : n % 2 ^ bits w ≡ n = mod-eq_of_lt (omega (arith, half w)) in ap (cast_signed w) (sym low)
wrap_near w (negsuc n) h =
    let low : n % 2 ^ bits w ≡ n = mod-eq_of_lt (omega (arith, half w)) in
    let e : 2 ^ bits w - suc n ≡ 2 ^ bits w - 1 - n % 2 ^ bits w = omega (arith, low) in
    ap (cast_signed w) e

fits_abs : (w : Width) (z : ℤ) → FitsSigned w z → unsigned_abs z ≤ 2 ^ hbits w
fits_abs w (pos n) h = omega arith
fits_abs w (negsuc n) h = omega arith

-- a wrapping division at any width
pub div_wraps : (w : Width) (x y : ℤ) → FitsSigned w x → int_wrapping_div w x y ≡ int_wrap w (int_div x y)
div_wraps w x y fits = wrap_near w (int_div x y) (omega (arith, abs_div x y, fits_abs w x fits))

pub not_zero : (y : ℤ) → y ≢ pos 0 → int_eq y (pos 0) ≡ false
not_zero y h = false_from_ne_true (int_eq y (pos 0)) (λ same. h ((Decides-int_eq y (pos 0)).0 same))

pub divided : (x y : ℤ) → FitsSigned w32 x → y ≢ pos 0 → Some (int_wrapping_div w32 x y) ≡ quotient_of x y
divided x y fits h = rw (not_zero y h) (ap Some (div_wraps w32 x y fits ∙ sym (wrapped_is (int_div x y))))

taken : (q p r a : ℤ) → q *ℤ p +ℤ r ≡ a → r ≡ a -ℤ q *ℤ p
taken q p r a e = omega (arith, ints, e)

pub left_over : (a p : ℤ) → p ≢ pos 0 → Some (int_rem a p) ≡ remainder_of a p
left_over a p h =
    rw (not_zero p h) (ap Some (taken (int_div a p) p (int_rem a p) a (quot-rem a p)))
