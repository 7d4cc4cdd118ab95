-- What rows of 64 bits give of operators and functions on INTEGERs.
use Rattle.std.proofs.Common.{◌≡◌, ℕ, zero, suc, ◌+◌, ◌-◌, ◌*◌, ◌/◌, ◌%◌, ◌<◌, ◌≤◌, ◌<ℤ◌, true, false, refl, sym, ap, ◌∙◌, arith, ℤ, pos}
use Rattle.std.specs.Prelude.{FitsSigned, negsuc, Some, unsigned_abs, int_lt, int_div, int_rem, neg_ℤ, bit_and, bit_or, bit_xor, ◌+ℤ◌, ◌-ℤ◌, ◌*ℤ◌}
use Rattle.std.specs.Int.{w32, w64, cast_signed, cast_unsigned, int_wrap, int_rem_euclid, int_bit_and, int_bit_or, int_bit_xor}
use Rattle.std.specs.Ordering.{int_eq}
use Rattle.std.proofs.Math.Nat.{add-mod_right, mod-lt, mod-eq_of_lt, div-eq_of_lt, le_trans}
use Rattle.std.proofs.lemmas.Nat.{div-add-mod', mul-le, and_mod, or_mod, xor_mod, and_le_l, or_lt, xor_lt}
use Rattle.std.proofs.lemmas.Int.{ints, rem_below, int_rem_euclid_is, int_wrap_fits}
use Rattle.std.proofs.lemmas.Bool.Decides.{nat_tests, Decides-int_eq}
use Rattle.a95_base.specs.Integer.{wrapped, modulo_of, power_of}
use Rattle.loop_tree.specs.Values.{holds}
use Rattle.a95_base.proofs.Powers.{power_of_one, power_of_less_even, power_of_less_odd, power_of_more}
use Rattle.a95_base.proofs.Quotients.{not_zero as is_some_number}
use Rattle.a95_base.proofs.Wrapping.{wrapped_is, wrapped-int_wrap}
use Rattle.a95_base.proofs.Tests.{clash}
use Rattle.a95_base.proofs.Moduli.{some_divisor}

-- ---- divisors

pub not_zero : (p : ℤ) → int_eq p (pos 0) ≡ false → p ≡ pos 0 → ⊥
not_zero p e h = clash (int_eq p (pos 0)) ((Decides-int_eq p (pos 0)).1 h) e

pub abs_few : (p : ℤ) → FitsSigned w32 p → unsigned_abs p ≤ 2147483648
abs_few (pos k) f = omega (arith, f)
abs_few (negsuc k) f = omega (arith, f)

-- ---- absolute values

pub abs_below : (x : ℤ) → int_lt x (pos 0) ≡ true → neg_ℤ x ≡ pos (unsigned_abs x)
abs_below (pos n) h = absurd (clash (int_lt (pos n) (pos 0)) h (grind (arith, nat_tests)))
abs_below (negsuc n) h = refl

pub abs_above : (x : ℤ) → int_lt x (pos 0) ≡ false → x ≡ pos (unsigned_abs x)
abs_above (pos n) h = refl
abs_above (negsuc n) h = cc

-- ---- MODULO

sum_small : (z p : ℤ) → unsigned_abs z < unsigned_abs p → FitsSigned w32 p → int_wrap w64 (z +ℤ p) ≡ z +ℤ p
sum_small z p below fits = int_wrap_fits w64 (z +ℤ p) (by z p below (abs_few p fits))
  where
    by : (z p : ℤ) → unsigned_abs z < unsigned_abs p → unsigned_abs p ≤ 2147483648 → FitsSigned w64 (z +ℤ p)
    by (pos a) (pos b) h few = omega (arith, ints, h, few)
    by (pos a) (negsuc b) h few = omega (arith, ints, h, few)
    by (negsuc a) (pos b) h few = omega (arith, ints, h, few)
    by (negsuc a) (negsuc b) h few = omega (arith, ints, h, few)

pub remainder_and_divisor : (a p : ℤ) → int_eq p (pos 0) ≡ false → FitsSigned w32 p →
    int_wrap w64 (int_rem a p +ℤ p) ≡ int_rem a p +ℤ p
remainder_and_divisor a p e fits = sum_small (int_rem a p) p (rem_below a p (some_divisor p e)) fits

once_more : (r d : ℕ) → r < d → (r + d) % d ≡ r
once_more r d h = add-mod_right r d ∙ mod-eq_of_lt h

-- how far a number is below the next multiple
module _ (n : ℕ) where
  abbrev d : ℕ
  d = suc n

  rest_below : (z : ℤ) (m : ℕ) → neg_ℤ (pos m) ≡ z → int_rem_euclid z (pos d) ≡ pos ((d - m % d) % d)
  rest_below z m e =
      let more : suc (m / d) * d ≡ m / d * d + d = omega arith in
      let less : m % d < d = mod-lt m {m = d} (omega arith) in
      let parts = div-add-mod' m d in
      int_rem_euclid_is z (pos d) d (suc (m / d)) (d - m % d) (omega arith) refl (omega (arith, ints, e, more, less, parts))

  up : (r : ℕ) → r < d → neg_ℤ (pos r) +ℤ pos d ≡ pos (d - r)
  up r h = omega (arith, ints, h)

  down : (r : ℕ) → r < d → pos r +ℤ negsuc n ≡ neg_ℤ (pos (d - r))
  down r h = omega (arith, ints, h)

  twice : (r : ℕ) → neg_ℤ (pos r) +ℤ negsuc n ≡ neg_ℤ (pos (r + d))
  twice r = omega (arith, ints)

  negative_rest : (m : ℕ) → int_rem (neg_ℤ (pos m)) (negsuc n) ≡ neg_ℤ (pos (m % d))
  negative_rest zero =
      let none : 0 % d ≡ 0 = mod-eq_of_lt (omega arith) in ap pos none ∙ ap (λ k. neg_ℤ (pos k)) (sym none)
  negative_rest (suc m) = refl

pub modulo_by_rows : (a p : ℤ) → int_eq p (pos 0) ≡ false → modulo_of a p ≡ Some (int_rem (int_rem a p +ℤ p) p)
modulo_by_rows a (pos zero) e = cc
modulo_by_rows (pos a) (pos (suc n)) e =
    ap (λ k. Some (pos k)) (sym (once_more (a % suc n) (suc n) (mod-lt a {m = suc n} (omega arith))))
modulo_by_rows (negsuc a) (pos (suc n)) e =
    let less : suc a % suc n < suc n = mod-lt (suc a) {m = suc n} (omega arith) in
    ap Some (rest_below n (negsuc a) (suc a) refl)
    ∙ ap (λ z. Some (int_rem z (pos (suc n)))) (sym (up n (suc a % suc n) less))
modulo_by_rows (pos a) (negsuc n) e =
    let less : a % suc n < suc n = mod-lt a {m = suc n} (omega arith) in
    ap (λ z. Some (neg_ℤ z)) (rest_below n (neg_ℤ (pos a)) a refl)
    ∙ ap Some (sym (negative_rest n (suc n - a % suc n)))
    ∙ ap (λ z. Some (int_rem z (negsuc n))) (sym (down n (a % suc n) less))
modulo_by_rows (negsuc a) (negsuc n) e =
    let less : suc a % suc n < suc n = mod-lt (suc a) {m = suc n} (omega arith) in
    ap (λ k. Some (neg_ℤ (pos k))) (sym (once_more (suc a % suc n) (suc n) less))
    ∙ ap Some (sym (negative_rest n (suc a % suc n + suc n)))
    ∙ ap (λ z. Some (int_rem z (negsuc n))) (sym (twice n (suc a % suc n)))

-- ---- bits

low_bits : (x : ℤ) → FitsSigned w32 x → cast_unsigned w64 x % 4294967296 ≡ cast_unsigned w32 x
low_bits (pos n) h = omega (arith, h)
low_bits (negsuc n) h = omega (arith, h)

few_bits : (x : ℤ) → FitsSigned w32 x → cast_unsigned w64 x < 18446744073709551616
few_bits (pos n) h = omega (arith, h)
few_bits (negsuc n) h = omega (arith, h)

narrowed : (n : ℕ) → n < 18446744073709551616 → wrapped (cast_signed w64 n) ≡ cast_signed w32 (n % 4294967296)
unfolding int_wrap
narrowed n h =
    let low : n % 18446744073709551616 ≡ n = mod-eq_of_lt h in
    let whole : int_wrap w64 (pos n) ≡ cast_signed w64 n = ap (cast_signed w64) low in
    ap wrapped (sym whole) ∙ wrapped-int_wrap (pos n) ∙ wrapped_is (pos n)

by_bits : (f : ℕ → ℕ → ℕ) (x y : ℤ) → FitsSigned w32 x → FitsSigned w32 y →
    f (cast_unsigned w64 x) (cast_unsigned w64 y) < 18446744073709551616 →
    f (cast_unsigned w64 x) (cast_unsigned w64 y) % 4294967296
    ≡ f (cast_unsigned w64 x % 4294967296) (cast_unsigned w64 y % 4294967296) →
    wrapped (cast_signed w64 (f (cast_unsigned w64 x) (cast_unsigned w64 y)))
    ≡ cast_signed w32 (f (cast_unsigned w32 x) (cast_unsigned w32 y))
by_bits f x y fits other few low =
    narrowed (f (cast_unsigned w64 x) (cast_unsigned w64 y)) few
    ∙ ap (cast_signed w32) (low ∙ ap (λ a. f a (cast_unsigned w64 y % 4294967296)) (low_bits x fits)
    ∙ ap (λ b. f (cast_unsigned w32 x) b) (low_bits y other))

pub and_by_rows : (x y : ℤ) → FitsSigned w32 x → FitsSigned w32 y → wrapped (int_bit_and w64 x y) ≡ int_bit_and w32 x y
and_by_rows x y fits other =
    by_bits bit_and x y fits other
    (le_trans (omega (arith, and_le_l (cast_unsigned w64 x) (cast_unsigned w64 y))) (few_bits x fits))
    (and_mod (cast_unsigned w64 x) (cast_unsigned w64 y) 32)

pub or_by_rows : (x y : ℤ) → FitsSigned w32 x → FitsSigned w32 y → wrapped (int_bit_or w64 x y) ≡ int_bit_or w32 x y
or_by_rows x y fits other =
    by_bits bit_or x y fits other (or_lt 64 (cast_unsigned w64 x) (cast_unsigned w64 y) (few_bits x fits) (few_bits y other))
    (or_mod (cast_unsigned w64 x) (cast_unsigned w64 y) 32)

pub xor_by_rows : (x y : ℤ) → FitsSigned w32 x → FitsSigned w32 y → wrapped (int_bit_xor w64 x y) ≡ int_bit_xor w32 x y
xor_by_rows x y fits other =
    by_bits bit_xor x y fits other (xor_lt 64 (cast_unsigned w64 x) (cast_unsigned w64 y) (few_bits x fits) (few_bits y other))
    (xor_mod (cast_unsigned w64 x) (cast_unsigned w64 y) 32)

-- ---- one divided by a power

over_more : (z : ℤ) → 1 < unsigned_abs z → wrapped (int_div (pos 1) z) ≡ pos 0
unfolding wrapped
over_more (pos n) h = ap (λ q. wrapped (pos q)) (div-eq_of_lt h)
over_more (negsuc n) h = ap (λ q. wrapped (neg_ℤ (pos q))) (div-eq_of_lt h)

over_one : wrapped (int_div (pos 1) (pos 1)) ≡ pos 1
unfolding wrapped
over_one = refl

over_less : wrapped (int_div (pos 1) (negsuc 0)) ≡ negsuc 0
unfolding wrapped
over_less = refl

below_zero : (n : ℕ) → negsuc n <ℤ pos 0
below_zero n = omega (arith, ints)

some_square : (m : ℕ) → 1 < m → 1 < m * m
some_square m h = let twice : 2 * 1 ≤ m * m = mul-le 2 1 m m h (omega (arith, h)) in omega (arith, twice)

square_more : (a : ℤ) → 1 < unsigned_abs a → 1 < unsigned_abs (a *ℤ a)
square_more (pos a) h = some_square a h
square_more (negsuc a) h = some_square (suc a) h

pub square_wide : (a : ℤ) → FitsSigned w32 a → int_wrap w64 (a *ℤ a) ≡ a *ℤ a
square_wide a fits = int_wrap_fits w64 (a *ℤ a) (by a (abs_few a fits))
  where
    small : (m : ℕ) → m ≤ 2147483648 → FitsSigned w64 (pos (m * m))
    small m h = let most : m * m ≤ 2147483648 * 2147483648 = mul-le m m 2147483648 2147483648 h h in omega (arith, ints, most)

    by : (a : ℤ) → unsigned_abs a ≤ 2147483648 → FitsSigned w64 (a *ℤ a)
    by (pos a) few = small a few
    by (negsuc a) few = small (suc a) few

-- the base where the exponent is odd, its square where it is even
pub inverse_odd : (a : ℤ) (n : ℕ) → int_eq a (pos 0) ≡ false → suc n % 2 ≡ 1 →
    power_of a (negsuc n) ≡ Some (wrapped (int_div (pos 1) a))
inverse_odd (pos zero) n e odd = cc
inverse_odd (pos (suc zero)) n e odd = power_of_one (negsuc n) (below_zero n) ∙ ap Some (sym over_one)
inverse_odd (pos (suc (suc k))) n e odd = power_of_more (pos (suc (suc k))) (negsuc n) (omega arith) (below_zero n)
    ∙ ap Some (sym (over_more (pos (suc (suc k))) (omega arith)))
inverse_odd (negsuc zero) n e odd = power_of_less_odd (negsuc n) (below_zero n) odd ∙ ap Some (sym over_less)
inverse_odd (negsuc (suc k)) n e odd = power_of_more (negsuc (suc k)) (negsuc n) (omega arith) (below_zero n)
    ∙ ap Some (sym (over_more (negsuc (suc k)) (omega arith)))

pub inverse_even : (a : ℤ) (n : ℕ) → int_eq a (pos 0) ≡ false → suc n % 2 ≡ 0 →
    power_of a (negsuc n) ≡ Some (wrapped (int_div (pos 1) (a *ℤ a)))
inverse_even (pos zero) n e even = cc
inverse_even (pos (suc zero)) n e even = power_of_one (negsuc n) (below_zero n) ∙ ap Some (sym over_one)
inverse_even (pos (suc (suc k))) n e even = power_of_more (pos (suc (suc k))) (negsuc n) (omega arith) (below_zero n)
    ∙ ap Some (sym (over_more (pos (suc (suc k)) *ℤ pos (suc (suc k))) (square_more (pos (suc (suc k))) (omega arith))))
inverse_even (negsuc zero) n e even = power_of_less_even (negsuc n) (below_zero n) even ∙ ap Some (sym over_one)
inverse_even (negsuc (suc k)) n e even = power_of_more (negsuc (suc k)) (negsuc n) (omega arith) (below_zero n)
    ∙ ap Some (sym (over_more (negsuc (suc k) *ℤ negsuc (suc k)) (square_more (negsuc (suc k)) (omega arith))))

some_times : (m : ℕ) → 0 < m → 0 < m * m
some_times m h = let once : 1 * 1 ≤ m * m = mul-le 1 1 m m h h in omega (arith, once)

positive : (m : ℕ) → 0 < m → int_eq (pos m) (pos 0) ≡ false
positive m h = is_some_number (pos m) (λ e. omega (arith, ints, e, h))

pub square_some : (a : ℤ) → int_eq a (pos 0) ≡ false → int_eq (a *ℤ a) (pos 0) ≡ false
square_some (pos a) e = positive (a * a) (some_times a (some_divisor (pos a) e))
square_some (negsuc a) e = positive (suc a * suc a) (some_times (suc a) (omega arith))

-- ---- the parity and the sign of an exponent

pub negative_is : (z : ℤ) → int_lt z (pos 0) ≡ true → (n : ℕ) × (z ≡ negsuc n)
negative_is (pos n) h = absurd (clash (int_lt (pos n) (pos 0)) h (grind (arith, nat_tests)))
negative_is (negsuc n) h = (n, refl)

pub natural_is : (z : ℤ) → int_lt z (pos 0) ≡ false → (n : ℕ) × (z ≡ pos n)
natural_is (pos n) h = (n, refl)
natural_is (negsuc n) h = cc

left_odd : (r : ℕ) → r < 2 → holds (neg_ℤ (pos r)) ≡ true → r ≡ 1
left_odd zero small h = cc
left_odd (suc zero) small h = refl
left_odd (suc (suc r)) small h = absurd (omega (arith, small))

left_even : (r : ℕ) → holds (neg_ℤ (pos r)) ≡ false → r ≡ 0
left_even zero h = refl
left_even (suc r) h = cc

pub is_odd : (n : ℕ) → holds (int_rem (negsuc n) (pos 2)) ≡ true → suc n % 2 ≡ 1
is_odd n h = left_odd (suc n % 2) (omega arith) h

pub is_even : (n : ℕ) → holds (int_rem (negsuc n) (pos 2)) ≡ false → suc n % 2 ≡ 0
is_even n h = left_even (suc n % 2) h

pub opposite_wide : (z : ℤ) → FitsSigned w32 z → int_wrap w64 (pos 0 -ℤ z) ≡ neg_ℤ z
opposite_wide z fits = int_wrap_fits w64 (pos 0 -ℤ z) (by z (abs_few z fits)) ∙ omega (arith, ints)
  where
    by : (z : ℤ) → unsigned_abs z ≤ 2147483648 → FitsSigned w64 (pos 0 -ℤ z)
    by (pos a) few = omega (arith, ints, few)
    by (negsuc a) few = omega (arith, ints, few)
