-- Powers of INTEGERs: what a wrapping power gives, and one divided by a power.
use Rattle.std.proofs.Common.{◌≡◌, ◌≢◌, ℕ, zero, suc, ◌*◌, ◌%◌, ◌^◌, ◌<◌, ◌≤◌, true, false, ℤ, pos, ◌*ℤ◌, ◌<ℤ◌, FitsSigned, w32}
use Rattle.std.proofs.Common.{of_z, to_z, cond, ◌⊎◌, inl, inr, refl, sym, ap, ◌∙◌, subst, arith}
use Rattle.std.specs.Prelude.{negsuc, unsigned_abs, int_rem, neg_ℤ, Bool, Some, ◌==◌}
use Rattle.std.specs.Int.{int_wrap, int_pow, int_wrapping_pow}
use Rattle.std.proofs.Math.Nat.{div-eq_of_lt, le_trans, pow-suc, pow-zero, zero-mul}
use Rattle.std.proofs.lemmas.Nat.{mul-mod, mul-le}
use Rattle.std.proofs.lemmas.Bool.{cases_eq}
use Rattle.std.proofs.lemmas.Bool.Decides.{nat_tests}
use Rattle.std.proofs.lemmas.Int.{ints, to_z-of_z, wrapping_mul_onto, int_wrap-mul_left}
use Rattle.a95_base.specs.Integer.{wrapped, quotient_of, raised, power_of}
use Rattle.a95_base.proofs.Wrapping.{wrapped_is}
use Rattle.a95_base.proofs.Quotients.{not_zero}

-- ---- what a wrapping power gives

neg_times : (n a : ℕ) → neg_ℤ (pos n) *ℤ negsuc a ≡ pos (n * suc a)
neg_times zero a = ap (λ k. neg_ℤ (pos k)) (zero-mul (suc a)) ∙ ap pos (sym (zero-mul (suc a)))
neg_times (suc n) a = refl

-- the parity of the next exponent
even_next : (e : ℕ) → e % 2 ≡ 0 → suc e % 2 ≡ 1
even_next e h = omega arith

odd_next : (e : ℕ) → (e % 2 ≡ 0 → ⊥) → suc e % 2 ≡ 0
odd_next e h = omega arith

pow_step : (z : ℤ) (e : ℕ) → int_pow z (suc e) ≡ int_pow z e *ℤ z
pow_step (pos a) e = ap pos (pow-suc a e)
pow_step (negsuc a) e = by_parity (cases_eq (e % 2) 0)
  where
    by_parity : (e % 2 ≡ 0) ⊎ (e % 2 ≡ 0 → ⊥) → int_pow (negsuc a) (suc e) ≡ int_pow (negsuc a) e *ℤ negsuc a
    by_parity (inl even) =
        let here : int_pow (negsuc a) e ≡ pos (suc a ^ e) = ap (λ r. cond (r == 0) (pos (suc a ^ e)) (neg_ℤ (pos (suc a ^ e)))) even
        in
        let next : int_pow (negsuc a) (suc e) ≡ neg_ℤ (pos (suc a ^ suc e)) =
        ap (λ r. cond (r == 0) (pos (suc a ^ suc e)) (neg_ℤ (pos (suc a ^ suc e)))) (even_next e even) in
        next ∙ ap (λ k. neg_ℤ (pos k)) (pow-suc (suc a) e) ∙ ap (λ p. p *ℤ negsuc a) (sym here)
    by_parity (inr odd) =
        let tested : (e % 2 == 0) ≡ false = grind (arith, nat_tests) in
        let here : int_pow (negsuc a) e ≡ neg_ℤ (pos (suc a ^ e)) =
        ap (λ b. cond b (pos (suc a ^ e)) (neg_ℤ (pos (suc a ^ e)))) tested in
        let next : int_pow (negsuc a) (suc e) ≡ pos (suc a ^ suc e) =
        ap (λ r. cond (r == 0) (pos (suc a ^ suc e)) (neg_ℤ (pos (suc a ^ suc e)))) (odd_next e odd) in
        next ∙ ap pos (pow-suc (suc a) e) ∙ sym (neg_times (suc a ^ e) a) ∙ ap (λ p. p *ℤ negsuc a) (sym here)

pow_none : (z : ℤ) → int_pow z 0 ≡ pos 1
pow_none (pos a) = ap pos (pow-zero a)
pow_none (negsuc a) = ap pos (pow-zero (suc a))

one_wrapped : to_z w32 (1 % 4294967296) ≡ int_wrap w32 (pos 1)
unfolding int_wrap
one_wrapped = refl

below_all : (n : ℕ) → n % 4294967296 < 4294967296
below_all n = omega arith

bits_mul : (m u : ℕ) → u < 4294967296 → (m * u) % 4294967296 ≡ (m % 4294967296 * u) % 4294967296
bits_mul m u h =
    let small : u % 4294967296 ≡ u = omega arith in
    mul-mod m u 4294967296 ∙ ap (λ k. (m % 4294967296 * k) % 4294967296) small

bits_below : (z : ℤ) → FitsSigned w32 z → of_z w32 z < 4294967296
bits_below (pos n) h = omega arith
bits_below (negsuc n) h = omega arith

pow_bits : (z : ℤ) (e : ℕ) → FitsSigned w32 z → to_z w32 ((of_z w32 z ^ e) % 4294967296) ≡ int_wrap w32 (int_pow z e)
pow_bits z zero fits =
    ap (λ n. to_z w32 (n % 4294967296)) (pow-zero (of_z w32 z)) ∙ one_wrapped ∙ ap (int_wrap w32) (sym (pow_none z))
pow_bits z (suc e) fits =
    let u = of_z w32 z in
    let rest = u ^ e % 4294967296 in
    ap (λ n. to_z w32 (n % 4294967296)) (pow-suc u e)
    ∙ ap (to_z w32) (bits_mul (u ^ e) u (bits_below z fits))
    ∙ wrapping_mul_onto w32 rest z (below_all (u ^ e)) fits
    ∙ ap (λ p. int_wrap w32 (p *ℤ z)) (pow_bits z e fits)
    ∙ int_wrap-mul_left w32 (int_pow z e) z
    ∙ ap (int_wrap w32) (sym (pow_step z e))

pub pow_wraps : (x : ℤ) (e : ℕ) → FitsSigned w32 x → int_wrapping_pow w32 x e ≡ raised x e
pow_wraps x e fits = pow_bits x e fits ∙ sym (wrapped_is (int_pow x e))

-- ---- one divided by a power

zero_wrapped : wrapped (pos 0) ≡ pos 0
unfolding wrapped
zero_wrapped = refl

le_mul : (x y : ℕ) → 0 < x → y ≤ x * y
le_mul x y h = let one : 1 * y ≤ x * y = mul-le 1 y x y (omega arith) (omega arith) in omega (arith, one)

one_pow : (k : ℕ) → 1 ^ k ≡ 1
one_pow zero = pow-zero 1
one_pow (suc k) = pow-suc 1 k ∙ ap (λ n. n * 1) (one_pow k)

one_over_one : quotient_of (pos 1) (pos 1) ≡ Some (pos 1)
unfolding wrapped
one_over_one = refl

one_over_less : quotient_of (pos 1) (negsuc 0) ≡ Some (negsuc 0)
unfolding wrapped
one_over_less = refl

pub power_of_one : (n : ℤ) → n <ℤ pos 0 → power_of (pos 1) n ≡ Some (pos 1)
power_of_one (pos n) h = absurd (omega (arith, ints, h))
power_of_one (negsuc n) h = ap (λ p. quotient_of (pos 1) (pos p)) (one_pow (suc n)) ∙ one_over_one

less_pow : (b : ℕ) (n : ℕ) → int_pow (negsuc 0) n ≡ cond (n % 2 == 0) (pos 1) (negsuc 0)
less_pow b n = ap (λ p. cond (n % 2 == 0) (pos p) (neg_ℤ (pos p))) (one_pow n)

pub power_of_less_even : (n : ℤ) → n <ℤ pos 0 → unsigned_abs n % 2 ≡ 0 → power_of (negsuc 0) n ≡ Some (pos 1)
power_of_less_even (pos n) h even = absurd (omega (arith, ints, h))
power_of_less_even (negsuc n) h even = ap (quotient_of (pos 1))
    (less_pow 0 (suc n) ∙ ap (λ r. cond (r == 0) (pos 1) (negsuc 0)) even) ∙ one_over_one

pub power_of_less_odd : (n : ℤ) → n <ℤ pos 0 → unsigned_abs n % 2 ≡ 1 → power_of (negsuc 0) n ≡ Some (negsuc 0)
power_of_less_odd (pos n) h odd = absurd (omega (arith, ints, h))
power_of_less_odd (negsuc n) h odd = ap (quotient_of (pos 1)) (less_pow 0 (suc n) ∙ ap (λ r. cond (r == 0) (pos 1) (negsuc 0)) odd)
    ∙ one_over_less

pub times_some : (x y : ℕ) → 0 < x → 0 < y → 0 < x * y
times_some x y p q = le_trans q (le_mul x y p)

some_pow : (a k : ℕ) → 0 < a → 0 < a ^ k
some_pow a zero h = omega (arith, pow-zero a)
some_pow a (suc k) h = subst (λ n. 0 < n) (sym (pow-suc a k)) (times_some (a ^ k) a (some_pow a k h) h)

more_pow : (a k : ℕ) → 1 < a → 1 < a ^ suc k
more_pow a k h = subst (λ n. 1 < n) (sym (pow-suc a k)) (le_trans h (le_mul (a ^ k) a (some_pow a k (omega arith))))

not_none : (n : ℕ) → 1 < n → pos n ≢ pos 0
not_none n h e = omega (arith, ints, e, h)

one_over_more : (n : ℕ) → 1 < n → quotient_of (pos 1) (pos n) ≡ Some (pos 0)
one_over_more n h = rw (not_zero (pos n) (not_none n h)) (ap (λ q. Some (wrapped (pos q))) (div-eq_of_lt h) ∙ ap Some zero_wrapped)

one_over_more_less : (n : ℕ) → 1 < n → quotient_of (pos 1) (neg_ℤ (pos n)) ≡ Some (pos 0)
one_over_more_less zero h = absurd (omega arith)
one_over_more_less (suc n) h = ap (λ q. Some (wrapped (neg_ℤ (pos q)))) (div-eq_of_lt h) ∙ ap Some zero_wrapped

of_either : (b : Bool) (n : ℕ) → 1 < n → quotient_of (pos 1) (cond b (pos n) (neg_ℤ (pos n))) ≡ Some (pos 0)
of_either true n h = one_over_more n h
of_either false n h = one_over_more_less n h

-- any other number has none
pub power_of_more : (a n : ℤ) → 1 < unsigned_abs a → n <ℤ pos 0 → power_of a n ≡ Some (pos 0)
power_of_more a (pos n) more h = absurd (omega (arith, ints, h))
power_of_more (pos a) (negsuc n) more h = one_over_more (a ^ suc n) (more_pow a n more)
power_of_more (negsuc a) (negsuc n) more h = of_either (suc n % 2 == 0) (suc a ^ suc n) (more_pow (suc a) n more)

-- ---- the parity of a negative exponent, as `n % 2 == 0` tests it

left_of : (r : ℕ) → r < 2 → of_z w32 (neg_ℤ (pos r)) ≡ 0 → r ≡ 0
left_of zero small e = refl
left_of (suc r) small e = absurd (omega (arith, e))

rest_is : (n : ℤ) → FitsSigned w32 n → of_z w32 (int_rem (to_z w32 (of_z w32 n)) (pos 2)) ≡ of_z w32 (int_rem n (pos 2))
rest_is n fits = ap (λ z. of_z w32 (int_rem z (pos 2))) (to_z-of_z w32 n fits)

pub even_exponent : (n : ℤ) → FitsSigned w32 n → n <ℤ pos 0 → of_z w32 (int_rem (to_z w32 (of_z w32 n)) (pos 2)) ≡ 0 →
    unsigned_abs n % 2 ≡ 0
even_exponent (pos n) fits h e = absurd (omega (arith, ints, h))
even_exponent (negsuc n) fits h e = left_of (suc n % 2) (omega arith) (sym (rest_is (negsuc n) fits) ∙ e)

pub odd_exponent : (n : ℤ) → FitsSigned w32 n → n <ℤ pos 0 → (of_z w32 (int_rem (to_z w32 (of_z w32 n)) (pos 2)) ≡ 0 → ⊥) →
    unsigned_abs n % 2 ≡ 1
odd_exponent (pos n) fits h other = absurd (omega (arith, ints, h))
odd_exponent (negsuc n) fits h other =
    elim (cases_eq (suc n % 2) 0) [
      | inl even ↦ absurd (other (rest_is (negsuc n) fits ∙ ap (λ r. of_z w32 (neg_ℤ (pos r))) even))
      | inr odd ↦ omega arith
    ]
