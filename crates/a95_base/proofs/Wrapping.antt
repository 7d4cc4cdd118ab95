-- What is left of a number in 32 bits.
use Rattle.std.proofs.Common.{◌≡◌, ℕ, suc, ◌+◌, ◌-◌, ◌*◌, ◌/◌, ◌%◌, ◌^◌, ◌<◌, ◌≤◌, ℤ, pos, ◌+ℤ◌, ◌-ℤ◌, ◌*ℤ◌, inl, inr, refl, sym}
use Rattle.std.proofs.Common.{ap, ◌∙◌, subst, arith, Bool, true, false, nat_lt}
use Rattle.std.specs.Prelude.{negsuc, neg_ℤ, unsigned_abs, FitsSigned}
use mir.Val.{sel}
use Rattle.std.proofs.lemmas.Bool.{cases_lt}
use Rattle.std.proofs.lemmas.Bool.Decides.{nat_tests}
use Rattle.std.proofs.lemmas.Int.{ints, to_z_pos, int_rem_euclid_is, int_wrap_fits, SFits-int_wrap, int_wrap-add_same}
use Rattle.std.proofs.lemmas.Int.{int_wrap-add_right, int_wrap-sub_right, int_wrap-mul_left, int_wrap-mul_right}
use Rattle.std.specs.Int.{int_rem_euclid, int_wrap, cast_signed, w32, w64}
use Rattle.a95_base.specs.Integer.{wrapped}
use Rattle.a95_base.specs.IntegerLaws.{IsInteger, DifferByMultiple, WrappedIsTheOne}
use Rattle.a95_base.proofs.Integers.{mul_sub}

-- a number cut to 64 bits
low_of_low : (a : ℕ) → a % 18446744073709551616 % 4294967296 ≡ a % 4294967296
low_of_low a = omega arith

low_of_either : (b : Bool) (n : ℕ) → n < 18446744073709551616
    → unsigned_abs (int_rem_euclid (sel b (pos n) (negsuc (18446744073709551616 - suc n))) (pos 4294967296)) ≡ n % 4294967296
low_of_either true n h = refl
low_of_either false n h = omega arith

-- the number modulo 2 ^ 32 of one that was cut to 64 bits
low_of_cast : (n : ℕ) → n < 18446744073709551616 → unsigned_abs (int_rem_euclid (cast_signed w64 n) (pos 4294967296))
    ≡ n % 4294967296
low_of_cast n h = low_of_either (nat_lt n 9223372036854775808) n h

-- ---- what it means

-- x and a half range, so many ranges up, is a natural number
record Lifted (x : ℤ) : Type 0 where
  ranges : ℕ
  lifted : ℕ
  is : (x +ℤ pos 2147483648) +ℤ pos (ranges * 4294967296) ≡ pos lifted

lift : (x : ℤ) → Lifted x
lift (pos a) = record { ranges = 0; lifted = a + 2147483648; is = omega (arith, ints) }
lift (negsuc a) = record {
  ranges = a / 4294967296 + 1;
  lifted = 2147483648 + (a / 4294967296 + 1) * 4294967296 - suc a;
  is = omega (arith, ints);
}

wrapped_by : (x : ℤ) (k m : ℕ) → (x +ℤ pos 2147483648) +ℤ pos (k * 4294967296) ≡ pos m →
    wrapped x ≡ pos (m % 4294967296) -ℤ pos 2147483648
unfolding wrapped
wrapped_by x k m e =
    ap (λ r. r -ℤ pos 2147483648) (int_rem_euclid_is (x +ℤ pos 2147483648) (pos 4294967296) 4294967296 k m (omega arith) refl e)

in_range : (m : ℕ) → IsInteger (pos (m % 4294967296) -ℤ pos 2147483648)
in_range m = (omega (arith, ints), omega (arith, ints))

apart : (x : ℤ) (k m : ℕ) → (x +ℤ pos 2147483648) +ℤ pos (k * 4294967296) ≡ pos m
    → x ≡ (pos (m % 4294967296) -ℤ pos 2147483648) +ℤ (pos (m / 4294967296) -ℤ pos k) *ℤ pos 4294967296
apart x k m e =
    let parts : (pos (m / 4294967296) -ℤ pos k) *ℤ pos 4294967296 ≡ pos (m / 4294967296 * 4294967296) -ℤ pos (k * 4294967296) =
    mul_sub (pos (m / 4294967296)) (pos k) (pos 4294967296) in
    omega (arith, ints, e, parts)

wrapped_differs : (x : ℤ) → Lifted x → IsInteger (wrapped x) × DifferByMultiple (pos (2 ^ 32)) x (wrapped x)
wrapped_differs x l =
    let is : wrapped x ≡ pos (l.lifted % 4294967296) -ℤ pos 2147483648 = wrapped_by x l.ranges l.lifted l.is in
    let P : ℤ → Type 0 = λ z. IsInteger z × DifferByMultiple (pos (2 ^ 32)) x z in
    subst P (sym is) (in_range l.lifted, (pos (l.lifted / 4294967296) -ℤ pos l.ranges, apart x l.ranges l.lifted l.is))

low_of : (u : ℕ) (j : ℕ) → u < 4294967296 → (u + j * 4294967296) % 4294967296 ≡ u
low_of u j h = omega arith

-- from z, so many ranges up or down
there : (x z : ℤ) (u : ℕ) (k : ℤ) → z +ℤ pos 2147483648 ≡ pos u → u < 4294967296 → x ≡ z +ℤ k *ℤ pos 4294967296 → z ≡ wrapped x
there x z u (pos j) at small e =
    let whole : pos j *ℤ pos 4294967296 ≡ pos (j * 4294967296) = refl in
    let is : wrapped x ≡ pos ((u + j * 4294967296) % 4294967296) -ℤ pos 2147483648 =
    wrapped_by x 0 (u + j * 4294967296) (omega (arith, ints, at, e, whole)) in
    sym (is ∙ ap (λ n. pos n -ℤ pos 2147483648) (low_of u j small) ∙ omega (arith, ints, at))
there x z u (negsuc j) at small e =
    let whole : negsuc j *ℤ pos 4294967296 ≡ neg_ℤ (pos (suc j * 4294967296)) = refl in
    let is : wrapped x ≡ pos (u % 4294967296) -ℤ pos 2147483648 = wrapped_by x (suc j) u (omega (arith, ints, at, e, whole)) in
    let low : u % 4294967296 ≡ u = omega arith in
    sym (is ∙ ap (λ n. pos n -ℤ pos 2147483648) low ∙ omega (arith, ints, at))

the_one : (x z : ℤ) (k : ℤ) → IsInteger z → x ≡ z +ℤ k *ℤ pos 4294967296 → z ≡ wrapped x
the_one x (pos c) k within e = there x (pos c) (c + 2147483648) k (omega (arith, ints)) (omega (arith, ints, within.1)) e
the_one x (negsuc c) k within e = there x (negsuc c) (2147483648 - suc c) k (omega (arith, ints, within.0)) (omega arith) e

-- the wrapped value is the one INTEGER that differs by a multiple of 2 ^ 32
pub wrapped_is_the_one : WrappedIsTheOne
wrapped_is_the_one x z = (
  λ e. let P : ℤ → Type 0 = λ y. IsInteger y × DifferByMultiple (pos (2 ^ 32)) x y in subst P (sym e) (wrapped_differs x (lift x)),
  λ h. the_one x z h.1.0 h.0 h.1.1,
)

-- ---- by the wrapping of std

to_z_high : (n : ℕ) → 2147483648 ≤ n → cast_signed w32 n ≡ negsuc (4294967296 - suc n)
to_z_high n h =
    let tested : nat_lt n 2147483648 ≡ false = grind (arith, nat_tests) in
    ap (λ b. sel b (pos n) (negsuc (4294967296 - suc n))) tested

high_half : (n r : ℕ) → r + 2147483648 ≡ n → 2147483648 ≤ n → n < 4294967296 → pos r -ℤ pos 2147483648 ≡ negsuc (4294967296 - suc n)
high_half n r e h small = omega (arith, ints, e)

below_range : (a : ℕ) → pos ((a + 2147483648) % 4294967296) -ℤ pos 2147483648 ≡ cast_signed w32 (a % 4294967296)
below_range a =
    elim (cases_lt (a % 4294967296) 2147483648) [
      | inl low ↦ omega (arith, ints, to_z_pos w32 (a % 4294967296) low)
      | inr high ↦ high_half (a % 4294967296) _ (omega arith) high (omega arith) ∙ sym (to_z_high (a % 4294967296) high)
    ]

above_range : (a m : ℕ) → m ≡ 2147483648 + (a / 4294967296 + 1) * 4294967296 - suc a
    → pos (m % 4294967296) -ℤ pos 2147483648 ≡ cast_signed w32 (4294967295 - a % 4294967296)
above_range a m e =
    elim (cases_lt (4294967295 - a % 4294967296) 2147483648) [
      | inl low ↦ omega (arith, ints, e, to_z_pos w32 (4294967295 - a % 4294967296) low)
      | inr high ↦ high_half (4294967295 - a % 4294967296) _ (omega (arith, e)) high (omega arith)
          ∙ sym (to_z_high (4294967295 - a % 4294967296) high)
    ]

pub wrapped_is : (z : ℤ) → wrapped z ≡ int_wrap w32 z
unfolding int_wrap
wrapped_is (pos a) = wrapped_by (pos a) 0 (a + 2147483648) (omega (arith, ints)) ∙ below_range a
wrapped_is (negsuc a) =
    let m = 2147483648 + (a / 4294967296 + 1) * 4294967296 - suc a in
    wrapped_by (negsuc a) (a / 4294967296 + 1) m (omega (arith, ints)) ∙ above_range a m refl

-- ---- 64 bits, and numbers that fit

-- Wrapping at 64 bits first changes nothing.
wrap-int_wrap : (z : ℤ) → int_wrap w32 (int_wrap w64 z) ≡ int_wrap w32 z
unfolding int_wrap
wrap-int_wrap (pos a) =
    ap (cast_signed w32) (low_of_cast (a % 18446744073709551616) (omega arith) ∙ low_of_low a)
wrap-int_wrap (negsuc a) =
    let whole : 18446744073709551615 - a % 18446744073709551616 < 18446744073709551616 = omega arith in
    let low : (18446744073709551615 - a % 18446744073709551616) % 4294967296 ≡ 4294967295 - a % 4294967296 = omega arith in
    ap (cast_signed w32) (low_of_cast (18446744073709551615 - a % 18446744073709551616) whole ∙ low)

pub wrapped-int_wrap : (z : ℤ) → wrapped (int_wrap w64 z) ≡ wrapped z
wrapped-int_wrap z = wrapped_is (int_wrap w64 z) ∙ wrap-int_wrap z ∙ sym (wrapped_is z)

-- An INTEGER is left as it is, and so is what was wrapped before.
pub wrapped_fits : (z : ℤ) → FitsSigned w32 z → wrapped z ≡ z
wrapped_fits z h = wrapped_is z ∙ int_wrap_fits w32 z h

pub fits_wrapped : (z : ℤ) → FitsSigned w32 (wrapped z)
fits_wrapped z = subst (λ y. FitsSigned w32 y) (sym (wrapped_is z)) (SFits-int_wrap w32 z)

pub wrapped-wrapped : (z : ℤ) → wrapped (wrapped z) ≡ wrapped z
wrapped-wrapped z = wrapped_fits (wrapped z) (fits_wrapped z)

pub wrapped_small : (n : ℕ) → n < 2147483648 → wrapped (pos n) ≡ pos n
wrapped_small n h = wrapped_fits (pos n) (omega arith)

-- ---- what is left of a sum, difference or product is told by what is left of its operands

module _ (a b x y : ℤ) (left : wrapped a ≡ wrapped x) (right : wrapped b ≡ wrapped y) where
  cut_left : int_wrap w32 a ≡ int_wrap w32 x
  cut_left = sym (wrapped_is a) ∙ left ∙ wrapped_is x

  cut_right : int_wrap w32 b ≡ int_wrap w32 y
  cut_right = sym (wrapped_is b) ∙ right ∙ wrapped_is y

  pub wrapped-add : wrapped (a +ℤ b) ≡ wrapped (x +ℤ y)
  wrapped-add =
      wrapped_is (a +ℤ b) ∙ int_wrap-add_same w32 a x b cut_left
      ∙ sym (int_wrap-add_right w32 x b) ∙ ap (λ z. int_wrap w32 (x +ℤ z)) cut_right ∙ int_wrap-add_right w32 x y
      ∙ sym (wrapped_is (x +ℤ y))

  pub wrapped-subtract : wrapped (a -ℤ b) ≡ wrapped (x -ℤ y)
  wrapped-subtract =
      wrapped_is (a -ℤ b) ∙ int_wrap-add_same w32 a x (neg_ℤ b) cut_left
      ∙ sym (int_wrap-sub_right w32 x b) ∙ ap (λ z. int_wrap w32 (x -ℤ z)) cut_right ∙ int_wrap-sub_right w32 x y
      ∙ sym (wrapped_is (x -ℤ y))

  pub wrapped-multiply : wrapped (a *ℤ b) ≡ wrapped (x *ℤ y)
  wrapped-multiply =
      wrapped_is (a *ℤ b) ∙ sym (int_wrap-mul_left w32 a b) ∙ ap (λ z. int_wrap w32 (z *ℤ b)) cut_left ∙ int_wrap-mul_left w32 x b
      ∙ sym (int_wrap-mul_right w32 x b) ∙ ap (λ z. int_wrap w32 (x *ℤ z)) cut_right ∙ int_wrap-mul_right w32 x y
      ∙ sym (wrapped_is (x *ℤ y))
