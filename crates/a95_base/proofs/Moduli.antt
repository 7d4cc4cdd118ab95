-- MOD and MODULO.
use Rattle.std.proofs.Common.{◌≡◌, ℕ, zero, suc, ◌+◌, ◌-◌, ◌*◌, ◌/◌, ◌%◌, ◌<◌, ℤ, pos, ◌+ℤ◌, ◌-ℤ◌, ◌*ℤ◌, ◌<ℤ◌, ◌≤ℤ◌, FitsSigned}
use Rattle.std.proofs.Common.{w32, w64, of_z, to_z, refl, sym, ap, ◌∙◌, subst, arith}
use Rattle.std.specs.Prelude.{negsuc, neg_ℤ, unsigned_abs, int_div, int_rem, Bool, true, false, if◌then◌else◌, Some, None}
use Rattle.std.specs.Ordering.{int_eq}
use Rattle.std.specs.Int.{int_rem_euclid}
use Rattle.std.proofs.Math.Nat.{mod-lt, zero-mod}
use Rattle.std.proofs.lemmas.Nat.{div-add-mod'}
use Rattle.std.proofs.Math.Bool.{true≢false}
use Rattle.std.proofs.lemmas.Option.{none-some, same_Some}
use Rattle.std.proofs.lemmas.Int.{ints, to_z-of_z, quot-rem, rem_below}
use Rattle.a95_base.specs.Integer.{modulo_of}
use Rattle.a95_base.specs.IntegerLaws.{DifferByMultiple, ModuloIsNear, RemainderIsNear}

-- what is left is a natural number below the divisor
record Rest (a d : ℤ) : Type 0 where
  pub rest : ℕ
  pub is : int_rem_euclid a d ≡ pos rest
  pub below : rest < unsigned_abs d

rest_of : (a d : ℤ) → 0 < unsigned_abs d → Rest a d
rest_of (pos a) d some = record { rest = a % unsigned_abs d; is = refl; below = mod-lt a some }
rest_of (negsuc a) d some = record { rest = unsigned_abs d - 1 - a % unsigned_abs d; is = refl; below = omega arith }

-- ---- what the code computes with 64 bits

negated : (z : ℤ) → FitsSigned w32 z → to_z w64 (of_z w64 (pos 0 -ℤ to_z w64 (of_z w64 z))) ≡ neg_ℤ z
negated z fits = omega (arith, ints)

-- the same written once: a negation at 64 bits
abbrev pub opposite : ℤ → ℤ
opposite z = to_z w64 (of_z w64 (pos 0 -ℤ to_z w64 (of_z w64 z)))

pub rest_by_code : (a p wide other rest : ℤ) → FitsSigned w32 a → FitsSigned w32 p
    → wide ≡ to_z w32 (of_z w32 a) → other ≡ to_z w32 (of_z w32 p) → rest ≡ int_rem_euclid (opposite wide) (opposite other)
    → rest ≡ int_rem_euclid (neg_ℤ a) (neg_ℤ p)
rest_by_code a p wide other rest fits_a fits_p e f g =
    g
    ∙ ap (λ z. int_rem_euclid (opposite z) (opposite other)) (e ∙ to_z-of_z w32 a fits_a)
    ∙ ap (λ z. int_rem_euclid (opposite a) (opposite z)) (f ∙ to_z-of_z w32 p fits_p)
    ∙ ap (λ z. int_rem_euclid z (opposite p)) (negated a fits_a)
    ∙ ap (λ z. int_rem_euclid (neg_ℤ a) z) (negated p fits_p)

negated_low : (n : ℕ) → n < 2147483648 → to_z w32 (of_z w32 (opposite (pos n))) ≡ neg_ℤ (pos n)
negated_low n h = omega (arith, ints)

of_negative : (a p : ℤ) → p <ℤ pos 0 → modulo_of a p ≡ Some (neg_ℤ (int_rem_euclid (neg_ℤ a) (neg_ℤ p)))
of_negative a (pos n) h = absurd (omega (arith, ints, h))
of_negative a (negsuc n) h = refl

pub modulo_by_code : (a p rest : ℤ) → FitsSigned w32 p → p <ℤ pos 0 → rest ≡ int_rem_euclid (neg_ℤ a) (neg_ℤ p)
    → Some (to_z w32 (of_z w32 (opposite rest))) ≡ modulo_of a p
modulo_by_code a p rest fits below e =
    let some : 0 < unsigned_abs (neg_ℤ p) = omega (arith, ints, below) in
    let r = rest_of (neg_ℤ a) (neg_ℤ p) some in
    ap (λ z. Some (to_z w32 (of_z w32 (opposite z)))) (e ∙ r.is)
    ∙ ap Some (negated_low r.rest (omega (arith, ints, r.below)) ∙ sym (ap neg_ℤ r.is))
    ∙ sym (of_negative a p below)

-- ---- what MODULO means

-- the number is a whole multiple of the divisor above what is left
rest_differs : (a : ℤ) (n : ℕ) → DifferByMultiple (pos (suc n)) a (int_rem_euclid a (pos (suc n)))
rest_differs (pos a) n = (pos (a / suc n), omega (arith, ints, div-add-mod' a (suc n)))
rest_differs (negsuc a) n =
    let more : suc (a / suc n) * suc n ≡ a / suc n * suc n + suc n = omega arith in
    (negsuc (a / suc n), omega (arith, ints, div-add-mod' a (suc n), mod-lt a {m = suc n} (omega arith), more))

turned_times : (k : ℤ) (n : ℕ) → k *ℤ negsuc n ≡ neg_ℤ (k *ℤ pos (suc n))
turned_times (pos j) n = refl
turned_times (negsuc j) n = sym (back_again (suc j * suc n))
  where
    back_again : (k : ℕ) → neg_ℤ (neg_ℤ (pos k)) ≡ pos k
    back_again zero = refl
    back_again (suc k) = refl

turned : (a r x : ℤ) (y : ℤ) → neg_ℤ a ≡ r +ℤ x → y ≡ neg_ℤ x → a ≡ neg_ℤ r +ℤ y
turned a r x y e f = omega (arith, ints, e, f)

turned_differs : (a r : ℤ) (n : ℕ) → DifferByMultiple (pos (suc n)) (neg_ℤ a) r → DifferByMultiple (negsuc n) a (neg_ℤ r)
turned_differs a r n d = (d.0, turned a r (d.0 *ℤ pos (suc n)) (d.0 *ℤ negsuc n) d.1 (turned_times d.0 n))

Near : ℤ → ℤ → ℤ → Type 0
Near a p m = DifferByMultiple p a m × (unsigned_abs m < unsigned_abs p) × (pos 0 <ℤ p → pos 0 ≤ℤ m) × (p <ℤ pos 0 → m ≤ℤ pos 0)

near_above : (a : ℤ) (n : ℕ) → Rest a (pos (suc n)) → Near a (pos (suc n)) (int_rem_euclid a (pos (suc n)))
unfolding Near
near_above a n r =
    (rest_differs a n, omega (arith, ints, r.is, r.below), λ h. omega (arith, ints, r.is), λ h. absurd (omega (arith, ints, h)))

near_below : (a : ℤ) (n : ℕ) → Rest (neg_ℤ a) (pos (suc n)) → Near a (negsuc n) (neg_ℤ (int_rem_euclid (neg_ℤ a) (pos (suc n))))
unfolding Near
near_below a n r = (
  turned_differs a (int_rem_euclid (neg_ℤ a) (pos (suc n))) n (rest_differs (neg_ℤ a) n),
  omega (arith, ints, r.is, r.below),
  λ h. absurd (omega (arith, ints, h)),
  λ h. omega (arith, ints, r.is),
)

pub modulo_is_near : ModuloIsNear
unfolding Near
modulo_is_near a (pos zero) m e = absurd (none-some m e)
modulo_is_near a (pos (suc n)) m e = subst (λ z. Near a (pos (suc n)) z) (same_Some _ m e)
    (near_above a n (rest_of a (pos (suc n)) (omega arith)))
modulo_is_near a (negsuc n) m e = subst (λ z. Near a (negsuc n) z) (same_Some _ m e)
    (near_below a n (rest_of (neg_ℤ a) (pos (suc n)) (omega arith)))

-- ---- what MOD means

pub some_divisor : (p : ℤ) → int_eq p (pos 0) ≡ false → 0 < unsigned_abs p
some_divisor (pos zero) e = absurd (true≢false e)
some_divisor (pos (suc n)) e = omega arith
some_divisor (negsuc n) e = omega arith

not_below : (a p : ℤ) → pos 0 ≤ℤ a → pos 0 ≤ℤ int_rem a p
not_below (pos a) p h = omega (arith, ints)
not_below (negsuc a) p h = absurd (omega (arith, ints, h))

not_above : (a p : ℤ) → a ≤ℤ pos 0 → int_rem a p ≤ℤ pos 0
not_above (pos zero) p h = omega (arith, ints, zero-mod (unsigned_abs p))
not_above (pos (suc a)) p h = absurd (omega (arith, ints, h))
not_above (negsuc a) p h = omega (arith, ints)

left_is : (q p r a m : ℤ) → q *ℤ p +ℤ r ≡ a → a -ℤ q *ℤ p ≡ m → r ≡ m
left_is q p r a m e f = omega (arith, ints, e, f)

whole_is : (q p r a : ℤ) → q *ℤ p +ℤ r ≡ a → a ≡ r +ℤ q *ℤ p
whole_is q p r a e = omega (arith, ints, e)

NearToo : ℤ → ℤ → ℤ → Type 0
NearToo a p m = DifferByMultiple p a m × (unsigned_abs m < unsigned_abs p) × (pos 0 ≤ℤ a → pos 0 ≤ℤ m) × (a ≤ℤ pos 0 → m ≤ℤ pos 0)

rest_near : (a p : ℤ) → 0 < unsigned_abs p → NearToo a p (int_rem a p)
unfolding NearToo
rest_near a p some =
    ((int_div a p, whole_is (int_div a p) p (int_rem a p) a (quot-rem a p)), rem_below a p some, not_below a p, not_above a p)

by_divisor : (a p m : ℤ) (b : Bool) → int_eq p (pos 0) ≡ b → (if b then None else Some (a -ℤ int_div a p *ℤ p)) ≡ Some m →
    NearToo a p m
by_divisor a p m true test e = absurd (none-some m e)
by_divisor a p m false test e =
    subst (λ z. NearToo a p z) (left_is (int_div a p) p (int_rem a p) a m (quot-rem a p) (same_Some _ m e))
    (rest_near a p (some_divisor p test))

pub remainder_is_near : RemainderIsNear
unfolding NearToo
remainder_is_near a p m e = by_divisor a p m (int_eq p (pos 0)) refl e
