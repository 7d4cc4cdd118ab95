-- Ring laws of the integers that std lacks. `omega (arith, ints)` does sums; these are for products.
use Rattle.std.proofs.Common.{◌≡◌, ℤ, zero, suc, pos, negsuc, ◌+ℤ◌, ◌-ℤ◌, ◌*ℤ◌, refl, sym, ap, ◌∙◌, subst, arith, ℕ, ◌<◌, Bool, true, false}
use Rattle.std.specs.Prelude.{FitsSigned, unsigned_abs, int_lt, if◌then◌else◌}
use Rattle.std.specs.Int.{w32, int_max}
use Rattle.std.proofs.lemmas.Int.{ints}
use Rattle.a95_base.specs.IntegerLaws.{IsInteger}
use lib.IntN.{neg_ℤ, suc_ℤ, pred_ℤ, suc_ℤ-*ℤ, pred_ℤ-*ℤ, zero-*ℤ}

suc_is : (a : ℤ) → suc_ℤ a ≡ a +ℤ pos 1
suc_is (pos n) = omega (arith, ints)
suc_is (negsuc zero) = refl
suc_is (negsuc (suc n)) = omega (arith, ints)

pred_is : (a : ℤ) → pred_ℤ a ≡ a -ℤ pos 1
pred_is (pos zero) = refl
pred_is (pos (suc n)) = omega (arith, ints)
pred_is (negsuc n) = omega (arith, ints)

pub one_more : (a b : ℤ) → (a +ℤ pos 1) *ℤ b ≡ a *ℤ b +ℤ b
one_more a b = ap (λ x. x *ℤ b) (sym (suc_is a)) ∙ suc_ℤ-*ℤ a b

pub one_less : (a b : ℤ) → (a -ℤ pos 1) *ℤ b ≡ a *ℤ b -ℤ b
one_less a b = ap (λ x. x *ℤ b) (sym (pred_is a)) ∙ pred_ℤ-*ℤ a b

-- what holds of 0, and one up and one down from each integer, holds of all
pub by_steps : (P : ℤ → Type 0) → P (pos 0) → ((a : ℤ) → P a → P (a +ℤ pos 1)) → ((a : ℤ) → P a → P (a -ℤ pos 1)) → (a : ℤ) → P a
by_steps P base up down (pos zero) = base
by_steps P base up down (pos (suc n)) = let is : pos n +ℤ pos 1 ≡ pos (suc n) = omega (arith, ints) in
    subst P is (up (pos n) (by_steps P base up down (pos n)))
by_steps P base up down (negsuc zero) = let is : pos 0 -ℤ pos 1 ≡ negsuc zero = refl in subst P is (down (pos 0) base)
by_steps P base up down (negsuc (suc n)) = let is : negsuc n -ℤ pos 1 ≡ negsuc (suc n) = omega (arith, ints) in
    subst P is (down (negsuc n) (by_steps P base up down (negsuc n)))

zero_add : (b : ℤ) → pos 0 +ℤ b ≡ b
zero_add b = omega (arith, ints)

turned : (x y z : ℤ) → (x +ℤ y) +ℤ z ≡ (x +ℤ z) +ℤ y
turned x y z = omega (arith, ints)

turned_less : (x y z : ℤ) → (x +ℤ y) -ℤ z ≡ (x -ℤ z) +ℤ y
turned_less x y z = omega (arith, ints)

pub mul_add : (a b c : ℤ) → (a +ℤ b) *ℤ c ≡ a *ℤ c +ℤ b *ℤ c
mul_add a b c =
    by_steps (λ x. (x +ℤ b) *ℤ c ≡ x *ℤ c +ℤ b *ℤ c)
    (ap (λ x. x *ℤ c) (zero_add b) ∙ sym (ap (λ x. x +ℤ b *ℤ c) (zero-*ℤ c) ∙ zero_add (b *ℤ c)))
    (λ m ih.
    ap (λ x. x *ℤ c) (turned m (pos 1) b) ∙ one_more (m +ℤ b) c ∙ ap (λ x. x +ℤ c) ih ∙ turned (m *ℤ c) (b *ℤ c) c
    ∙ ap (λ x. x +ℤ b *ℤ c) (sym (one_more m c)))
    (λ m ih.
    ap (λ x. x *ℤ c) (sym (turned_less m b (pos 1))) ∙ one_less (m +ℤ b) c ∙ ap (λ x. x -ℤ c) ih ∙ turned_less (m *ℤ c) (b *ℤ c) c
    ∙ ap (λ x. x +ℤ b *ℤ c) (sym (one_less m c)))
    a

opposite : (x y : ℤ) → pos 0 ≡ x +ℤ y → x ≡ neg_ℤ y
opposite x y sum = omega (arith, ints, sum)

self_less : (x : ℤ) → x -ℤ x ≡ pos 0
self_less x = omega (arith, ints)

pub mul_neg : (a b : ℤ) → neg_ℤ a *ℤ b ≡ neg_ℤ (a *ℤ b)
mul_neg a b =
    let none : neg_ℤ a +ℤ a ≡ pos 0 = omega (arith, ints) in
    let sum : pos 0 ≡ neg_ℤ a *ℤ b +ℤ a *ℤ b = sym (zero-*ℤ b) ∙ ap (λ x. x *ℤ b) (sym none) ∙ mul_add (neg_ℤ a) a b in
    opposite (neg_ℤ a *ℤ b) (a *ℤ b) sum

pub mul_sub : (a b c : ℤ) → (a -ℤ b) *ℤ c ≡ a *ℤ c -ℤ b *ℤ c
mul_sub a b c = mul_add a (neg_ℤ b) c ∙ ap (λ x. a *ℤ c +ℤ x) (mul_neg b c)

pub mul_assoc : (a b c : ℤ) → (a *ℤ b) *ℤ c ≡ a *ℤ (b *ℤ c)
mul_assoc a b c =
    by_steps (λ x. (x *ℤ b) *ℤ c ≡ x *ℤ (b *ℤ c))
    (ap (λ x. x *ℤ c) (zero-*ℤ b) ∙ zero-*ℤ c ∙ sym (zero-*ℤ (b *ℤ c)))
    (λ m ih. ap (λ x. x *ℤ c) (one_more m b) ∙ mul_add (m *ℤ b) b c ∙ ap (λ x. x +ℤ b *ℤ c) ih ∙ sym (one_more m (b *ℤ c)))
    (λ m ih. ap (λ x. x *ℤ c) (one_less m b) ∙ mul_sub (m *ℤ b) b c ∙ ap (λ x. x -ℤ b *ℤ c) ih ∙ sym (one_less m (b *ℤ c)))
    a

-- ---- the values of INTEGER, as std has them

pub fits_integer : (z : ℤ) → FitsSigned w32 z → IsInteger z
fits_integer (pos n) h = (omega (arith, ints), omega (arith, ints, h))
fits_integer (negsuc n) h = (omega (arith, ints, h), omega (arith, ints))

pub integer_fits : (z : ℤ) → IsInteger z → FitsSigned w32 z
integer_fits (pos n) h = let g : n < 2147483648 = omega (arith, ints, h.1) in record { sfits = g }
integer_fits (negsuc n) h = let g : n < 2147483648 = omega (arith, ints, h.0) in record { sfits = g }

max_of : (b : Bool) (n : ℕ) → pos (unsigned_abs (if b then pos n else pos 0)) ≡ (if b then pos n else pos 0)
max_of true n = refl
max_of false n = refl

-- what is at least 0 is a natural number
pub max_natural : (z : ℤ) → pos (unsigned_abs (int_max z (pos 0))) ≡ int_max z (pos 0)
max_natural (pos n) = max_of (int_lt (pos 0) (pos n)) n
max_natural (negsuc n) = refl
