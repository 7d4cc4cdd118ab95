-- The count of a DO in exact integers of 64 bits.
use Rattle.std.proofs.Common.{◌≡◌, refl, sym, subst, ℕ, ℤ, suc, pos, ◌≤◌, ◌^◌, ◌+◌, ◌*◌, ◌/◌, arith, Bool, true, false}
use Rattle.std.specs.Prelude.{negsuc, ◌+ℤ◌, ◌-ℤ◌, int_div, int_le, int_lt, unsigned_abs, ◌≤ℤ◌, ◌<ℤ◌, FitsSigned, Some, ◌&&◌}
use Rattle.std.specs.Prelude.{if◌then◌else◌}
use Rattle.std.specs.Int.{int_max, w32}
use Rattle.std.proofs.Math.Nat.{div-mul-le_self}
use Rattle.std.proofs.lemmas.Nat.{mul-le}
use Rattle.std.proofs.lemmas.Int.{ints}
use Rattle.array_meaning.specs.Sections.{triplet_count}
use Rattle.nest_tree.specs.Elements.{in_64_bits, int, least_exact}
use Rattle.std.specs.Cmp.Derive.{both_true}
use Rattle.a95_base.proofs.Quotients.{abs_neg, abs_div}
use Rattle.a95_base.proofs.Integers.{max_natural}
use Rattle.control_lower.proofs.Sorts.{le_true, lt_true}

pub in_64 : (z : ℤ) → unsigned_abs z ≤ 2 ^ 40 → in_64_bits z ≡ Some (int z)
in_64 z h = within_64 z (both_true (le_true least_exact z (low z h))
    (lt_true z (pos (2 ^ 63)) (high z h)))
  where
    within_64 : (z : ℤ) → (int_le least_exact z && int_lt z (pos (2 ^ 63))) ≡ true → in_64_bits z ≡ Some (int z)
    within_64 z h = rw h refl

    low : (z : ℤ) → unsigned_abs z ≤ 2 ^ 40 → least_exact ≤ℤ z
    low (pos n) h = omega (arith, ints)
    low (negsuc n) h = omega (arith, ints, h)

    high : (z : ℤ) → unsigned_abs z ≤ 2 ^ 40 → z <ℤ pos (2 ^ 63)
    high (pos n) h = omega (arith, ints, h)
    high (negsuc n) h = omega (arith, ints)

div_times : (a b : ℕ) → a / b * b ≤ a
div_times a b = div-mul-le_self a b

div_abs_times : (x y : ℤ) → unsigned_abs (int_div x y) * unsigned_abs y ≤ unsigned_abs x
div_abs_times (pos a) (pos b) = div_times a b
div_abs_times (pos a) (negsuc b) = subst (λ n. n * suc b ≤ a) (sym (abs_neg (a / suc b))) (div_times a (suc b))
div_abs_times (negsuc a) (pos b) = subst (λ n. n * b ≤ suc a) (sym (abs_neg (suc a / b))) (div_times (suc a) b)
div_abs_times (negsuc a) (negsuc b) = div_times (suc a) (suc b)

max_by : (b : Bool) (q : ℤ) → unsigned_abs (if b then q else pos 0) ≤ unsigned_abs q
max_by true q = omega arith
max_by false q = omega arith

max_abs : (q : ℤ) → unsigned_abs (int_max q (pos 0)) ≤ unsigned_abs q
max_abs q = max_by (int_lt (pos 0) q) q

pub fits_abs : (z : ℤ) → FitsSigned w32 z → unsigned_abs z ≤ 2 ^ 31
fits_abs (pos n) h = omega arith
fits_abs (negsuc n) h = omega arith

abs_by : (a b c : ℤ) → c ≡ a +ℤ b → unsigned_abs c ≤ unsigned_abs a + unsigned_abs b
abs_by (pos a) (pos b) (pos c) e = omega (arith, ints, e)
abs_by (pos a) (pos b) (negsuc c) e = omega (arith, ints, e)
abs_by (pos a) (negsuc b) (pos c) e = omega (arith, ints, e)
abs_by (pos a) (negsuc b) (negsuc c) e = omega (arith, ints, e)
abs_by (negsuc a) (pos b) (pos c) e = omega (arith, ints, e)
abs_by (negsuc a) (pos b) (negsuc c) e = omega (arith, ints, e)
abs_by (negsuc a) (negsuc b) (pos c) e = omega (arith, ints, e)
abs_by (negsuc a) (negsuc b) (negsuc c) e = omega (arith, ints, e)

abs_less : (a b c : ℤ) → c ≡ a -ℤ b → unsigned_abs c ≤ unsigned_abs a + unsigned_abs b
abs_less (pos a) (pos b) (pos c) e = omega (arith, ints, e)
abs_less (pos a) (pos b) (negsuc c) e = omega (arith, ints, e)
abs_less (pos a) (negsuc b) (pos c) e = omega (arith, ints, e)
abs_less (pos a) (negsuc b) (negsuc c) e = omega (arith, ints, e)
abs_less (negsuc a) (pos b) (pos c) e = omega (arith, ints, e)
abs_less (negsuc a) (pos b) (negsuc c) e = omega (arith, ints, e)
abs_less (negsuc a) (negsuc b) (pos c) e = omega (arith, ints, e)
abs_less (negsuc a) (negsuc b) (negsuc c) e = omega (arith, ints, e)

pub abs_add : (a b : ℤ) → unsigned_abs (a +ℤ b) ≤ unsigned_abs a + unsigned_abs b
abs_add a b = abs_by a b (a +ℤ b) refl

pub abs_sub : (a b : ℤ) → unsigned_abs (a -ℤ b) ≤ unsigned_abs a + unsigned_abs b
abs_sub a b = abs_less a b (a -ℤ b) refl

-- the count, and what bounds it
pub record Counts (f l s : ℤ) : Type 0 where
  pub difference : unsigned_abs (l -ℤ f) ≤ 2 ^ 40
  pub sum : unsigned_abs ((l -ℤ f) +ℤ s) ≤ 2 ^ 40
  pub quotient : unsigned_abs (int_div ((l -ℤ f) +ℤ s) s) ≤ 2 ^ 40
  pub most : int_max (int_div ((l -ℤ f) +ℤ s) s) (pos 0) ≡ pos (triplet_count f l s)
  pub small : triplet_count f l s ≤ 2 ^ 34
  pub reach : unsigned_abs f + triplet_count f l s * unsigned_abs s ≤ 2 ^ 34

mul_up : (a b c : ℕ) → a ≤ b → a * c ≤ b * c
mul_up a b c h = mul-le a c b c h (omega arith)

pub counts : (f l s : ℤ) → FitsSigned w32 f → FitsSigned w32 l → FitsSigned w32 s → Counts f l s
counts f l s ff fl fs =
    let one : unsigned_abs (l -ℤ f) ≤ unsigned_abs l + unsigned_abs f = abs_sub l f in
    let two : unsigned_abs ((l -ℤ f) +ℤ s) ≤ unsigned_abs (l -ℤ f) + unsigned_abs s = abs_add (l -ℤ f) s in
    let q : unsigned_abs (int_div ((l -ℤ f) +ℤ s) s) ≤ unsigned_abs ((l -ℤ f) +ℤ s) = abs_div ((l -ℤ f) +ℤ s) s in
    let t : unsigned_abs (int_div ((l -ℤ f) +ℤ s) s) * unsigned_abs s ≤ unsigned_abs ((l -ℤ f) +ℤ s) = div_abs_times
    ((l -ℤ f) +ℤ s) s in
    let m : triplet_count f l s ≤ unsigned_abs (int_div ((l -ℤ f) +ℤ s) s) = max_abs (int_div ((l -ℤ f) +ℤ s) s) in
    let p : triplet_count f l s * unsigned_abs s ≤ unsigned_abs (int_div ((l -ℤ f) +ℤ s) s) * unsigned_abs s =
    mul_up (triplet_count f l s) (unsigned_abs (int_div ((l -ℤ f) +ℤ s) s)) (unsigned_abs s) m in
    let af = fits_abs f ff in
    let al = fits_abs l fl in
    let as' = fits_abs s fs in
    record {
      difference = omega (arith, one, af, al);
      sum = omega (arith, one, two, af, al, as');
      quotient = omega (arith, one, two, q, af, al, as');
      most = sym (max_natural (int_div ((l -ℤ f) +ℤ s) s));
      small = omega (arith, one, two, q, m, af, al, as');
      reach = omega (arith, one, two, t, p, af, al, as');
    }
