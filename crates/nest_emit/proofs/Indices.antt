-- Which number an element has: where each subscript lies within its bounds, and modulo 2 ^ 64.
use Rattle.std.proofs.Common.{◌≡◌, ℕ, suc, ◌+◌, ◌*◌, ◌-◌, ◌<◌, ◌≤◌, ◌^◌, Bool, true, false, ◌&&◌, List, [], ◌∷◌, Option, Some, None, refl, sym, ap, ◌∙◌, arith, ℤ, pos, if◌then◌else◌}
use Rattle.std.specs.Prelude.{negsuc, neg_ℤ, ◌+ℤ◌, ◌-ℤ◌, ◌*ℤ◌, int_le, int_lt, unsigned_abs}
use Rattle.std.specs.Int.{w64, int_wrap}
use Rattle.std.proofs.Math.Nat.{mul-le-mul_left, mul-suc}
use Rattle.std.proofs.lemmas.Bool.Decides.{nat_tests}
use Rattle.std.proofs.lemmas.Int.{ints, int_wrap_fits, SFits-int_wrap, int_wrap-add_same, int_wrap-add_right, int_wrap-add_left, int_wrap-mul_left, int_wrap-mul_right}
use Rattle.std.proofs.lemmas.Bool.{and_parts}
use Rattle.array_meaning.specs.State.{Dimension as Bounds, extent_of, extents_of}
use Rattle.array_meaning.specs.Values.{size_of}
use Rattle.nest_tree.specs.Places.{numbered, number_within}
use Rattle.nest_tree.specs.Elements.{least_exact}

-- ---- order

-- how far the greater one is above
pub record Above (x y : ℤ) : Type 0 where
  pub by : ℕ
  pub is : y -ℤ x ≡ pos by

pub le_tells : (x y : ℤ) → int_le x y ≡ true → Above x y
le_tells (pos x) (pos y) h =
    let less : x ≤ y = grind (arith, nat_tests) in record { by = y - x; is = omega (arith, ints, less) }
le_tells (pos x) (negsuc y) h = cc
le_tells (negsuc x) (pos y) h = record { by = y + suc x; is = omega (arith, ints) }
le_tells (negsuc x) (negsuc y) h =
    let less : y ≤ x = grind (arith, nat_tests) in record { by = x - y; is = omega (arith, ints, less) }

between : (l z u : ℤ) → int_le l z ≡ true → int_le z u ≡ true → int_lt u l ≡ false
between (pos l) (pos z) (pos u) h g = grind (arith, nat_tests)
between (pos l) (pos z) (negsuc u) h g = cc
between (pos l) (negsuc z) u h g = cc
between (negsuc l) z (pos u) h g = refl
between (negsuc l) (pos z) (negsuc u) h g = cc
between (negsuc l) (negsuc z) (negsuc u) h g = grind (arith, nat_tests)

-- ---- one dimension

pub record Numbered (d : Bounds) (z : Option ℤ) (m : Option ℕ) (k : ℕ) : Type 0 where
  pub subscript : ℤ
  pub is : z ≡ Some subscript
  pub rest : ℕ
  pub there : m ≡ Some rest
  pub step : ℕ
  pub above : subscript -ℤ d.lower ≡ pos step
  pub below : step < extent_of d
  pub number : k ≡ step + extent_of d * rest

within : (l z u : ℤ) → int_le l z ≡ true → int_le z u ≡ true →
    (step : ℕ) × (z -ℤ l ≡ pos step) × (step < (if int_lt u l then 0 else unsigned_abs (u -ℤ l +ℤ pos 1)))
within l z u h g =
    let a = le_tells l z h in
    let b = le_tells z u g in
    let whole : u -ℤ l +ℤ pos 1 ≡ pos (a.by + b.by + 1) = omega (arith, ints, a.is, b.is) in
    let few : (if int_lt u l then 0 else unsigned_abs (u -ℤ l +ℤ pos 1)) ≡ a.by + b.by + 1 =
    ap (λ (t : Bool). if t then 0 else unsigned_abs (u -ℤ l +ℤ pos 1)) (between l z u h g) ∙ ap unsigned_abs whole in
    (a.by, a.is, omega (arith, few))

numbered_by : (d : Bounds) (z : ℤ) (m k : ℕ) (t : Bool) → (int_le d.lower z && int_le z d.upper) ≡ t →
    (if t then Some (unsigned_abs (z -ℤ d.lower) + extent_of d * m) else None) ≡ Some k → Numbered d (Some z) (Some m) k
numbered_by d z m k false e h = cc
numbered_by d z m k true e h =
    let two = and_parts (int_le d.lower z) (int_le z d.upper) e in
    let in_it = within d.lower z d.upper two.0 two.1 in
    let number : unsigned_abs (z -ℤ d.lower) + extent_of d * m ≡ k = cc in
    record {
      subscript = z;
      is = refl;
      rest = m;
      there = refl;
      step = in_it.0;
      above = in_it.1;
      below = in_it.2;
      number = sym number ∙ ap (λ (y : ℤ). unsigned_abs y + extent_of d * m) in_it.1;
    }

pub numbered_is : (d : Bounds) (z : Option ℤ) (m : Option ℕ) (k : ℕ) → numbered d z m ≡ Some k → Numbered d z m k
numbered_is d None m k h = cc
numbered_is d (Some z) None k h = cc
numbered_is d (Some z) (Some m) k h = numbered_by d z m k (int_le d.lower z && int_le z d.upper) refl h

-- ---- all of them

pub number_below : (bounds : List Bounds) (zs : List (Option ℤ)) (k : ℕ) → number_within bounds zs ≡ Some k →
    k < size_of (extents_of bounds)
number_below [] [] k h = let is : 0 ≡ k = cc in omega (arith, is)
number_below [] (z ∷ zs) k h = cc
number_below (d ∷ bounds) [] k h = cc
number_below (d ∷ bounds) (z ∷ zs) k h =
    let one = numbered_is d z (number_within bounds zs) k h in
    let rest : one.rest < size_of (extents_of bounds) = number_below bounds zs one.rest one.there in
    let more : extent_of d * suc one.rest ≤ extent_of d * size_of (extents_of bounds) = mul-le-mul_left (extent_of d) rest in
    let next : extent_of d * suc one.rest ≡ extent_of d * one.rest + extent_of d = mul_next (extent_of d) one.rest in
    omega (arith, one.number, one.below, more, next)
  where
    mul_next : (e m : ℕ) → e * suc m ≡ e * m + e
    mul_next e m = mul-suc e m

-- ---- modulo 2 ^ 64

pub wrap_wrap : (z : ℤ) → int_wrap w64 (int_wrap w64 z) ≡ int_wrap w64 z
wrap_wrap z = int_wrap_fits w64 (int_wrap w64 z) (SFits-int_wrap w64 z)

pub wrap_sum : (a b : ℤ) → int_wrap w64 (int_wrap w64 a +ℤ int_wrap w64 b) ≡ int_wrap w64 (a +ℤ b)
wrap_sum a b = int_wrap-add_left w64 a (int_wrap w64 b) ∙ int_wrap-add_right w64 a b

pub wrap_product : (a b : ℤ) → int_wrap w64 (int_wrap w64 a *ℤ int_wrap w64 b) ≡ int_wrap w64 (a *ℤ b)
wrap_product a b = int_wrap-mul_left w64 a (int_wrap w64 b) ∙ int_wrap-mul_right w64 a b

pub wrap_gap : (a b l : ℤ) → int_wrap w64 a ≡ int_wrap w64 b → int_wrap w64 (a -ℤ l) ≡ int_wrap w64 (b -ℤ l)
wrap_gap a b l e = int_wrap-add_same w64 a b (neg_ℤ l) e

pub small_wrap : (k : ℕ) → k < 2 ^ 63 → int_wrap w64 (pos k) ≡ pos k
small_wrap k h = int_wrap_fits w64 (pos k) (omega arith)

-- an exact integer has 64 bits
pub wrap_fits : (z : ℤ) → (int_le least_exact z && int_lt z (pos (2 ^ 63))) ≡ true → int_wrap w64 z ≡ z
wrap_fits (pos n) h = int_wrap_fits w64 (pos n)
    (let few : n < 9223372036854775808 = grind (arith, nat_tests) in omega (arith, few))
wrap_fits (negsuc n) h = int_wrap_fits w64 (negsuc n)
    (let few : n < 9223372036854775808 = grind (arith, nat_tests) in omega (arith, few))
