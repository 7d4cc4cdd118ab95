-- INTEGERs as 64-bit numbers: what the code reads of one is the number itself, and so are what it computes of them.
use Rattle.std.proofs.Common.{◌≡◌, ◌≢◌, ℕ, ℤ, pos, zero, suc, ◌^◌, ◌<◌, ◌≤◌, ◌+ℤ◌, ◌-ℤ◌, ◌*ℤ◌, ◌≤ℤ◌, List, length, get_or, refl, sym, ap, ◌∙◌, subst, arith, FitsSigned, w64, of_z, to_z}
use Rattle.std.specs.Prelude.{◌↔◌, negsuc, neg_ℤ, int_div, unsigned_abs, IsTrue}
use Rattle.std.proofs.lemmas.Int.{ints, to_z-of_z, fits_signed_from_abs}
use Rattle.a95_base.specs.IntegerLaws.{IsInteger}
use Rattle.a95_base.proofs.Lists.{each_at}
use Rattle.a95_base.proofs.Quotients.{abs_div}
use Rattle.section_algebra.specs.Section.{AreIntegers, triplet_count}
use Rattle.section_algebra.specs.Dimensions.{InBounds}

abbrev pub read : ℤ → ℤ
read z = to_z w64 (of_z w64 z)

pub integer_wide : (z : ℤ) → IsInteger z → FitsSigned w64 z
integer_wide (pos n) h = omega (arith, ints, h.1)
integer_wide (negsuc n) h = omega (arith, ints, h.0)

pub read_back : (z : ℤ) → IsInteger z → read z ≡ z
read_back z h = to_z-of_z w64 z (integer_wide z h)

pub read_integer : (z : ℤ) → IsInteger z → IsInteger (read z)
read_integer z h = let P : ℤ → Type 0 = IsInteger in subst P (sym (read_back z h)) h

pub integer_at : (zs : List ℤ) (k : ℕ) → AreIntegers zs → k < length zs → IsInteger (get_or zs k (pos 0))
integer_at zs k h below = each_at IsInteger zs k (pos 0) h below

near_wide : (z : ℤ) → neg_ℤ (pos (2 ^ 40)) ≤ℤ z → z ≤ℤ pos (2 ^ 40) → FitsSigned w64 z
near_wide (pos n) low high = omega (arith, ints, high)
near_wide (negsuc n) low high = omega (arith, ints, low)

-- ---- a term of a progression

product_wide : (s x : ℤ) → IsInteger s → IsInteger (s +ℤ x) → FitsSigned w64 x
product_wide s (pos n) f g = omega (arith, ints, f.0, f.1, g.0, g.1)
product_wide s (negsuc n) f g = omega (arith, ints, f.0, f.1, g.0, g.1)

pub term_read : (start stride turn : ℤ) → IsInteger start → IsInteger stride → FitsSigned w64 turn
    → IsInteger (start +ℤ turn *ℤ stride) → read (read start +ℤ read (read turn *ℤ read stride)) ≡ start +ℤ turn *ℤ stride
term_read start stride turn f g wide whole =
    ap (λ x. read (x +ℤ read (read turn *ℤ read stride))) (read_back start f)
    ∙ ap (λ x. read (start +ℤ read (x *ℤ read stride))) (to_z-of_z w64 turn wide)
    ∙ ap (λ x. read (start +ℤ read (turn *ℤ x))) (read_back stride g)
    ∙ ap (λ x. read (start +ℤ x)) (to_z-of_z w64 (turn *ℤ stride) (product_wide start (turn *ℤ stride) f whole))
    ∙ read_back (start +ℤ turn *ℤ stride) whole

-- ---- bounds

pub bounds_read : (r : _) (l u y z : ℤ) → FitsSigned w64 l → FitsSigned w64 u → FitsSigned w64 y → y ≡ z
    → (IsTrue r ↔ ((read l ≤ℤ read y) × (read y ≤ℤ read u))) → (IsTrue r ↔ InBounds l u z)
bounds_read r l u y z f g h e k =
    let P : ℤ → Type 0 = λ x. IsTrue r ↔ ((x ≤ℤ read y) × (read y ≤ℤ read u)) in
    let Q : ℤ → Type 0 = λ x. IsTrue r ↔ ((l ≤ℤ read y) × (read y ≤ℤ x)) in
    let R : ℤ → Type 0 = λ x. IsTrue r ↔ InBounds l u x in
    subst R (to_z-of_z w64 y h ∙ e) (subst Q (to_z-of_z w64 u g) (subst P (to_z-of_z w64 l f) k))

-- ---- quotients

-- ---- a triplet's count

pub steps_read : (z : ℤ) → IsInteger z → z ≢ pos 0 → 0 < of_z w64 z
steps_read (pos zero) h some = absurd (some refl)
steps_read (pos (suc n)) h some = omega arith
steps_read (negsuc n) h some = omega (arith, ints, h.0)

module _ (first last stride : ℤ) (f : IsInteger first) (l : IsInteger last) (s : IsInteger stride) where
  difference_wide : FitsSigned w64 (last -ℤ first)
  difference_wide = near_wide (last -ℤ first) (omega (arith, ints, f.0, f.1, l.0, l.1)) (omega (arith, ints, f.0, f.1, l.0, l.1))

  dividend_wide : FitsSigned w64 (last -ℤ first +ℤ stride)
  dividend_wide =
      near_wide (last -ℤ first +ℤ stride) (omega (arith, ints, f.0, f.1, l.0, l.1, s.0, s.1))
      (omega (arith, ints, f.0, f.1, l.0, l.1, s.0, s.1))

  pub dividend_read : read (read (read last -ℤ read first) +ℤ read stride) ≡ last -ℤ first +ℤ stride
  dividend_read =
      ap (λ x. read (read (x -ℤ read first) +ℤ read stride)) (read_back last l)
      ∙ ap (λ x. read (read (last -ℤ x) +ℤ read stride)) (read_back first f)
      ∙ ap (λ x. read (x +ℤ read stride)) (to_z-of_z w64 (last -ℤ first) difference_wide)
      ∙ ap (λ x. read (last -ℤ first +ℤ x)) (read_back stride s)
      ∙ to_z-of_z w64 (last -ℤ first +ℤ stride) dividend_wide

  pub quotient_wide : FitsSigned w64 (int_div (last -ℤ first +ℤ stride) stride)
  quotient_wide =
      fits_signed_from_abs w64 (int_div (last -ℤ first +ℤ stride) stride)
      (let most : unsigned_abs (last -ℤ first +ℤ stride) < 2 ^ 40 = omega (arith, ints, f.0, f.1, l.0, l.1, s.0, s.1) in
      omega (arith, abs_div (last -ℤ first +ℤ stride) stride, most))

  pub quotient_read : int_div (read (read (read last -ℤ read first) +ℤ read stride)) (read stride)
      ≡ int_div (last -ℤ first +ℤ stride) stride
  quotient_read =
      ap (λ x. int_div x (read stride)) dividend_read
      ∙ ap (λ x. int_div (last -ℤ first +ℤ stride) x) (read_back stride s)

pub count_read : (first last stride : ℤ) → IsInteger first → IsInteger last → IsInteger stride
    → triplet_count (read first) (read last) (read stride) ≡ triplet_count first last stride
count_read first last stride f l s =
    ap (λ x. triplet_count x (read last) (read stride)) (read_back first f)
    ∙ ap (λ x. triplet_count first x (read stride)) (read_back last l)
    ∙ ap (λ x. triplet_count first last x) (read_back stride s)
