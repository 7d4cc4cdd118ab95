-- An INTEGER that an operation gives.
use Rattle.std.proofs.Common.{◌≡◌, ◌≢◌, ℤ, pos, ◌+ℤ◌, ◌*ℤ◌, ◌^◌, Bool, true, false, Option, Some, None, FitsSigned, SomeIff}
use Rattle.std.proofs.Common.{w32, refl, sym, ap, ◌∙◌, arith}
use Rattle.std.specs.Prelude.{int_div, if◌then◌else◌}
use Rattle.std.specs.Int.{IsNonZero, CanDivide}
use Rattle.std.specs.Ordering.{int_eq}
use Rattle.std.proofs.lemmas.Bool.{false_from_ne_true}
use Rattle.std.proofs.lemmas.Bool.Decides.{Decides-int_eq}
use Rattle.std.proofs.lemmas.Int.{ints}
use Rattle.a95_base.specs.Integer.{wrapped}
use Rattle.a95_base.specs.declared.scalar.Scalar.TheVariants as scalar
use Rattle.a95_base.proofs.Wrapping.{wrapped_is_the_one}
use Rattle.a95_base.proofs.Integers.{fits_integer, integer_fits}
use Rattle.constant_operators.specs.declared.value.Worth.{Worth}
use Rattle.constant_operators.specs.declared.value.Worth.TheVariants.{Is, Spoilt}
use Rattle.constant_operators.specs.Operators.{within, integer_or_spoilt, quotient_within}
use Rattle.constant_operators.specs.Laws.{KnownWithin}

none_of_it : (z : ℤ) → z ≡ z +ℤ pos 0 *ℤ pos (2 ^ 32)
none_of_it z = omega (arith, ints)

worth_is : (b : Bool) (z : ℤ) → (if b then Is (scalar.Int z) else Spoilt) ≡ Is (scalar.Int z) → b ≡ true
worth_is true z e = refl
worth_is false z e = absurd (grind (arith, e))

pub known_within : KnownWithin
known_within z = (
  λ e. ((wrapped_is_the_one z z).0 (sym ((Decides-int_eq (wrapped z) z).0 (worth_is (int_eq (wrapped z) z) z e)))).0,
  λ h. ap (λ b. if b then Is (scalar.Int z) else Spoilt)
      ((Decides-int_eq (wrapped z) z).1 (sym ((wrapped_is_the_one z z).1 (h, (pos 0, none_of_it z))))),
)

known_or_spoilt : (b : Bool) (z : ℤ) → ((if b then Is (scalar.Int z) else Spoilt) ≡ Is (scalar.Int z) → ⊥)
    → (if b then Is (scalar.Int z) else Spoilt) ≡ Spoilt
known_or_spoilt true z h = absurd (h refl)
known_or_spoilt false z h = refl

pub same_two : (f : ℤ → ℤ → ℤ) (a b x y : ℤ) → a ≡ x → b ≡ y → f a b ≡ f x y
same_two f a b x y e h = ap (λ z. f z b) e ∙ ap (λ z. f x z) h

-- what a checked operation gives
pub checked_is : (r : Option ℤ) (z : ℤ) → SomeIff r (FitsSigned w32 z) z → integer_or_spoilt r ≡ within z
checked_is (Some x) z h = ap (λ y. Is (scalar.Int y)) h.1 ∙ sym ((known_within z).1 (fits_integer z h.0))
checked_is None z h = sym (known_or_spoilt (int_eq (wrapped z) z) z (λ e. h (integer_fits z ((known_within z).0 e))))

-- and a checked division
pub divided_is : (r : Option ℤ) (x y : ℤ) → IsNonZero w32 y → SomeIff r (CanDivide w32 x y) (int_div x y)
    → integer_or_spoilt r ≡ within (int_div x y)
divided_is (Some q) x y some h = ap (λ z. Is (scalar.Int z)) h.1
    ∙ sym ((known_within (int_div x y)).1 (fits_integer (int_div x y) h.0.1))
divided_is None x y some h =
    sym (known_or_spoilt (int_eq (wrapped (int_div x y)) (int_div x y)) (int_div x y)
    (λ e. h (some, integer_fits (int_div x y) ((known_within (int_div x y)).0 e))))

quotient_by : (b : Bool) (w : Worth) → b ≡ false → w ≡ (if b then Spoilt else w)
quotient_by true w e = absurd (let z : ⊥ = cc in z)
quotient_by false w e = refl

-- a quotient by another number than 0
pub divided : (x y : ℤ) → y ≢ pos 0 → within (int_div x y) ≡ quotient_within x y
divided x y h = quotient_by (int_eq y (pos 0)) (within (int_div x y))
    (false_from_ne_true (int_eq y (pos 0)) (λ e. h ((Decides-int_eq y (pos 0)).0 e)))
