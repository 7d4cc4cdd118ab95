-- The absolute value of an INTEGER, and its negative.
use Rattle.std.proofs.Common.{◌≡◌, ◌<◌, ℤ, pos, Option, Some, None, FitsSigned, SomeIff, w32, sym, arith}
use Rattle.std.specs.Prelude.{negsuc, neg_ℤ, unsigned_abs}
use Rattle.std.proofs.lemmas.Int.{ints}
use Rattle.a95_base.specs.declared.scalar.Scalar.TheVariants as scalar
use Rattle.a95_base.proofs.Integers.{fits_integer, integer_fits}
use Rattle.constant_operators.specs.declared.value.Worth.TheVariants.{Is}
use Rattle.constant_operators.specs.Operators.{within, integer_or_spoilt}
use Rattle.constant_operators.proofs.Within.{checked_is, known_within}

-- the absolute value fits exactly where the negative does
fits_more : (x : ℤ) → FitsSigned w32 x → FitsSigned w32 (neg_ℤ x) → FitsSigned w32 (pos (unsigned_abs x))
fits_more (pos n) f g = f
fits_more (negsuc n) f g = g

fits_less : (x : ℤ) → FitsSigned w32 x → FitsSigned w32 (pos (unsigned_abs x)) → FitsSigned w32 (neg_ℤ x)
fits_less (pos n) f g =
    let h : n < 2147483648 = f.sfits in
    integer_fits (neg_ℤ (pos n)) (omega (arith, ints), omega (arith, ints))
fits_less (negsuc n) f g = g

moved : (r : Option ℤ) (x : ℤ) → FitsSigned w32 x → SomeIff r (FitsSigned w32 (neg_ℤ x)) (pos (unsigned_abs x))
    → SomeIff r (FitsSigned w32 (pos (unsigned_abs x))) (pos (unsigned_abs x))
moved (Some y) x f h = (fits_more x f h.0, h.1)
moved None x f h = λ g. h (fits_less x f g)

pub absolute_is : (r : Option ℤ) (x : ℤ) → FitsSigned w32 x → SomeIff r (FitsSigned w32 (neg_ℤ x)) (pos (unsigned_abs x))
    → integer_or_spoilt r ≡ within (pos (unsigned_abs x))
absolute_is r x f h = checked_is r (pos (unsigned_abs x)) (moved r x f h)

negative_integer : (x : ℤ) → FitsSigned w32 x → FitsSigned w32 (neg_ℤ (pos (unsigned_abs x)))
negative_integer (pos n) f =
    let h : n < 2147483648 = f.sfits in
    integer_fits (neg_ℤ (pos n)) (omega (arith, ints), omega (arith, ints))
negative_integer (negsuc n) f = f

-- the negative of an absolute value is an INTEGER
pub negative_within : (x : ℤ) → FitsSigned w32 x → Is (scalar.Int (neg_ℤ (pos (unsigned_abs x))))
    ≡ within (neg_ℤ (pos (unsigned_abs x)))
negative_within x f =
    sym ((known_within (neg_ℤ (pos (unsigned_abs x)))).1 (fits_integer (neg_ℤ (pos (unsigned_abs x))) (negative_integer x f)))
