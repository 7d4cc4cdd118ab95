-- What the private fields of a shape and of an order keep, and that the value which contracts see gives them back.
use Rattle.std.specs.Prelude.{◌≡◌, ℕ, ℤ, pos, negsuc, ◌≤ℤ◌, Bool, List, [], ◌∷◌, length, map, unsigned_abs, refl}
use Rattle.std.proofs.Common.{ap, ◌∙◌, arith}
use Rattle.std.proofs.lemmas.Int.{ints}
use Rattle.rank_shape.specs.Shape.{IsRank, AreNatural, naturals}
use Rattle.rank_shape.specs.Order.{levels, loops_of, downs_of, IsOrder}

-- a number that is not negative is what its absolute value says
pub natural_is : (z : ℤ) → pos 0 ≤ℤ z → pos (unsigned_abs z) ≡ z
natural_is (pos n) h = refl
natural_is (negsuc n) h = absurd (omega (arith, ints))

pub pos_naturals : (zs : List ℤ) → AreNatural zs → map pos (naturals zs) ≡ zs
pos_naturals [] h = refl
pos_naturals (z ∷ zs) h = ap (λ w. w ∷ map pos (naturals zs)) (natural_is z h.0) ∙ ap (λ ws. z ∷ ws) (pos_naturals zs h.1)

-- the two lists that an order is kept as
pub record OrderFields (rank : ℕ) (loops : List ℕ) (downs : List Bool) : Type 0 where
  pub ranked : IsRank rank
  pub loops_long : length loops ≡ rank
  pub downs_long : length downs ≡ rank
  pub order : IsOrder rank (levels loops downs)

pub loops_of-levels : (loops : List ℕ) (downs : List Bool) → length loops ≡ length downs → loops_of (levels loops downs) ≡ loops
loops_of-levels [] downs e = refl
loops_of-levels (n ∷ loops) [] e = absurd (omega arith)
loops_of-levels (n ∷ loops) (d ∷ downs) e = ap (λ ns. n ∷ ns) (loops_of-levels loops downs (omega arith))

pub downs_of-levels : (loops : List ℕ) (downs : List Bool) → length loops ≡ length downs → downs_of (levels loops downs) ≡ downs
downs_of-levels [] [] e = refl
downs_of-levels [] (d ∷ downs) e = absurd (omega arith)
downs_of-levels (n ∷ loops) [] e = absurd (omega arith)
downs_of-levels (n ∷ loops) (d ∷ downs) e = ap (λ ds. d ∷ ds) (downs_of-levels loops downs (omega arith))
