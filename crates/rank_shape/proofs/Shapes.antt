-- Extents as natural numbers, their product, and the product under a cap.
use Rattle.std.proofs.Common.{◌≡◌, ℕ, ℤ, pos, zero, suc, min, ◌+◌, ◌*◌, ◌-◌, ◌^◌, ◌<◌, List, [], ◌∷◌, length, get_or, drop}
use Rattle.std.proofs.Common.{unsigned_abs, sym, ap, ◌∙◌, arith}
use Rattle.std.proofs.Math.Nat.{mul_assoc}
use Rattle.std.proofs.lemmas.Nat.{mul-le}
use Rattle.std.proofs.lemmas.List.{drop_more, length-map}
use Rattle.rank_shape.specs.Shape.{AreNatural, naturals, size_of}
use Rattle.rank_shape.specs.Fields.{natural_is}

pub length-naturals : (zs : List ℤ) → length (naturals zs) ≡ length zs
length-naturals zs = length-map zs unsigned_abs

pub naturals_at : (zs : List ℤ) (k : ℕ) (d : ℤ) → AreNatural zs → k < length zs → pos (get_or (naturals zs) k 0) ≡ get_or zs k d
naturals_at [] k d h below = absurd (omega arith)
naturals_at (z ∷ zs) zero d h below = natural_is z h.0
naturals_at (z ∷ zs) (suc k) d h below = naturals_at zs k d h.1 (omega arith)

-- a factor taken under a cap gives the product under the cap
pub capped : (a r most : ℕ) → min (min a most * r) most ≡ min (a * r) most
capped a zero most = grind arith
capped a (suc r) most = grind (arith, mul-le)

-- one more factor, by arithmetic of 64 bits that saturates
pub capped_step : (extents : List ℕ) (k size next : ℕ) → k < length extents →
    next ≡ min (min (size * get_or extents k 0) (2 ^ 64 - 1)) (2 ^ 24 + 1) →
    min (next * size_of (drop (k + 1) extents)) (2 ^ 24 + 1) ≡ min (size * size_of (drop k extents)) (2 ^ 24 + 1)
capped_step extents k size next below is =
    let extent : ℕ = get_or extents k 0 in
    let rest : ℕ = size_of (drop (k + 1) extents) in
    let once : min (min (size * extent) (2 ^ 64 - 1)) (2 ^ 24 + 1) ≡ min (size * extent) (2 ^ 24 + 1) = omega arith in
    ap (λ x. min (x * rest) (2 ^ 24 + 1)) (is ∙ once) ∙ capped (size * extent) rest (2 ^ 24 + 1)
    ∙ ap (λ x. min x (2 ^ 24 + 1)) (mul_assoc size extent rest)
    ∙ ap (λ xs. min (size * size_of xs) (2 ^ 24 + 1)) (sym (drop_more extents k 0 below))
