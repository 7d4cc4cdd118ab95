-- What the words of `Integer` mean.
use Rattle.std.specs.Prelude.{◌≡◌, ◌↔◌, ◌^◌, ◌<◌, ℤ, pos, neg_ℤ, ◌+ℤ◌, ◌*ℤ◌, ◌≤ℤ◌, ◌<ℤ◌, unsigned_abs, Some}
use Rattle.a95_base.specs.Integer.{wrapped, remainder_of, modulo_of}

-- the values of an INTEGER
abbrev pub IsInteger : ℤ → Type 0
IsInteger z = (neg_ℤ (pos (2 ^ 31)) ≤ℤ z) × (z <ℤ pos (2 ^ 31))

-- x and z differ by a multiple of d
abbrev pub DifferByMultiple : ℤ → ℤ → ℤ → Type 0
DifferByMultiple d x z = (k : ℤ) × (x ≡ z +ℤ k *ℤ d)

-- the wrapped value is the one INTEGER that differs from x by a multiple of 2 ^ 32
abbrev pub WrappedIsTheOne : Type 0
WrappedIsTheOne = (x z : ℤ) → (z ≡ wrapped x) ↔ (IsInteger z × DifferByMultiple (pos (2 ^ 32)) x z)

-- MODULO differs from a by a multiple of p, is nearer to zero than p, and has the sign of p where it isn't zero
abbrev pub ModuloIsNear : Type 0
ModuloIsNear =
    (a p m : ℤ) → modulo_of a p ≡ Some m
    → DifferByMultiple p a m × (unsigned_abs m < unsigned_abs p) × (pos 0 <ℤ p → pos 0 ≤ℤ m) × (p <ℤ pos 0 → m ≤ℤ pos 0)

-- MOD is nearer to zero than p, and has the sign of a where it isn't zero
abbrev pub RemainderIsNear : Type 0
RemainderIsNear =
    (a p m : ℤ) → remainder_of a p ≡ Some m
    → DifferByMultiple p a m × (unsigned_abs m < unsigned_abs p) × (pos 0 ≤ℤ a → pos 0 ≤ℤ m) × (a ≤ℤ pos 0 → m ≤ℤ pos 0)
