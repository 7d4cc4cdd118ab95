-- Laws of tests, of what stands behind a test, and of equality of numbers, that std lacks.
use Rattle.std.proofs.Common.{◌≡◌, ℕ, suc, ◌+◌, ◌-◌, ◌≤◌, Bool, true, false, ◌&&◌, ◌||◌, Option, Some, None, refl, sym, arith}
use Rattle.std.specs.Prelude.{◌==◌, if◌then◌else◌}
use Rattle.std.proofs.lemmas.Bool.{false≢true, eq-eqb, and_parts}
use Rattle.std.proofs.lemmas.Bool.Decides.{nat_tests}

-- what holds for each answer of a test holds for its answer
pub by_test : (P : Bool → Type 0) (b : Bool) → (b ≡ true → P true) → (b ≡ false → P false) → P b
by_test P true holds fails = holds refl
by_test P false holds fails = fails refl

pub clash : (b : Bool) → b ≡ true → b ≡ false → ⊥
clash true h e = false≢true (sym e)
clash false h e = false≢true h

pub and-true : (b : Bool) → (b && true) ≡ b
and-true true = refl
and-true false = refl

pub and-false : (b : Bool) → (b && false) ≡ false
and-false true = refl
and-false false = refl

pub and_first : (a b : Bool) → (a && b) ≡ true → a ≡ true
and_first a b h = (and_parts a b h).0

pub and_second : (a b : Bool) → (a && b) ≡ true → b ≡ true
and_second a b h = (and_parts a b h).1

pub or-false : (b : Bool) → (b || false) ≡ b
or-false true = refl
or-false false = refl

pub or_assoc : (a b c : Bool) → ((a || b) || c) ≡ (a || (b || c))
or_assoc true b c = refl
or_assoc false b c = refl

pub or_swapped : (a b c : Bool) → (a || (b || c)) ≡ (b || (a || c))
or_swapped true true c = refl
or_swapped true false c = refl
or_swapped false b c = refl

pub or_crossed : (a b c d : Bool) → ((a || b) || (c || d)) ≡ ((a || c) || (b || d))
or_crossed a b c d = grind arith

-- what is only there behind a test
pub some_behind : {A : Type 0} (b : Bool) (o : Option A) (x : A) → (if b then o else None) ≡ Some x → (b ≡ true) × (o ≡ Some x)
some_behind true o x e = (refl, e)
some_behind false o x e = cc

pub equals_itself : (n : ℕ) → (n == n) ≡ true
equals_itself n = eq-eqb n n refl

pub equals_turned : (m n : ℕ) → (m == n) ≡ (n == m)
equals_turned m n = grind (arith, nat_tests)

pub next_place : (i q : ℕ) → i + 1 ≤ q → q - i ≡ suc (q - (i + 1))
next_place i q h = omega arith
