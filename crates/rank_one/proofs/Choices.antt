-- Choices by a test.
use Rattle.std.proofs.Common.{◌≡◌, Bool, false, true, cond, refl, ap, Option, Some}
use Rattle.std.proofs.lemmas.Option.{same_Some}

-- a choice by a test whose answer is known
pub yes : {A : Type 0} {b : Bool} (x y : A) → b ≡ true → cond b x y ≡ x
yes x y h = ap (λ t. cond t x y) h

pub no : {A : Type 0} {b : Bool} (x y : A) → b ≡ false → cond b x y ≡ y
no x y h = ap (λ t. cond t x y) h

-- a test is one or the other
pub by_test : {P : Type 0} (b : Bool) → (b ≡ true → P) → (b ≡ false → P) → P
by_test true on_true on_false = on_true refl
by_test false on_true on_false = on_false refl

pub pair_is : {A B : Type 0} (a c : A) (b d : B) → ◌≡◌ {A = Option (A × B)} (Some (a, b)) (Some (c, d)) → (a ≡ c) × (b ≡ d)
pair_is {A} {B} a c b d h =
    let e : ◌≡◌ {A = A × B} (a, b) (c, d) = same_Some {A = A × B} (a, b) (c, d) h in
    (ap (λ (p : A × B). p.0) e, ap (λ (p : A × B). p.1) e)
