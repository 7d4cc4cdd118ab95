-- A variable that was set has the value, and the others keep theirs.
use Rattle.std.proofs.Common.{◌≡◌, ℕ, zero, suc, ℤ, pos, List, [], ◌∷◌, refl, ap, ◌∙◌}
use Rattle.std.specs.Prelude.{◌≢◌}
use Rattle.loop_tree.specs.State.{with_at}
use Rattle.loop_tree.specs.Values.{number_at}

pub set_same : (ints : List ℤ) (n : ℕ) (value : ℤ) → number_at (with_at (pos 0) ints n value) n ≡ value
unfolding with_at
set_same [] zero value = refl
set_same [] (suc n) value = set_same [] n value
set_same (x ∷ xs) zero value = refl
set_same (x ∷ xs) (suc n) value = set_same xs n value

none_at : (n : ℕ) → number_at [] n ≡ pos 0
none_at zero = refl
none_at (suc n) = refl

pub set_other : (ints : List ℤ) (n m : ℕ) (value : ℤ) → n ≢ m → number_at (with_at (pos 0) ints n value) m ≡ number_at ints m
unfolding with_at
set_other [] zero zero value e = absurd (e refl)
set_other [] zero (suc m) value e = refl
set_other [] (suc n) zero value e = refl
set_other [] (suc n) (suc m) value e = set_other [] n m value (λ h. e (ap suc h)) ∙ none_at m
set_other (x ∷ xs) zero zero value e = absurd (e refl)
set_other (x ∷ xs) zero (suc m) value e = refl
set_other (x ∷ xs) (suc n) zero value e = refl
set_other (x ∷ xs) (suc n) (suc m) value e = set_other xs n m value (λ h. e (ap suc h))
