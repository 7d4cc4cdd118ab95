-- Words of different lengths are different.
use Rattle.std.proofs.Common.{◌≡◌, ◌≢◌, ℕ, suc, false, nat_eq, List, [], ◌∷◌, length, refl, ap}
use Rattle.std.specs.Cmp.Lexicographic.{pointwise}
use Rattle.std.proofs.lemmas.Bool.{and_right}

pub unlike : (word name : List ℕ) → length word ≢ length name → pointwise nat_eq word name ≡ false
unlike [] [] differ = absurd (differ refl)
unlike [] (n ∷ name) differ = refl
unlike (w ∷ word) [] differ = refl
unlike (w ∷ word) (n ∷ name) differ =
    and_right (nat_eq w n) (pointwise nat_eq word name) (unlike word name (λ same. differ (ap suc same)))
