-- The last of the first items of a list.
use Rattle.std.proofs.Common.{◌≡◌, ℕ, ◌+◌, ◌-◌, ◌<◌, ◌≤◌, List, [], ◌∷◌, ◌++◌, length, get_or, take, ap, ◌∙◌, arith}
use Rattle.std.proofs.lemmas.List.{take_more}

pub take_end : {A : Type 0} (xs : List A) (n : ℕ) (d : A) → 0 < n → n ≤ length xs →
    take n xs ≡ take (n - 1) xs ++ get_or xs (n - 1) d ∷ []
take_end xs n d some within = let e : n ≡ n - 1 + 1 = omega arith in ap (λ k. take k xs) e ∙ take_more xs (n - 1) d (omega arith)
