-- What arguments are, one after the other.
use Rattle.std.proofs.Common.{◌≡◌, ℕ, List, [], ◌∷◌, ◌++◌, Option, Some, None, refl, sym, ap, ◌∙◌, append_assoc}
use Rattle.std.specs.Prelude.{option_map}
use Rattle.constant_operators.specs.declared.value.Valued.{Valued}
use Rattle.names_types.specs.Constants.{Placed, Seen, seen_first, all_seen}

seen_moved : (made : List Seen) (p : ℕ) (v : Valued) (more : Option (List Seen))
    → option_map (λ ys. made ++ ys) (seen_first p (Some v) more) ≡ option_map (λ ys. (made ++ (p, v) ∷ []) ++ ys) more
seen_moved made p v None = refl
seen_moved made p v (Some ys) = ap Some (sym (append_assoc made ((p, v) ∷ []) ys))

pub seen_more : (a : Placed) (v : Valued) (made : List Seen) (rest : List Placed) (whole : Option (List Seen))
    → a.1.valued ≡ Some v → option_map (λ ys. made ++ ys) (all_seen (a ∷ rest)) ≡ whole
    → option_map (λ ys. (made ++ (a.0, v) ∷ []) ++ ys) (all_seen rest) ≡ whole
seen_more a v made rest whole e h =
    sym (seen_moved made a.0 v (all_seen rest))
    ∙ (ap (λ o. option_map (λ ys. made ++ ys) (seen_first a.0 o (all_seen rest))) (sym e) ∙ h)

pub seen_none : (a : Placed) (made : List Seen) (rest : List Placed) (whole : Option (List Seen))
    → a.1.valued ≡ None → option_map (λ ys. made ++ ys) (all_seen (a ∷ rest)) ≡ whole → None ≡ whole
seen_none a made rest whole e h =
    ap (λ o. option_map (λ ys. made ++ ys) (seen_first a.0 o (all_seen rest))) (sym e) ∙ h
