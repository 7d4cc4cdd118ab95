-- A walk over a list whose items go as it passes them: what is left is that of the whole.
use Rattle.std.proofs.Common.{◌≡◌, ℕ, ◌+◌, ◌<◌, List, ◌∷◌, ◌++◌, length, drop, set, get_or, sym, ap, ◌∙◌, append_assoc, arith}
use Rattle.std.proofs.Common.{subst}
use Rattle.std.specs.List.{flat_map}
use Rattle.std.proofs.lemmas.List.{drop-set-lt, drop_more}
use Rattle.std.proofs.lemmas.Grind.{drop_more_same}
use Rattle.a95_base.specs.Lists.{Every}

-- what stands behind the place is the same in both
pub stays : {X : Type 0} (left whole : List X) (at : ℕ) (gone : X) → drop at left ≡ drop at whole →
    drop (at + 1) (set left at gone) ≡ drop (at + 1) whole
stays left whole at gone same = drop-set-lt (at + 1) left at gone (omega arith) ∙ drop_more_same left whole at same

-- the item at the place comes first of what is left
pub first_left : {X : Type 0} (left whole : List X) (at : ℕ) (d : X) → at < length left → drop at left ≡ drop at whole →
    drop at whole ≡ get_or left at d ∷ drop (at + 1) whole
first_left left whole at d within same = sym same ∙ drop_more left at d within
    ∙ ap (λ xs. get_or left at d ∷ xs) (drop_more_same left whole at same)

pub goes_on : {X Y : Type 0} (f : X → List Y) (left whole : List X) (at : ℕ) (d : X) (before : List Y) → at < length left →
    drop at left ≡ drop at whole → before ++ flat_map f (drop at whole)
    ≡ (before ++ f (get_or left at d)) ++ flat_map f (drop (at + 1) whole)
goes_on f left whole at d before within same =
    ap (λ xs. before ++ flat_map f xs) (first_left left whole at d within same)
    ∙ sym (append_assoc before (f (get_or left at d)) (flat_map f (drop (at + 1) whole)))

pub fits_on : {X : Type 0} (P : X → Type 0) (left whole : List X) (at : ℕ) (d : X) → at < length left →
    drop at left ≡ drop at whole → P (get_or left at d) → Every P (drop (at + 1) whole) → Every P (drop at whole)
fits_on P left whole at d within same holds more = subst (Every P) (sym (first_left left whole at d within same)) (holds, more)
