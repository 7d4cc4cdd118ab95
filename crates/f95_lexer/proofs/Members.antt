-- Members of lists that are mapped and joined.
use Rattle.std.proofs.Common.{◌≡◌, List, [], ◌∷◌, refl, sym, subst, inl, inr, ⊎_elim}
use Rattle.std.specs.List.{flat_map}
use Rattle.a95_base.specs.Lists.{Member}
use Rattle.a95_base.proofs.Lists.{Member-append_left, Member-append_right, Member-append_cases}

-- a member of what a list's members are mapped to
pub record From {A B : Type 0} (f : A → List B) (y : B) (xs : List A) : Type 0 where
  pub source : A
  pub has : Member xs source
  pub gives : Member (f source) y

pub from_flat : {A B : Type 0} (f : A → List B) (y : B) (xs : List A) → Member (flat_map f xs) y → From f y xs
from_flat f y [] h = absurd h
from_flat {A} {B} f y (x ∷ xs) h = ⊎_elim
    (λ (k : Member (f x) y). record { source = x; has = inl refl; gives = k })
    (λ (k : Member (flat_map f xs) y). let s = from_flat f y xs k in record { source = s.source; has = inr s.has; gives = s.gives })
    (Member-append_cases (f x) (flat_map f xs) y h)

pub into_flat : {A B : Type 0} (f : A → List B) (y : B) (x : A) (xs : List A) → Member xs x → Member (f x) y
    → Member (flat_map f xs) y
into_flat f y x [] h g = absurd h
into_flat f y x (z ∷ xs) h g = ⊎_elim
    (λ (e : z ≡ x). Member-append_left (f z) (flat_map f xs) y (subst (λ w. Member (f w) y) (sym e) g))
    (λ (k : Member xs x). Member-append_right (f z) (flat_map f xs) y (into_flat f y x xs k g))
    h
