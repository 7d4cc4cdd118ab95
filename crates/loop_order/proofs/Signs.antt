-- What signs say of entries, and what a level makes of a distance.
use Rattle.std.proofs.Common.{◌≡◌, ℕ, zero, suc, pos, negsuc, ◌<◌, Bool, true, false, cond, ◌||◌, List, [], ◌∷◌, refl, sym, ap, ◌∙◌}
use Rattle.std.proofs.Common.{arith}
use Rattle.std.specs.Prelude.{filter}
use Rattle.std.specs.List.{list_any}
use Rattle.std.proofs.lemmas.Int.{ints}
use Rattle.std.proofs.lemmas.Bool.{or_parts, false≢true}
use Rattle.a95_base.specs.Lists.{Every}
use Rattle.rank_shape.specs.declared.distance.Entry.{Entry}
use Rattle.rank_shape.specs.declared.distance.Entry.TheVariants as entry
use Rattle.loop_order.specs.declared.sign.Sign.TheVariants.{Still, Up, Down}
use Rattle.loop_order.specs.Legal.{sign_of}
use Rattle.loop_order.specs.Apart.{Differs}

pub still_same : (e : Entry) (i j : ℕ) → sign_of e ≡ Still → Differs e i j → j ≡ i
still_same entry.Any i j s d = cc
still_same (entry.Known (pos zero)) i j s d = omega (arith, ints)
still_same (entry.Known (pos (suc n))) i j s d = cc
still_same (entry.Known (negsuc n)) i j s d = cc

pub up_later : (e : Entry) (i j : ℕ) → sign_of e ≡ Up → Differs e i j → i < j
up_later entry.Any i j s d = cc
up_later (entry.Known (pos zero)) i j s d = cc
up_later (entry.Known (pos (suc n))) i j s d = omega (arith, ints)
up_later (entry.Known (negsuc n)) i j s d = cc

pub down_earlier : (e : Entry) (i j : ℕ) → sign_of e ≡ Down → Differs e i j → j < i
down_earlier entry.Any i j s d = cc
down_earlier (entry.Known (pos zero)) i j s d = cc
down_earlier (entry.Known (pos (suc n))) i j s d = cc
down_earlier (entry.Known (negsuc n)) i j s d = omega (arith, ints)

-- ---- tests on the items of a list

pub none_passes : {A : Type 0} (p : A → Bool) (xs : List A) → list_any p xs ≡ false → Every (λ x. p x ≡ false) xs
none_passes p [] h = tt
none_passes p (x ∷ xs) h = let parts = or_parts (p x) (list_any p xs) h in (parts.0, none_passes p xs parts.1)

pub some_fails : {A : Type 0} (p : A → Bool) (xs : List A) → Every (λ x. p x ≡ false) xs → list_any p xs ≡ false
some_fails p [] h = refl
some_fails p (x ∷ xs) h = ap (λ b. b || list_any p xs) h.0 ∙ some_fails p xs h.1

kept : {A : Type 0} (P : A → Type 0) (p : A → Bool) (x : A) (xs : List A) (b : Bool) → p x ≡ b → P x →
    Every (λ y. P y × (p y ≡ true)) (filter p xs) → Every (λ y. P y × (p y ≡ true)) (cond b (x ∷ filter p xs) (filter p xs))
kept P p x xs true is here others = ((here, is), others)
kept P p x xs false is here others = others

unkept : {A : Type 0} (P : A → Type 0) (p : A → Bool) (x : A) (xs : List A) (b : Bool) → p x ≡ b →
    Every P (cond b (x ∷ filter p xs) (filter p xs)) → (p x ≡ true → P x) × Every P (filter p xs)
unkept P p x xs true is h = (λ t. h.0, h.1)
unkept P p x xs false is h = (λ t. absurd (false≢true (sym is ∙ t)), h)

-- where each item that passes has P
pub Every-from_filter : {A : Type 0} (P : A → Type 0) (p : A → Bool) (xs : List A) → Every P (filter p xs) →
    Every (λ x. p x ≡ true → P x) xs
Every-from_filter P p [] h = tt
Every-from_filter P p (x ∷ xs) h = let parts = unkept P p x xs (p x) refl h in (parts.0, Every-from_filter P p xs parts.1)

pub Every-filter : {A : Type 0} (P : A → Type 0) (p : A → Bool) (xs : List A) → Every P xs →
    Every (λ x. P x × (p x ≡ true)) (filter p xs)
Every-filter P p [] h = tt
Every-filter P p (x ∷ xs) h = kept P p x xs (p x) refl h.0 (Every-filter P p xs h.1)
