-- Laws of the words of `specs/Lists.antt`.
use Rattle.std.proofs.Common.{◌≡◌, ◌⊎◌, ℕ, zero, suc, ◌<◌, List, [], ◌∷◌, ◌++◌, length, get_or, set, map, refl, ap, ◌∙◌, subst, inl}
use Rattle.std.proofs.Common.{inr, arith, length-append, sym, Bool, true}
use Rattle.std.specs.List.{flat_map, list_all}
use Rattle.std.proofs.lemmas.List.Folds.{list_all-append}
use Rattle.std.proofs.lemmas.List.{get_or_append_left, get_or_at, map-append}
use Rattle.std.proofs.lemmas.Bool.{cases_lt, and_parts}
use Rattle.a95_base.specs.Lists.{Every, Pairwise, Member, count_to}

-- ---- what holds of each item

pub Every-append : {A : Type 0} (P : A → Type 0) (xs ys : List A) → Every P xs → Every P ys → Every P (xs ++ ys)
Every-append P [] ys p q = q
Every-append P (x ∷ xs) ys p q = (p.0, Every-append P xs ys p.1 q)

pub Every-left : {A : Type 0} (P : A → Type 0) (xs ys : List A) → Every P (xs ++ ys) → Every P xs
Every-left P [] ys p = tt
Every-left P (x ∷ xs) ys p = (p.0, Every-left P xs ys p.1)

pub Every-right : {A : Type 0} (P : A → Type 0) (xs ys : List A) → Every P (xs ++ ys) → Every P ys
Every-right P [] ys p = p
Every-right P (x ∷ xs) ys p = Every-right P xs ys p.1

pub Every-weaker : {A : Type 0} (P Q : A → Type 0) → ((x : A) → P x → Q x) → (xs : List A) → Every P xs → Every Q xs
Every-weaker P Q f [] p = tt
Every-weaker P Q f (x ∷ xs) p = (f x p.0, Every-weaker P Q f xs p.1)

pub Every-all : {A : Type 0} (P : A → Type 0) → ((x : A) → P x) → (xs : List A) → Every P xs
Every-all P f [] = tt
Every-all P f (x ∷ xs) = (f x, Every-all P f xs)

pub Every-both : {A : Type 0} (P Q : A → Type 0) (xs : List A) → Every P xs → Every Q xs → Every (λ x. P x × Q x) xs
Every-both P Q [] p q = tt
Every-both P Q (x ∷ xs) p q = ((p.0, q.0), Every-both P Q xs p.1 q.1)

pub Every-map : {A B : Type 0} (P : B → Type 0) (f : A → B) (xs : List A) → Every (λ x. P (f x)) xs → Every P (map f xs)
Every-map P f [] p = tt
Every-map P f (x ∷ xs) p = (p.0, Every-map P f xs p.1)

pub Every-from_map : {A B : Type 0} (P : B → Type 0) (f : A → B) (xs : List A) → Every P (map f xs) → Every (λ x. P (f x)) xs
Every-from_map P f [] p = tt
Every-from_map P f (x ∷ xs) p = (p.0, Every-from_map P f xs p.1)

pub Every-flat_map : {A B : Type 0} (P : B → Type 0) (f : A → List B) (xs : List A) → Every (λ x. Every P (f x)) xs →
    Every P (flat_map f xs)
Every-flat_map P f [] p = tt
Every-flat_map P f (x ∷ xs) p = Every-append P (f x) (flat_map f xs) p.0 (Every-flat_map P f xs p.1)

pub each_has : {A : Type 0} (P : A → Type 0) (xs : List A) (y : A) → Every P xs → Member xs y → P y
each_has P [] y p h = absurd h
each_has P (x ∷ xs) y p (inl e) = subst P e p.0
each_has P (x ∷ xs) y p (inr h) = each_has P xs y p.1 h

pub each_from_has : {A : Type 0} (P : A → Type 0) (xs : List A) → ((y : A) → Member xs y → P y) → Every P xs
each_from_has P [] f = tt
each_from_has P (x ∷ xs) f = (f x (inl refl), each_from_has P xs (λ y h. f y (inr h)))

-- between what holds of each item and what holds at each place
pub each_at : {A : Type 0} (P : A → Type 0) (xs : List A) (k : ℕ) (d : A) → Every P xs → k < length xs → P (get_or xs k d)
each_at P [] k d p below = absurd (omega arith)
each_at P (x ∷ xs) zero d p below = p.0
each_at P (x ∷ xs) (suc k) d p below = each_at P xs k d p.1 (omega arith)

pub each_from_places : {A : Type 0} (P : A → Type 0) (xs : List A) → ((k : ℕ) (d : A) → k < length xs → P (get_or xs k d)) →
    Every P xs
each_from_places P [] f = tt
each_from_places P (x ∷ xs) f = (f 0 x (omega arith), each_from_places P xs (λ k d below. f (suc k) d (omega arith)))

pub Every-set : {A : Type 0} (P : A → Type 0) (xs : List A) (k : ℕ) (y : A) → P y → Every P xs → Every P (set xs k y)
Every-set P [] k y q p = tt
Every-set P (x ∷ xs) zero y q p = (q, p.1)
Every-set P (x ∷ xs) (suc k) y q p = (p.0, Every-set P xs k y q p.1)

-- items that come with what holds of each
pub every_inside : {A : Type 0} (S : A → Type 0) (xs : List ((x : A) × S x)) → Every S (map (λ (p : (x : A) × S x). p.0) xs)
every_inside S [] = tt
every_inside S (p ∷ xs) = (p.1, every_inside S xs)

pub map-flat_map : {A B C : Type 0} (f : A → List B) (g : B → C) (xs : List A) → map g (flat_map f xs)
    ≡ flat_map (λ x. map g (f x)) xs
map-flat_map f g [] = refl
map-flat_map f g (x ∷ xs) = map-append g (f x) (flat_map f xs) ∙ ap (λ ys. map g (f x) ++ ys) (map-flat_map f g xs)

pub list_all_parts : {A : Type 0} (test : A → Bool) (xs ys : List A) → list_all test (xs ++ ys) ≡ true
    → (list_all test xs ≡ true) × (list_all test ys ≡ true)
list_all_parts test xs ys h = and_parts (list_all test xs) (list_all test ys) (sym (list_all-append test xs ys) ∙ h)

-- a map by two functions that agree on each item
pub map_agree : {A B : Type 0} (f g : A → B) (xs : List A) → Every (λ x. f x ≡ g x) xs → map f xs ≡ map g xs
map_agree f g [] p = refl
map_agree f g (x ∷ xs) p = ap (λ y. y ∷ map f xs) p.0 ∙ ap (λ ys. g x ∷ ys) (map_agree f g xs p.1)

pub flat_map_agree : {A B : Type 0} (f g : A → List B) (xs : List A) → Every (λ x. f x ≡ g x) xs → flat_map f xs ≡ flat_map g xs
flat_map_agree f g [] p = refl
flat_map_agree f g (x ∷ xs) p = ap (λ y. y ++ flat_map f xs) p.0 ∙ ap (λ ys. g x ++ ys) (flat_map_agree f g xs p.1)

-- ---- membership

pub Member-append_left : {A : Type 0} (xs ys : List A) (y : A) → Member xs y → Member (xs ++ ys) y
Member-append_left [] ys y h = absurd h
Member-append_left (x ∷ xs) ys y (inl e) = inl e
Member-append_left (x ∷ xs) ys y (inr h) = inr (Member-append_left xs ys y h)

pub Member-append_right : {A : Type 0} (xs ys : List A) (y : A) → Member ys y → Member (xs ++ ys) y
Member-append_right [] ys y h = h
Member-append_right (x ∷ xs) ys y h = inr (Member-append_right xs ys y h)

pub Member-append_cases : {A : Type 0} (xs ys : List A) (y : A) → Member (xs ++ ys) y → Member xs y ⊎ Member ys y
Member-append_cases [] ys y h = inr h
Member-append_cases (x ∷ xs) ys y (inl e) = inl (inl e)
Member-append_cases (x ∷ xs) ys y (inr h) = elim (Member-append_cases xs ys y h) [ inl k ↦ inl (inr k) | inr k ↦ inr k ]

pub Member-get_or : {A : Type 0} (xs : List A) (k : ℕ) (d : A) → k < length xs → Member xs (get_or xs k d)
Member-get_or [] k d below = absurd (omega arith)
Member-get_or (x ∷ xs) zero d below = inl refl
Member-get_or (x ∷ xs) (suc k) d below = inr (Member-get_or xs k d (omega arith))

pub Member-map : {A B : Type 0} (f : A → B) (xs : List A) (y : A) → Member xs y → Member (map f xs) (f y)
Member-map f [] y h = absurd h
Member-map f (x ∷ xs) y (inl e) = inl (ap f e)
Member-map f (x ∷ xs) y (inr h) = inr (Member-map f xs y h)

-- what a mapped list has comes from an item
pub Member-from_map : {A B : Type 0} (f : A → B) (xs : List A) (z : B) → Member (map f xs) z → (y : A) × (Member xs y × (f y ≡ z))
Member-from_map f [] z h = absurd h
Member-from_map f (x ∷ xs) z (inl e) = (x, (inl refl, e))
Member-from_map f (x ∷ xs) z (inr h) = let r = Member-from_map f xs z h in (r.0, (inr r.1.0, r.1.1))

pub Member-flat_map : {A B : Type 0} (f : A → List B) (xs : List A) (x : A) (y : B) → Member xs x → Member (f x) y
    → Member (flat_map f xs) y
Member-flat_map f [] x y among m = absurd among
Member-flat_map f (z ∷ zs) x y (inl e) m =
    Member-append_left (f z) (flat_map f zs) y (subst (λ w. Member (f w) y) (sym e) m)
Member-flat_map f (z ∷ zs) x y (inr h) m = Member-append_right (f z) (flat_map f zs) y (Member-flat_map f zs x y h m)

-- what is in the pieces is in a piece
pub Member-from_flat_map : {A B : Type 0} (f : A → List B) (xs : List A) (y : B) → Member (flat_map f xs) y
    → (x : A) × (Member xs x × Member (f x) y)
Member-from_flat_map f [] y m = absurd m
Member-from_flat_map f (z ∷ zs) y m = elim (Member-append_cases (f z) (flat_map f zs) y m) [
  | inl here ↦ (z, (inl refl, here))
  | inr there ↦ let found = Member-from_flat_map f zs y there in (found.0, (inr found.1.0, found.1.1))
]

pub no_member : {A : Type 0} (xs : List A) → ((x : A) → Member xs x → ⊥) → xs ≡ []
no_member [] h = refl
no_member (x ∷ xs) h = absurd (h x (inl refl))

pub no_item : {A : Type 0} (x : A) (xs : List A) → xs ≡ [] → Member xs x → ⊥
no_item x [] e h = h
no_item x (y ∷ ys) e h = cc

-- a list that has an item is what stands before it, the item, and what stands behind
pub record Split {A : Type 0} (xs : List A) (y : A) : Type 0 where
  pub before : List A
  pub behind : List A
  pub is : xs ≡ before ++ y ∷ behind

pub split_at : {A : Type 0} (xs : List A) (y : A) → Member xs y → Split xs y
split_at [] y h = absurd h
split_at (x ∷ xs) y (inl e) = record { before = []; behind = xs; is = ap (λ z. z ∷ xs) e }
split_at (x ∷ xs) y (inr h) =
    let r = split_at xs y h in
    record { before = x ∷ r.before; behind = r.behind; is = ap (λ zs. x ∷ zs) r.is }

-- ---- each item with every later one

pub Pairwise-append : {A : Type 0} (R : A → A → Type 0) (xs ys : List A) → Pairwise R xs → Pairwise R ys →
    Every (λ x. Every (R x) ys) xs → Pairwise R (xs ++ ys)
Pairwise-append R [] ys p q r = q
Pairwise-append R (x ∷ xs) ys p q r = (Every-append (R x) xs ys p.0 r.0, Pairwise-append R xs ys p.1 q r.1)

pub Pairwise-weaker : {A : Type 0} (R Q : A → A → Type 0) → ((x y : A) → R x y → Q x y) → (xs : List A) → Pairwise R xs →
    Pairwise Q xs
Pairwise-weaker R Q f [] p = tt
Pairwise-weaker R Q f (x ∷ xs) p = (Every-weaker (R x) (Q x) (f x) xs p.0, Pairwise-weaker R Q f xs p.1)

-- the same, where each item is known to have P
pub Pairwise-weaker_on : {A : Type 0} (P : A → Type 0) (R Q : A → A → Type 0) → ((x y : A) → P x → P y → R x y → Q x y) →
    (xs : List A) → Every P xs → Pairwise R xs → Pairwise Q xs
Pairwise-weaker_on P R Q f [] p q = tt
Pairwise-weaker_on P R Q f (x ∷ xs) p q = (
  Every-weaker (λ y. P y × R x y) (Q x) (λ y b. f x y p.0 b.0 b.1) xs (Every-both P (R x) xs p.1 q.0),
  Pairwise-weaker_on P R Q f xs p.1 q.1,
)

pub Pairwise-both : {A : Type 0} (R Q : A → A → Type 0) (xs : List A) → Pairwise R xs → Pairwise Q xs →
    Pairwise (λ x y. R x y × Q x y) xs
Pairwise-both R Q [] p q = tt
Pairwise-both R Q (x ∷ xs) p q = (Every-both (R x) (Q x) xs p.0 q.0, Pairwise-both R Q xs p.1 q.1)

pub Pairwise-all : {A : Type 0} (R : A → A → Type 0) → ((x y : A) → R x y) → (xs : List A) → Pairwise R xs
Pairwise-all R f [] = tt
Pairwise-all R f (x ∷ xs) = (Every-all (R x) (f x) xs, Pairwise-all R f xs)

pub Pairwise-map : {A B : Type 0} (R : B → B → Type 0) (f : A → B) (xs : List A) → Pairwise (λ x y. R (f x) (f y)) xs →
    Pairwise R (map f xs)
Pairwise-map R f [] p = tt
Pairwise-map R f (x ∷ xs) p = (Every-map (R (f x)) f xs p.0, Pairwise-map R f xs p.1)

pub Pairwise-from_map : {A B : Type 0} (R : B → B → Type 0) (f : A → B) (xs : List A) → Pairwise R (map f xs) →
    Pairwise (λ x y. R (f x) (f y)) xs
Pairwise-from_map R f [] p = tt
Pairwise-from_map R f (x ∷ xs) p = (Every-from_map (R (f x)) f xs p.0, Pairwise-from_map R f xs p.1)

-- each item of one list with each of the pieces
pub across_pieces : {A B : Type 0} (R : B → B → Type 0) (f : A → List B) (zs : List B) (ys : List A) →
    Every (λ y. Every (λ z. Every (R z) (f y)) zs) ys → Every (λ z. Every (R z) (flat_map f ys)) zs
across_pieces R f zs [] r = Every-all (λ z. Unit {0}) (λ z. tt) zs
across_pieces R f zs (y ∷ ys) r =
    Every-weaker (λ z. Every (R z) (f y) × Every (R z) (flat_map f ys)) (λ z. Every (R z) (f y ++ flat_map f ys))
    (λ z b. Every-append (R z) (f y) (flat_map f ys) b.0 b.1) zs
    (Every-both (λ z. Every (R z) (f y)) (λ z. Every (R z) (flat_map f ys)) zs r.0 (across_pieces R f zs ys r.1))

-- pieces end to end: within each piece, and from each piece to each later one
pub Pairwise-flat_map : {A B : Type 0} (R : B → B → Type 0) (f : A → List B) (xs : List A) → Every (λ x. Pairwise R (f x)) xs →
    Pairwise (λ x y. Every (λ z. Every (R z) (f y)) (f x)) xs → Pairwise R (flat_map f xs)
Pairwise-flat_map R f [] p q = tt
Pairwise-flat_map R f (x ∷ xs) p q =
    Pairwise-append R (f x) (flat_map f xs) p.0 (Pairwise-flat_map R f xs p.1 q.1) (across_pieces R f (f x) xs q.0)

-- ---- the numbers below n

pub length-count_to : (n : ℕ) → length (count_to n) ≡ n
length-count_to zero = refl
length-count_to (suc n) = omega (arith, length-append (count_to n) (n ∷ []), length-count_to n)

pub get_or-count_to : (n k d : ℕ) → k < n → get_or (count_to n) k d ≡ k
get_or-count_to zero k d h = absurd (omega arith)
get_or-count_to (suc n) k d h =
    elim (cases_lt k n) [
      | inl below ↦ get_or_append_left (count_to n) (n ∷ []) d k (omega (arith, length-count_to n)) ∙ get_or-count_to n k d below
      | inr above ↦
          let same : n ≡ k = omega arith in
          get_or_at (count_to n) n [] d k (length-count_to n ∙ same) ∙ same
    ]

pub each_below : (n : ℕ) → Every (λ k. k < n) (count_to n)
each_below zero = tt
each_below (suc n) = Every-append (λ k. k < suc n) (count_to n) (n ∷ [])
    (Every-weaker (λ k. k < n) (λ k. k < suc n) (λ k h. omega arith) (count_to n) (each_below n)) (omega arith, tt)

pub Member-count_to : (n k : ℕ) → k < n → Member (count_to n) k
Member-count_to zero k h = absurd (omega arith)
Member-count_to (suc n) k h =
    elim (cases_lt k n) [
      | inl below ↦ Member-append_left (count_to n) (n ∷ []) k (Member-count_to n k below)
      | inr above ↦ Member-append_right (count_to n) (n ∷ []) k (inl (omega arith))
    ]

-- they rise
pub count_to_rises : (n : ℕ) → Pairwise (λ j k. j < k) (count_to n)
count_to_rises zero = tt
count_to_rises (suc n) =
    Pairwise-append (λ j k. j < k) (count_to n) (n ∷ []) (count_to_rises n) (tt, tt)
    (Every-weaker (λ k. k < n) (λ j. Every (λ k. j < k) (n ∷ [])) (λ j h. (h, tt)) (count_to n) (each_below n))
