-- Laws of lists with the same items in another order.
use Rattle.std.proofs.Common.{◌≡◌, ℕ, zero, suc, ◌≤◌, List, [], ◌∷◌, ◌++◌, length, map, reverse, refl, sym, ap, ◌∙◌, subst, inl}
use Rattle.std.proofs.Common.{inr, append_assoc, arith, length-append}
use Rattle.std.specs.List.{flat_map}
use Rattle.std.proofs.lemmas.List.{reverse-append}
use Rattle.std.proofs.lemmas.Bool.{cases_eq}
use Rattle.a95_base.specs.Lists.{Every, Pairwise, Member, Permuted, down_to_one}
use Rattle.a95_base.specs.Lists.Permuted.{none, skip, swap, join}
use Rattle.a95_base.proofs.Lists.{split_at, Member-append_cases, Member-append_left, Member-append_right}

pub permuted_same : {A : Type 0} (xs : List A) → Permuted xs xs
permuted_same [] = none
permuted_same (x ∷ xs) = skip x (permuted_same xs)

pub permuted_equal : {A : Type 0} (xs ys : List A) → xs ≡ ys → Permuted xs ys
permuted_equal {A} xs ys e = let P : List A → Type 0 = λ zs. Permuted xs zs in subst P e (permuted_same xs)

pub permuted_back : {A : Type 0} {xs ys : List A} → Permuted xs ys → Permuted ys xs
permuted_back none = none
permuted_back (skip x p) = skip x (permuted_back p)
permuted_back (swap x y xs) = swap y x xs
permuted_back (join p q) = join (permuted_back q) (permuted_back p)

pub Permuted-append_left : {A : Type 0} (zs : List A) {xs ys : List A} → Permuted xs ys → Permuted (zs ++ xs) (zs ++ ys)
Permuted-append_left [] p = p
Permuted-append_left (z ∷ zs) p = skip z (Permuted-append_left zs p)

pub Permuted-append_right : {A : Type 0} (zs : List A) {xs ys : List A} → Permuted xs ys → Permuted (xs ++ zs) (ys ++ zs)
Permuted-append_right zs none = permuted_same zs
Permuted-append_right zs (skip x p) = skip x (Permuted-append_right zs p)
Permuted-append_right zs (swap x y xs) = swap x y (xs ++ zs)
Permuted-append_right zs (join p q) = join (Permuted-append_right zs p) (Permuted-append_right zs q)

-- an item moves to the front
pub to_front : {A : Type 0} (xs : List A) (y : A) (zs : List A) → Permuted (xs ++ y ∷ zs) (y ∷ (xs ++ zs))
to_front [] y zs = permuted_same (y ∷ zs)
to_front (x ∷ xs) y zs = join (skip x (to_front xs y zs)) (swap x y (xs ++ zs))

append_nil : {A : Type 0} (xs : List A) → xs ++ [] ≡ xs
append_nil [] = refl
append_nil (x ∷ xs) = ap (λ ys. x ∷ ys) (append_nil xs)

-- two lists change places
pub Permuted-append_turned : {A : Type 0} (xs ys : List A) → Permuted (xs ++ ys) (ys ++ xs)
Permuted-append_turned [] ys = permuted_equal ys (ys ++ []) (sym (append_nil ys))
Permuted-append_turned (x ∷ xs) ys = join (skip x (Permuted-append_turned xs ys)) (permuted_back (to_front ys x xs))

pub Permuted-reverse : {A : Type 0} (xs : List A) → Permuted (reverse xs) xs
Permuted-reverse [] = none
Permuted-reverse (x ∷ xs) =
    join (permuted_equal (reverse (x ∷ xs)) (reverse xs ++ x ∷ []) (reverse-append (x ∷ []) xs))
    (join (to_front (reverse xs) x [])
    (skip x (join (permuted_equal (reverse xs ++ []) (reverse xs) (append_nil (reverse xs))) (Permuted-reverse xs))))

pub Permuted-map : {A B : Type 0} (f : A → B) {xs ys : List A} → Permuted xs ys → Permuted (map f xs) (map f ys)
Permuted-map f none = none
Permuted-map f (skip x p) = skip (f x) (Permuted-map f p)
Permuted-map f (swap x y xs) = swap (f x) (f y) (map f xs)
Permuted-map f (join p q) = join (Permuted-map f p) (Permuted-map f q)

pub Permuted-length : {A : Type 0} {xs ys : List A} → Permuted xs ys → length xs ≡ length ys
Permuted-length none = refl
Permuted-length (skip x p) = ap suc (Permuted-length p)
Permuted-length (swap x y xs) = refl
Permuted-length (join p q) = Permuted-length p ∙ Permuted-length q

pub Permuted-Every : {A : Type 0} (P : A → Type 0) {xs ys : List A} → Permuted xs ys → Every P xs → Every P ys
Permuted-Every P none h = h
Permuted-Every P (skip x p) h = (h.0, Permuted-Every P p h.1)
Permuted-Every P (swap x y xs) h = (h.1.0, (h.0, h.1.1))
Permuted-Every P (join p q) h = Permuted-Every P q (Permuted-Every P p h)

pub Permuted-Member : {A : Type 0} {xs ys : List A} (z : A) → Permuted xs ys → Member xs z → Member ys z
Permuted-Member z none h = h
Permuted-Member z (skip x p) (inl e) = inl e
Permuted-Member z (skip x p) (inr h) = inr (Permuted-Member z p h)
Permuted-Member z (swap x y xs) (inl e) = inr (inl e)
Permuted-Member z (swap x y xs) (inr (inl e)) = inl e
Permuted-Member z (swap x y xs) (inr (inr h)) = inr (inr h)
Permuted-Member z (join p q) h = Permuted-Member z q (Permuted-Member z p h)

-- where the order of two items does not matter, each with every later one stays
pub Permuted-Pairwise : {A : Type 0} (R : A → A → Type 0) → ((x y : A) → R x y → R y x) → {xs ys : List A} → Permuted xs ys →
    Pairwise R xs → Pairwise R ys
Permuted-Pairwise R turn none h = h
Permuted-Pairwise R turn (skip x p) h = (Permuted-Every (R x) p h.0, Permuted-Pairwise R turn p h.1)
Permuted-Pairwise R turn (swap x y xs) h = ((turn x y h.0.0, h.1.0), (h.0.1, h.1.1))
Permuted-Pairwise R turn (join p q) h = Permuted-Pairwise R turn q (Permuted-Pairwise R turn p h)

-- ---- pieces end to end

-- the pieces are reordered
pub Permuted-flat_map : {A B : Type 0} (f : A → List B) {xs ys : List A} → Permuted xs ys → Permuted (flat_map f xs) (flat_map f ys)
Permuted-flat_map f none = none
Permuted-flat_map f (skip x p) = Permuted-append_left (f x) (Permuted-flat_map f p)
Permuted-flat_map f (swap x y xs) =
    join (permuted_equal (f x ++ (f y ++ flat_map f xs)) ((f x ++ f y) ++ flat_map f xs)
    (sym (append_assoc (f x) (f y) (flat_map f xs))))
    (join (Permuted-append_right (flat_map f xs) (Permuted-append_turned (f x) (f y)))
    (permuted_equal ((f y ++ f x) ++ flat_map f xs) (f y ++ (f x ++ flat_map f xs)) (append_assoc (f y) (f x) (flat_map f xs))))
Permuted-flat_map f (join p q) = join (Permuted-flat_map f p) (Permuted-flat_map f q)

-- each piece is reordered
pub Permuted-pieces : {A B : Type 0} (f g : A → List B) → ((x : A) → Permuted (f x) (g x)) → (xs : List A) →
    Permuted (flat_map f xs) (flat_map g xs)
Permuted-pieces f g h [] = none
Permuted-pieces f g h (x ∷ xs) = join (Permuted-append_right (flat_map f xs) (h x))
    (Permuted-append_left (g x) (Permuted-pieces f g h xs))

-- a list moves past another
past : {A : Type 0} (xs ys zs : List A) → Permuted (xs ++ (ys ++ zs)) (ys ++ (xs ++ zs))
past xs ys zs =
    join (permuted_equal (xs ++ (ys ++ zs)) ((xs ++ ys) ++ zs) (sym (append_assoc xs ys zs)))
    (join (Permuted-append_right zs (Permuted-append_turned xs ys))
    (permuted_equal ((ys ++ xs) ++ zs) (ys ++ (xs ++ zs)) (append_assoc ys xs zs)))

-- two pieces of each item, or first all of the one kind and then all of the other
pub two_pieces : {A B : Type 0} (f g : A → List B) (xs : List A) →
    Permuted (flat_map (λ x. f x ++ g x) xs) (flat_map f xs ++ flat_map g xs)
two_pieces f g [] = none
two_pieces f g (x ∷ xs) =
    join (permuted_equal ((f x ++ g x) ++ flat_map (λ y. f y ++ g y) xs) (f x ++ (g x ++ flat_map (λ y. f y ++ g y) xs))
    (append_assoc (f x) (g x) (flat_map (λ y. f y ++ g y) xs)))
    (join (Permuted-append_left (f x)
    (join (Permuted-append_left (g x) (two_pieces f g xs)) (past (g x) (flat_map f xs) (flat_map g xs))))
    (permuted_equal (f x ++ (flat_map f xs ++ (g x ++ flat_map g xs))) ((f x ++ flat_map f xs) ++ (g x ++ flat_map g xs))
    (sym (append_assoc (f x) (flat_map f xs) (g x ++ flat_map g xs)))))

no_pieces : {A B : Type 0} (ys : List A) → flat_map (λ (y : A). let r : List B = [] in r) ys ≡ []
no_pieces [] = refl
no_pieces (y ∷ ys) = no_pieces ys

-- two loops change places
pub loops_turned : {A B C : Type 0} (f : A → B → List C) (xs : List A) (ys : List B) →
    Permuted (flat_map (λ x. flat_map (λ y. f x y) ys) xs) (flat_map (λ y. flat_map (λ x. f x y) xs) ys)
loops_turned f [] ys = permuted_equal [] (flat_map (λ y. []) ys) (sym (no_pieces ys))
loops_turned f (x ∷ xs) ys =
    join (Permuted-append_left (flat_map (λ y. f x y) ys) (loops_turned f xs ys))
    (permuted_back (two_pieces (λ y. f x y) (λ y. flat_map (λ z. f z y) xs) ys))

-- ---- the numbers from 1 to n

one_less : (xs : List ℕ) (y : ℕ) (zs all : List ℕ) (n : ℕ) → length all ≡ suc n → all ≡ xs ++ y ∷ zs → length (xs ++ zs) ≡ n
one_less xs y zs all n e is = omega (arith, length-append xs zs, length-append xs (y ∷ zs), ap length is)

-- another item than the one between stands before it or behind
other : {A : Type 0} (xs : List A) (y : A) (zs : List A) (k : A) → Member (xs ++ y ∷ zs) k → (y ≡ k → ⊥) → Member (xs ++ zs) k
other xs y zs k h apart =
    elim (Member-append_cases xs (y ∷ zs) k h) [
      | inl a ↦ Member-append_left xs zs k a
      | inr b ↦ elim b [ inl e ↦ absurd (apart e) | inr c ↦ Member-append_right xs zs k c ]
    ]

-- a list of n numbers that has each from 1 to n is a reordering of them
pub pigeonhole : (n : ℕ) (xs : List ℕ) → length xs ≡ n → ((k : ℕ) → 1 ≤ k → k ≤ n → Member xs k) → Permuted xs (down_to_one n)
pigeonhole zero [] e h = none
pigeonhole zero (x ∷ xs) e h = absurd (omega arith)
pigeonhole (suc n) xs e h =
    let s = split_at xs (suc n) (h (suc n) (omega arith) (omega arith)) in
    join (permuted_equal xs (s.before ++ suc n ∷ s.behind) s.is)
    (join (to_front s.before (suc n) s.behind)
    (skip (suc n)
    (pigeonhole n (s.before ++ s.behind) (one_less s.before (suc n) s.behind xs n e s.is)
    (λ k low high. other s.before (suc n) s.behind k
    (let P : List ℕ → Type 0 = λ zs. Member zs k in subst P s.is (h k low (omega arith))) (omega arith)))))

pub length-down_to_one : (n : ℕ) → length (down_to_one n) ≡ n
length-down_to_one zero = refl
length-down_to_one (suc n) = ap suc (length-down_to_one n)

pub each_from_one : (n most : ℕ) → n ≤ most → Every (λ k. (1 ≤ k) × (k ≤ most)) (down_to_one n)
each_from_one zero most h = tt
each_from_one (suc n) most h = ((omega arith, h), each_from_one n most (omega arith))

pub Member-down_to_one : (n k : ℕ) → 1 ≤ k → k ≤ n → Member (down_to_one n) k
Member-down_to_one zero k least most = absurd (omega arith)
Member-down_to_one (suc n) k least most =
    elim (cases_eq (suc n) k) [ inl same ↦ inl same | inr apart ↦ inr (Member-down_to_one n k least (omega arith)) ]
