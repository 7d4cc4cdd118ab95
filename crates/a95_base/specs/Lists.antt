-- Words on lists that std has by places only: what holds of each item, of each item and every later one, membership,
-- and lists with the same items in another order.
use Rattle.std.specs.Prelude.{◌≡◌, ◌⊎◌, ℕ, zero, suc, List, [], ◌∷◌, ◌++◌}

-- what holds of each item
abbrev pub Every : {A : Type 0} → (A → Type 0) → List A → Type 0
Every P [] = Unit {0}
Every P (x ∷ xs) = P x × Every P xs

-- what holds of each item with every item that stands later
abbrev pub Pairwise : {A : Type 0} → (A → A → Type 0) → List A → Type 0
Pairwise R [] = Unit {0}
Pairwise R (x ∷ xs) = Every (R x) xs × Pairwise R xs

-- the item stands in the list
abbrev pub Member : {A : Type 0} → List A → A → Type 0
Member [] y = ⊥
Member (x ∷ xs) y = (x ≡ y) ⊎ Member xs y

-- the same items, each as often, in any order: neighbours change places, step by step
pub data Permuted {A : Type 0} : List A → List A → Type 0 where
  none : Permuted [] []
  skip : (x : A) {xs ys : List A} → Permuted xs ys → Permuted (x ∷ xs) (x ∷ ys)
  swap : (x y : A) (xs : List A) → Permuted (x ∷ y ∷ xs) (y ∷ x ∷ xs)
  join : {xs ys zs : List A} → Permuted xs ys → Permuted ys zs → Permuted xs zs

-- n, n - 1, .., 1
abbrev pub down_to_one : ℕ → List ℕ
down_to_one zero = []
down_to_one (suc n) = suc n ∷ down_to_one n

-- 0, 1, .., n - 1
abbrev pub count_to : ℕ → List ℕ
count_to zero = []
count_to (suc n) = count_to n ++ n ∷ []

-- what stands behind the first item
abbrev pub rest_of : {A : Type 0} → List A → List A
rest_of [] = []
rest_of (x ∷ xs) = xs
