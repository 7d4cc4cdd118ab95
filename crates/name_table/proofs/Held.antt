-- Entries that tell the first place of each name, with one name more.
use Rattle.std.proofs.Common.{◌≡◌, ℕ, ◌+◌, Bool, true, false, cond, ◌||◌, List, [], ◌∷◌, ◌++◌, length, Option, Some, None, refl}
use Rattle.std.proofs.Common.{sym, ap, subst, ◌∙◌, arith}
use Rattle.std.specs.Option.{is_some}
use Rattle.std.specs.List.{position_from, list_any}
use Rattle.std.specs.Prelude.{nat_eq}
use Rattle.std.specs.Cmp.Lexicographic.{pointwise}
use Rattle.std.specs.Map.{lookup}
use Rattle.std.proofs.lemmas.Slice.Eq.{bytes_eq-Decides}
use Rattle.indexmap.specs.IndexMap.{IndexMap, insert_entry}
use Rattle.indexmap.proofs.CallerLemmas.{insert_entry-new}
use Rattle.name_table.specs.Places.{first_place, IsHeld}

-- the first of two places
abbrev first_some : Option ℕ → Option ℕ → Option ℕ
first_some (Some p) other = Some p
first_some None other = other

first_by : (b : Bool) (p : ℕ) (o q : Option ℕ) → cond b (Some p) (first_some o q) ≡ first_some (cond b (Some p) o) q
first_by true p o q = refl
first_by false p o q = refl

lookup_end : {K : Type 0} (test : K → Bool) (es : List (K × ℕ)) (k : K) (p : ℕ)
    → lookup test (es ++ (k, p) ∷ []) ≡ first_some (lookup test es) (cond (test k) (Some p) None)
lookup_end test [] k p = refl
lookup_end test (e ∷ es) k p =
    ap (λ o. cond (test e.0) (Some e.1) o) (lookup_end test es k p)
    ∙ first_by (test e.0) e.1 (lookup test es) (cond (test k) (Some p) None)

position_end : {A : Type 0} (test : A → Bool) (i : ℕ) (xs : List A) (y : A)
    → position_from test i (xs ++ y ∷ []) ≡ first_some (position_from test i xs) (cond (test y) (Some (i + length xs)) None)
position_end test i [] y = let e : i ≡ i + 0 = omega arith in ap (λ n. cond (test y) (Some n) None) e
position_end test i (x ∷ xs) y =
    let e : i + 1 + length xs ≡ i + length (x ∷ xs) = omega arith in
    ap (λ o. cond (test x) (Some i) o) (position_end test (i + 1) xs y
    ∙ ap (λ n. first_some (position_from test (i + 1) xs) (cond (test y) (Some n) None)) e)
    ∙ first_by (test x) i (position_from test (i + 1) xs) (cond (test y) (Some (i + length (x ∷ xs))) None)

any_place : {A : Type 0} (test : A → Bool) (i : ℕ) (xs : List A) → is_some (position_from test i xs) ≡ list_any test xs
any_place test i [] = refl
any_place test i (x ∷ xs) = by (test x) (any_place test (i + 1) xs)
  where
    by : (b : Bool) → is_some (position_from test (i + 1) xs) ≡ list_any test xs
        → is_some (cond b (Some i) (position_from test (i + 1) xs)) ≡ (b || list_any test xs)
    by true e = refl
    by false e = e

-- a name stands somewhere
pub found_is_any : (name : List ℕ) (names : List (List ℕ)) → is_some (first_place name names)
    ≡ list_any (pointwise nat_eq name) names
found_is_any name names = any_place (pointwise nat_eq name) 0 names

-- a new name
held_new : {K : Type 0} (word : K → List ℕ) (es : List (K × ℕ)) (names : List (List ℕ)) (k : K)
    → IsHeld word es names → IsHeld word (es ++ (k, length names) ∷ []) (names ++ word k ∷ [])
held_new word es names k h name =
    let e : length names ≡ 0 + length names = omega arith in
    lookup_end (λ j. pointwise nat_eq name (word j)) es k (length names)
    ∙ ap (λ n. first_some (lookup (λ j. pointwise nat_eq name (word j)) es) (cond (pointwise nat_eq name (word k)) (Some n) None)) e
    ∙ ap (λ o. first_some o (cond (pointwise nat_eq name (word k)) (Some (0 + length names)) None)) (h name)
    ∙ sym (position_end (pointwise nat_eq name) 0 names (word k))

pub held_inserted : {K S : Type 0} (word : K → List ℕ) (m : IndexMap K ℕ S) (made : List (K × ℕ)) (names : List (List ℕ)) (k : K)
    (name : List ℕ) → IsHeld word m.entries names → lookup (λ j. pointwise nat_eq name (word j)) m.entries ≡ None → word k ≡ name
    → made ≡ insert_entry (λ i j. pointwise nat_eq (word i) (word j)) m.entries k (length names) →
    IsHeld word made (names ++ name ∷ [])
held_inserted word m made names k name h none is e =
    let absent : lookup (λ j. pointwise nat_eq (word k) (word j)) m.entries ≡ None =
    ap (λ n. lookup (λ j. pointwise nat_eq n (word j)) m.entries) is ∙ none in
    let end : made ≡ m.entries ++ (k, length names) ∷ [] =
    e ∙ insert_entry-new (λ i j. pointwise nat_eq (word i) (word j)) m k (length names) absent in
    subst (λ es. IsHeld word es (names ++ name ∷ [])) (sym end)
    (subst (λ n. IsHeld word (m.entries ++ (k, length names) ∷ []) (names ++ n ∷ [])) is (held_new word m.entries names k h))

stays : (o : Option ℕ) (b : Bool) (p : ℕ) → (b ≡ true → is_some o ≡ true) → o ≡ first_some o (cond b (Some p) None)
stays (Some q) b p h = refl
stays None true p h = absurd (let z : ⊥ = by (h refl) in z)
  where
    by : false ≡ true → ⊥
    by e = cc
stays None false p h = refl

-- a name that stands there already
pub held_again : {K : Type 0} (word : K → List ℕ) (es : List (K × ℕ)) (names : List (List ℕ)) (new : List ℕ)
    → IsHeld word es names → is_some (lookup (λ k. pointwise nat_eq new (word k)) es) ≡ true → IsHeld word es (names ++ new ∷ [])
held_again word es names new h there name =
    h name
    ∙ stays (first_place name names) (pointwise nat_eq name new) (0 + length names) (λ e. found ((bytes_eq-Decides name new).0 e))
    ∙ sym (position_end (pointwise nat_eq name) 0 names new)
  where
    found : name ≡ new → is_some (first_place name names) ≡ true
    found e = ap (λ n. is_some (first_place n names)) e ∙ (ap is_some (sym (h new)) ∙ there)
