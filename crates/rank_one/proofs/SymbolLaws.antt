-- Arrays are found by their names.
use Rattle.std.proofs.Common.{◌≡◌, ◌<◌, ◌+◌, ℕ, suc, Bool, false, true, List, [], ◌∷◌, ◌++◌, length, refl, sym, ◌∙◌, ap}
use Rattle.std.proofs.Common.{arith, cond, Option, Some, None, get_or}
use Rattle.std.specs.Option.{option_map}
use Rattle.std.proofs.lemmas.Bool.{false≢true}
use Rattle.std.specs.Str.{bytes_eq}
use Rattle.std.proofs.lemmas.Slice.Eq.{bytes_eq-Decides}
use Rattle.std.proofs.lemmas.Option.{same_Some}
use Rattle.a95_base.proofs.Texts.{same_bytes}
use Rattle.rank_one.specs.declared.symbols.Symbol.{Symbol}
use Rattle.rank_one.specs.Conditions.{place_of, extent_of}
use Rattle.rank_one.proofs.Choices.{yes, no, by_test}

pub no_place : (name : List ℕ) → place_of [] name ≡ None
unfolding place_of
no_place name = refl

map_some : (o : Option ℕ) (k : ℕ) → option_map suc o ≡ Some k → (P : Type 0) → ((j : ℕ) → o ≡ Some j → k ≡ suc j → P) → P
map_some None k h P f = absurd (cc)
map_some (Some j) k h P f = f j refl (sym (same_Some (suc j) k h))

pub place_cons : (s : Symbol) (symbols : List Symbol) (name : List ℕ) → place_of (s ∷ symbols) name
    ≡ cond (bytes_eq s.name name) (Some 0) (option_map suc (place_of symbols name))
unfolding place_of
place_cons s symbols name = refl

extent_cons : (s : Symbol) (symbols : List Symbol) (name : List ℕ) → extent_of (s ∷ symbols) name
    ≡ cond (bytes_eq s.name name) (Some s.array.extent) (extent_of symbols name)
unfolding extent_of
extent_cons s symbols name = refl

-- a place is one in the list, and the extent is that of the array there
pub extent_there : (symbols : List Symbol) (name : List ℕ) (k : ℕ) (d : Symbol) → place_of symbols name ≡ Some k
    → (k < length symbols) × (extent_of symbols name ≡ Some (get_or symbols k d).array.extent)
extent_there [] name k d h = absurd (cc (h, no_place name))
extent_there (s ∷ symbols) name k d h = by_test (bytes_eq s.name name)
    (λ same.
    let first : 0 ≡ k =
    same_Some 0 k (sym (place_cons s symbols name ∙ yes (Some 0) (option_map suc (place_of symbols name)) same) ∙ h) in
    (omega arith, extent_cons s symbols name ∙ (yes _ _ same ∙ ap (λ n. Some (get_or (s ∷ symbols) n d).array.extent) first)))
    (λ other. map_some (place_of symbols name) k
    (sym (place_cons s symbols name ∙ no (Some 0) (option_map suc (place_of symbols name)) other) ∙ h) _
    (λ j found later. let rest = extent_there symbols name j d found in (
      omega (arith, rest.0),
      extent_cons s symbols name
          ∙ (no _ _ other ∙ (rest.1 ∙ ap (λ n. Some (get_or (s ∷ symbols) n d).array.extent) (sym later))),
    )))

none_of : (b : Bool) (o : Option ℕ) → cond b (Some 0) (option_map suc o) ≡ None → (b ≡ false) × (o ≡ None)
none_of true o h = absurd (cc)
none_of false None h = (refl, refl)
none_of false (Some j) h = absurd (cc)

-- what has no place has no extent
pub no_extent : (symbols : List Symbol) (name : List ℕ) → place_of symbols name ≡ None → extent_of symbols name ≡ None
unfolding extent_of
no_extent [] name h = refl
no_extent (s ∷ symbols) name h =
    let none = none_of (bytes_eq s.name name) (place_of symbols name) (sym (place_cons s symbols name) ∙ h) in
    no _ _ none.0 ∙ no_extent symbols name none.1

pub other_name : (a b : List ℕ) → bytes_eq a b ≡ false → a ≡ b → ⊥
other_name a b h same = false≢true (sym h ∙ (bytes_eq-Decides a b).1 same)

pushed : (s t : Symbol) (n : ℕ) (o : Option ℕ) (name : List ℕ) (b : Bool) → bytes_eq t.name name ≡ b → bytes_eq s.name t.name
    ≡ false
    → cond (bytes_eq s.name name) (Some 0) (option_map suc (cond b (Some n) o))
    ≡ cond b (Some (suc n)) (cond (bytes_eq s.name name) (Some 0) (option_map suc o))
pushed s t n o name true same apart = no _ _ (ap (bytes_eq s.name) (sym (same_bytes t.name name same)) ∙ apart)
pushed s t n o name false same apart = refl

-- an array with a new name is found behind those before it
pub place_push : (symbols : List Symbol) (t : Symbol) (name : List ℕ) → place_of symbols t.name ≡ None
    → place_of (symbols ++ t ∷ []) name ≡ cond (bytes_eq t.name name) (Some (length symbols)) (place_of symbols name)
unfolding place_of
place_push [] t name h = refl
place_push (s ∷ symbols) t name h =
    let none = none_of (bytes_eq s.name t.name) (place_of symbols t.name) (sym (place_cons s symbols t.name) ∙ h) in
    place_cons s (symbols ++ t ∷ []) name
    ∙ (ap (λ o. cond (bytes_eq s.name name) (Some 0) (option_map suc o)) (place_push symbols t name none.1)
    ∙ (pushed s t (length symbols) (place_of symbols name) name (bytes_eq t.name name) refl none.0
    ∙ ap (λ o. cond (bytes_eq t.name name) (Some (suc (length symbols))) o) (sym (place_cons s symbols name))))
