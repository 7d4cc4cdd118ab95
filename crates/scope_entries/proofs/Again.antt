-- What is brought again, by the names and the modules that were seen.
use Rattle.std.proofs.Common.{◌≡◌, ℕ, Bool, true, false, not, ◌&&◌, ◌||◌, ◌==◌, List, [], ◌∷◌, ◌++◌, map, refl, sym, ap, ◌∙◌}
use Rattle.std.proofs.Common.{append_assoc}
use Rattle.std.specs.Prelude.{nat_eq, if◌then◌else◌}
use Rattle.std.specs.List.{list_any}
use Rattle.std.specs.Cmp.Lexicographic.{pointwise}
use Rattle.std.proofs.lemmas.List.{map-append}
use Rattle.std.specs.declared.vec.Vec.{Vec}
use Rattle.std.proofs.lemmas.Bool.{not-true, not-false}
use Rattle.a95_base.proofs.Tests.{equals_turned}
use Rattle.names_types.specs.Scopes.{Entry, is_again, brought_once}
use Rattle.scope_entries.specs.View.{brought_entry, all_brought}
use Rattle.scope_entries.specs.declared.brought.Brought.{Brought}

abbrev pub Key : Type 0
Key = List ℕ × ℕ

abbrev pub key_of : Brought → Key
key_of b = (b.share.now.name, b.share.now.place)

abbrev pub seen_as : {Z : Type 0} → Vec ℕ Z × ℕ → Key
seen_as k = (k.0.items, k.1)

abbrev same_key : Key → Key → Bool
same_key a b = pointwise nat_eq a.0 b.0 && (a.1 == b.1)

again_is : (b : Brought) (kept : List Brought)
    → is_again (all_brought kept) (brought_entry b) ≡ list_any (same_key (key_of b)) (map key_of kept)
again_is b [] = refl
again_is b (d ∷ more) =
    ap (λ e. (pointwise nat_eq b.share.now.name d.share.now.name && e) || is_again (all_brought more) (brought_entry b))
    (equals_turned d.share.now.place b.share.now.place)
    ∙ ap (λ rest. same_key (key_of b) (key_of d) || rest) (again_is b more)

module _ {Z : Type 0} where
  any_key : (k : Vec ℕ Z × ℕ) (ks : List (Vec ℕ Z × ℕ))
      → list_any (λ (j : Vec ℕ Z × ℕ). pointwise nat_eq k.0.items j.0.items && (k.1 == j.1)) ks
      ≡ list_any (same_key (seen_as k)) (map seen_as ks)
  any_key k [] = refl
  any_key k (j ∷ js) = ap (λ b. same_key (seen_as k) (seen_as j) || b) (any_key k js)

  -- a key is among those that were seen where its name was brought before
  pub seen_is_again : (k : Vec ℕ Z × ℕ) (ks : List (Vec ℕ Z × ℕ)) (b : Brought) (kept : List Brought)
      → map seen_as ks ≡ map key_of kept → seen_as k ≡ key_of b
      → list_any (λ (j : Vec ℕ Z × ℕ). pointwise nat_eq k.0.items j.0.items && (k.1 == j.1)) ks
      ≡ is_again (all_brought kept) (brought_entry b)
  seen_is_again k ks b kept seen is =
      any_key k ks ∙ (ap (λ x. list_any (same_key x) (map seen_as ks)) is
      ∙ (ap (λ xs. list_any (same_key (key_of b)) xs) seen ∙ sym (again_is b kept)))

  pub seen_more : (k : Vec ℕ Z × ℕ) (ks : List (Vec ℕ Z × ℕ)) (b : Brought) (kept : List Brought)
      → map seen_as ks ≡ map key_of kept → seen_as k ≡ key_of b
      → map seen_as (ks ++ k ∷ []) ≡ map key_of (kept ++ b ∷ [])
  seen_more k ks b kept seen is =
      map-append seen_as ks (k ∷ []) ∙ (ap (λ xs. xs ++ seen_as k ∷ []) seen
      ∙ (ap (λ x. map key_of kept ++ x ∷ []) is ∙ sym (map-append key_of kept (b ∷ []))))

module _ (kept : List Brought) (b : Brought) (rest : List Brought) (whole : List Entry) where
  pub once_again : is_again (all_brought kept) (brought_entry b) ≡ true
      → all_brought kept ++ brought_once (all_brought kept) (all_brought (b ∷ rest)) ≡ whole
      → all_brought kept ++ brought_once (all_brought kept) (all_brought rest) ≡ whole
  once_again again e =
      ap (λ t. all_brought kept ++ (if t then brought_once (all_brought kept) (all_brought rest)
      else brought_entry b ∷ brought_once (all_brought kept ++ brought_entry b ∷ []) (all_brought rest))) (sym again) ∙ e

  pub once_new : is_again (all_brought kept) (brought_entry b) ≡ false
      → all_brought kept ++ brought_once (all_brought kept) (all_brought (b ∷ rest)) ≡ whole
      → all_brought (kept ++ b ∷ []) ++ brought_once (all_brought (kept ++ b ∷ [])) (all_brought rest) ≡ whole
  once_new new e =
      let more : all_brought (kept ++ b ∷ []) ≡ all_brought kept ++ brought_entry b ∷ [] = map-append brought_entry kept (b ∷ []) in
      ap (λ xs. xs ++ brought_once xs (all_brought rest)) more
      ∙ (append_assoc (all_brought kept) (brought_entry b ∷ [])
      (brought_once (all_brought kept ++ brought_entry b ∷ []) (all_brought rest))
      ∙ (ap (λ t. all_brought kept ++ (if t then brought_once (all_brought kept) (all_brought rest)
      else brought_entry b ∷ brought_once (all_brought kept ++ brought_entry b ∷ []) (all_brought rest))) (sym new) ∙ e))

-- ---- one step: what is kept, and the keys that were seen

pub record Kept {Z : Type 0} (keys : List (Vec ℕ Z × ℕ)) (kept rest : List Brought) (whole : List Entry) : Type 0 where
  pub same : all_brought kept ++ brought_once (all_brought kept) (all_brought rest) ≡ whole
  pub seen : map seen_as keys ≡ map key_of kept

module _ {Z : Type 0} (k : Vec ℕ Z × ℕ) (keys made : List (Vec ℕ Z × ℕ)) (b : Brought) (kept rest : List Brought)
    (whole : List Entry)
    (before : Kept keys kept (b ∷ rest) whole) (is : seen_as k ≡ key_of b) where
  abbrev stands : Bool
  stands = list_any (λ (j : Vec ℕ Z × ℕ). pointwise nat_eq k.0.items j.0.items && (k.1 == j.1)) keys

  pub kept_new : not stands ≡ true → made ≡ (if stands then keys else keys ++ k ∷ []) → Kept made (kept ++ b ∷ []) rest whole
  kept_new new e =
      let absent : stands ≡ false = not-true stands new in
      let fresh : is_again (all_brought kept) (brought_entry b) ≡ false = sym (seen_is_again k keys b kept before.seen is)
      ∙ absent in
      let more : made ≡ keys ++ k ∷ [] = e ∙ ap (λ t. if t then keys else keys ++ k ∷ []) absent in
      record {
        same = once_new kept b rest whole fresh before.same;
        seen = ap (λ js. map seen_as js) more ∙ seen_more k keys b kept before.seen is;
      }

  pub kept_again : not stands ≡ false → made ≡ (if stands then keys else keys ++ k ∷ []) → Kept made kept rest whole
  kept_again old e =
      let present : stands ≡ true = not-false stands old in
      let again : is_again (all_brought kept) (brought_entry b) ≡ true = sym (seen_is_again k keys b kept before.seen is)
      ∙ present in
      let none : made ≡ keys = e ∙ ap (λ t. if t then keys else keys ++ k ∷ []) present in
      record {
        same = once_again kept b rest whole again before.same;
        seen = ap (λ js. map seen_as js) none ∙ before.seen;
      }
