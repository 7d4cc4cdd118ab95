-- Meanings by the places of their names, and one after the other.
use Rattle.std.proofs.Common.{◌≡◌, ℕ, zero, suc, ◌+◌, ◌-◌, ◌≤◌, Bool, true, false, cond, List, [], ◌∷◌, ◌++◌, map, drop, length}
use Rattle.std.proofs.Common.{Some, None, refl, sym, ap, ◌∙◌, arith}
use Rattle.std.specs.Prelude.{nat_eq, slice_get, option_map}
use Rattle.std.specs.List.{position_from, find}
use Rattle.std.specs.Cmp.Lexicographic.{pointwise}
use Rattle.std.proofs.lemmas.Option.{same_Some, none-some}
use Rattle.a95_base.proofs.Tests.{next_place}
use Rattle.f95_tree.specs.Forms.{Word}
use Rattle.names_types.specs.declared.meaning.Meaning.{Meaning}
use Rattle.names_types.specs.Scopes.{Meant, meant, meaning_in, Entry, Sited, sited_from, entry_meaning}
use Rattle.intrinsic_table.specs.Finding.{is_word}
use Rattle.name_table.specs.Places.{first_place}
use Rattle.scope_names.specs.Tables.{meant_by}

pub behind : {A : Type 0} (test : A → Bool) (i p : ℕ) (xs : List A) → position_from test i xs ≡ Some p → i ≤ p
behind test i p [] e = absurd (none-some p e)
behind test i p (x ∷ xs) e = by (test x) e (behind test (i + 1) p xs)
  where
    by : (b : Bool) → cond b (Some i) (position_from test (i + 1) xs) ≡ Some p →
        (position_from test (i + 1) xs ≡ Some p → i + 1 ≤ p) → i ≤ p
    by true e next = let same : i ≡ p = same_Some i p e in omega (arith, same)
    by false e next = omega (arith, next e)

module _ (name : Word) where
  found_from : (ns : List Word) (ms : List Meaning) (i p : ℕ) → position_from (pointwise nat_eq name) i ns ≡ Some p
      → slice_get ms (p - i) ≡ meaning_in (meant_by ns ms) name
  found_from [] ms i p e = absurd (none-some p e)
  found_from (n ∷ ns) [] i p e = refl
  found_from (n ∷ ns) (m ∷ ms) i p e = by (pointwise nat_eq name n) e (behind (pointwise nat_eq name) (i + 1) p ns)
      (found_from ns ms (i + 1) p)
    where
      by : (b : Bool) → cond b (Some i) (position_from (pointwise nat_eq name) (i + 1) ns) ≡ Some p
          → (position_from (pointwise nat_eq name) (i + 1) ns ≡ Some p → i + 1 ≤ p)
          → (position_from (pointwise nat_eq name) (i + 1) ns ≡ Some p → slice_get ms (p - (i + 1))
          ≡ meaning_in (meant_by ns ms) name)
          → slice_get (m ∷ ms) (p - i) ≡ option_map (λ (x : Meant). x.meaning)
          (cond b (Some (meant n m)) (find (λ (x : Meant). is_word name x.name) (meant_by ns ms)))
      by true e far next =
          let same : i ≡ p = same_Some i p e in
          let here : p - i ≡ 0 = omega (arith, same) in
          ap (λ k. slice_get (m ∷ ms) k) here
      by false e far next = ap (λ k. slice_get (m ∷ ms) k) (next_place i p (far e)) ∙ next e

  nowhere_from : (ns : List Word) (ms : List Meaning) (i : ℕ) → position_from (pointwise nat_eq name) i ns ≡ None
      → None ≡ meaning_in (meant_by ns ms) name
  nowhere_from [] ms i e = refl
  nowhere_from (n ∷ ns) [] i e = refl
  nowhere_from (n ∷ ns) (m ∷ ms) i e = by (pointwise nat_eq name n) e (nowhere_from ns ms (i + 1))
    where
      by : (b : Bool) → cond b (Some i) (position_from (pointwise nat_eq name) (i + 1) ns) ≡ None
          → (position_from (pointwise nat_eq name) (i + 1) ns ≡ None → None ≡ meaning_in (meant_by ns ms) name)
          → None ≡ option_map (λ (x : Meant). x.meaning)
          (cond b (Some (meant n m)) (find (λ (x : Meant). is_word name x.name) (meant_by ns ms)))
      by true e next = absurd (none-some i (sym e))
      by false e next = next e

  -- a name that stands at a place means what the meaning at that place says
  pub found_by : (ns : List Word) (ms : List Meaning) (p : ℕ) → first_place name ns ≡ Some p →
      slice_get ms p ≡ meaning_in (meant_by ns ms) name
  found_by ns ms p e = let same : p ≡ p - 0 = omega arith in ap (λ k. slice_get ms k) same ∙ found_from ns ms 0 p e

  pub nowhere_by : (ns : List Word) (ms : List Meaning) → first_place name ns ≡ None → None ≡ meaning_in (meant_by ns ms) name
  nowhere_by ns ms e = nowhere_from ns ms 0 e

-- one meaning more
pub meant_more : (ns rest : List Word) (ms : List Meaning) (n : Word) (m : Meaning) → drop (length ms) ns ≡ n ∷ rest
    → meant_by ns (ms ++ m ∷ []) ≡ meant_by ns ms ++ meant n m ∷ []
meant_more [] rest ms n m e = absurd (nothing (length ms) e)
  where
    nothing : (k : ℕ) → drop k [] ≡ n ∷ rest → ⊥
    nothing zero e = cc
    nothing (suc k) e = cc
meant_more (x ∷ xs) rest [] n m e = let same : x ≡ n = cc in ap (λ y. meant y m ∷ meant_by xs []) same ∙ by xs
  where
    by : (ys : List Word) → meant n m ∷ meant_by ys [] ≡ meant n m ∷ []
    by [] = refl
    by (y ∷ ys) = refl
meant_more (x ∷ xs) rest (y ∷ ys) n m e = ap (λ more. meant x y ∷ more) (meant_more xs rest ys n m e)

-- ---- declarations, one after the other

module _ (own : List Word) (host : List Meant) where
  abbrev pub meant_from : List Meant → List Entry → List Meant
  meant_from before [] = []
  meant_from before (e ∷ more) =
      meant e.name (entry_meaning own host before e) ∷ meant_from (before ++ meant e.name (entry_meaning own host before e) ∷ [])
      more

  pub meant_is_from : (earlier : List Entry) (before : List Meant) (es : List Entry)
      → map (λ (s : Sited). meant s.entry.name s.meaning) (sited_from own host earlier before es) ≡ meant_from before es
  meant_is_from earlier before [] = refl
  meant_is_from earlier before (e ∷ more) =
      ap (λ rest. meant e.name (entry_meaning own host before e) ∷ rest)
      (meant_is_from (earlier ++ e ∷ []) (before ++ meant e.name (entry_meaning own host before e) ∷ []) more)
