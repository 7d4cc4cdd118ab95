-- Extents at the ends of a list, put in and taken away.
use Rattle.std.proofs.Common.{◌≡◌, ◌≢◌, ◌≤◌, ◌-◌, ℕ, zero, suc, List, [], ◌∷◌, ◌++◌, length, take, drop, reverse, Option, Some}
use Rattle.std.proofs.Common.{None, refl, sym, ap, ap₂, ◌∙◌, arith}
use Rattle.std.specs.Prelude.{slice_index_or}
use Rattle.std.proofs.lemmas.List.{append-nil, reverse-append, reverse-reverse, take_all, drop_all}
use Rattle.well_typed.specs.Shapes.{Extents}
use Rattle.well_typed.specs.Intrinsics.{last_of, without_last, without_at, without_dim, with_at, with_dim, only_extent}

turned : (rest : Extents) (n : Option ℕ) → reverse (rest ++ n ∷ []) ≡ n ∷ reverse rest
turned rest n = reverse-append rest (n ∷ [])

pub last_behind : (extents rest : Extents) (n : Option ℕ) → extents ≡ rest ++ n ∷ [] → last_of extents ≡ n
last_behind extents rest n e = ap last_of e ∙ ap (λ xs. slice_index_or xs 0 None) (turned rest n)

pub last_of_none : (extents : Extents) → length extents ≡ 0 → last_of extents ≡ None
last_of_none [] e = refl
last_of_none (n ∷ more) e = absurd (omega (arith, e))

pub without_last_behind : (extents rest : Extents) (n : Option ℕ) → extents ≡ rest ++ n ∷ [] → without_last extents ≡ rest
without_last_behind extents rest n e =
    ap without_last e ∙ (ap (λ xs. reverse (drop 1 xs)) (turned rest n) ∙ reverse-reverse rest)

pub without_last_of_none : (extents : Extents) → length extents ≡ 0 → without_last extents ≡ []
without_last_of_none [] e = refl
without_last_of_none (n ∷ more) e = absurd (omega (arith, e))

pub without_none : (k : ℕ) (extents : Extents) → length extents ≤ k → without_at k extents ≡ extents
without_none k extents h = ap₂ (λ xs ys. xs ++ ys) (take_all k extents h) (drop_all (suc k) extents (omega (arith, h)))
    ∙ append-nil extents

pub with_past : (k : ℕ) (n : Option ℕ) (extents : Extents) → length extents ≤ k → with_at k n extents ≡ extents ++ n ∷ []
with_past k n extents h = ap₂ (λ xs ys. xs ++ n ∷ ys) (take_all k extents h) (drop_all k extents h)

pub only_one : (n : Option ℕ) (rest : Extents) → length rest ≡ 0 → only_extent (n ∷ rest) ≡ n
only_one n [] e = refl
only_one n (m ∷ more) e = absurd (omega (arith, e))

pub only_many : (n : Option ℕ) (rest : Extents) → length rest ≢ 0 → only_extent (n ∷ rest) ≡ None
only_many n [] e = absurd (e refl)
only_many n (m ∷ more) e = refl

-- DIM is counted from 1
pub without_dim_at : (d : ℕ) (extents : Extents) → d ≢ 0 → without_dim (Some d) extents ≡ without_at (d - 1) extents
without_dim_at zero extents h = absurd (h refl)
without_dim_at (suc k) extents h = ap (λ n. without_at n extents) (omega arith)

pub with_dim_at : (d : ℕ) (n : Option ℕ) (extents : Extents) → d ≢ 0 → with_dim (Some d) n extents ≡ with_at (d - 1) n extents
with_dim_at zero n extents h = absurd (h refl)
with_dim_at (suc k) n extents h = ap (λ m. with_at m n extents) (omega arith)
