-- Which sections meet: those whose subscripts do in each dimension.
use Rattle.std.proofs.Common.{◌≡◌, ℕ, ℤ, ◌+◌, ◌<◌, ◌≤◌, List, [], ◌∷◌, length, map, get_or, drop, sym, subst}
use Rattle.std.specs.Prelude.{◌↔◌}
use Rattle.std.proofs.lemmas.List.{drop_more, drop_all}
use Rattle.section_algebra.specs.Section.{Progression, subscripts_of, Meet, Share}
use Rattle.section_algebra.specs.Dimensions.{EachShares}
use Rattle.section_algebra.proofs.Places.{AreAmong, choices_have, among_choices}

each_shares : (section other : List Progression) (place : List ℤ) → AreAmong (map subscripts_of section) place
    → AreAmong (map subscripts_of other) place → EachShares section other
each_shares [] [] place a b = tt
each_shares [] (q ∷ other) [] a b = absurd b
each_shares [] (q ∷ other) (z ∷ place) a b = absurd a
each_shares (p ∷ section) [] [] a b = absurd a
each_shares (p ∷ section) [] (z ∷ place) a b = absurd b
each_shares (p ∷ section) (q ∷ other) [] a b = absurd a
each_shares (p ∷ section) (q ∷ other) (z ∷ place) a b =
    (record { subscript = z; first = a.0; second = b.0 }, each_shares section other place a.1 b.1)

shared : (section other : List Progression) → EachShares section other
    → (place : List ℤ) × (AreAmong (map subscripts_of section) place × AreAmong (map subscripts_of other) place)
shared [] [] h = ([], (tt, tt))
shared [] (q ∷ other) h = absurd h
shared (p ∷ section) [] h = absurd h
shared (p ∷ section) (q ∷ other) h =
    let r = shared section other h.1 in
    (h.0.subscript ∷ r.0, ((h.0.first, r.1.0), (h.0.second, r.1.1)))

meet_from : (section other : List Progression) → EachShares section other → Meet section other
meet_from section other h =
    let r = shared section other h in
    record {
      place = r.0;
      first = choices_have (map subscripts_of section) r.0 r.1.0;
      second = choices_have
          (map subscripts_of other) r.0 r.1.1;
    }

pub meet_is : (section other : List Progression) → EachShares section other ↔ Meet section other
meet_is section other = (
  meet_from section other,
  λ h. each_shares section other h.place (among_choices (map subscripts_of section) h.place h.first)
      (among_choices (map subscripts_of other) h.place h.second),
)

-- ---- one more dimension of the code

share_moved : (p p' q q' : Progression) → p ≡ p' → q ≡ q' → Share p q → Share p' q'
share_moved p p' q q' e f h =
    let P : Progression → Type 0 = λ x. Share x q' in
    let Q : Progression → Type 0 = λ x. Share p x in
    subst P e (subst Q f h)

moved : (section section' other other' : List Progression) → section ≡ section' → other ≡ other' → EachShares section other
    → EachShares section' other'
moved section section' other other' e f h =
    let P : List Progression → Type 0 = λ ps. EachShares ps other' in
    let Q : List Progression → Type 0 = λ qs. EachShares section qs in
    subst P e (subst Q f h)

module _ (section other : List Progression) (k : ℕ) (d e : Progression) (in_section : k < length section)
    (in_other : k < length other) where
  pub shares_step : EachShares (drop k section) (drop k other)
      ↔ (Share (get_or section k d) (get_or other k e) × EachShares (drop (k + 1) section) (drop (k + 1) other))
  shares_step = (
    moved (drop k section) (get_or section k d ∷ drop (k + 1) section) (drop k other) (get_or other k e ∷ drop (k + 1) other)
        (drop_more section k d in_section) (drop_more other k e in_other),
    moved (get_or section k d ∷ drop (k + 1) section) (drop k section) (get_or other k e ∷ drop (k + 1) other) (drop k other)
        (sym (drop_more section k d in_section)) (sym (drop_more other k e in_other)),
  )

-- the same by what the code has read
pub shares_next : (section other : List Progression) (k : ℕ) (p q d e : Progression) → k < length section → k < length other
    → p ≡ get_or section k d → q ≡ get_or other k e
    → EachShares (drop k section) (drop k other) ↔ (Share p q × EachShares (drop (k + 1) section) (drop (k + 1) other))
shares_next section other k p q d e in_section in_other p_is q_is =
    let step = shares_step section other k d e in_section in_other in (
      λ h. (share_moved (get_or section k d) p (get_or other k e) q (sym p_is) (sym q_is) (step.0 h).0, (step.0 h).1),
      λ h. step.1 (share_moved p (get_or section k d) q (get_or other k e) p_is q_is h.0, h.1),
    )

pub all_shared : (section other : List Progression) (k : ℕ) → length section ≤ k → length other ≤ k
    → EachShares (drop k section) (drop k other)
all_shared section other k section_done other_done =
    moved [] (drop k section) [] (drop k other) (sym (drop_all k section section_done)) (sym (drop_all k other other_done)) tt
