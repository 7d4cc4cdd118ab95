-- Which sections lie within bounds: those without places, and those whose subscripts do, dimension by dimension.
use Rattle.std.proofs.Common.{◌≡◌, ◌≢◌, ℕ, ℤ, suc, ◌+◌, ◌*◌, ◌<◌, ◌≤◌, List, [], ◌∷◌, length, map, get_or, drop, sym, ap, ◌∙◌, subst, inl, inr, arith}
use Rattle.std.specs.Prelude.{◌↔◌}
use Rattle.std.proofs.lemmas.Bool.{cases_lt}
use Rattle.std.proofs.lemmas.Nat.{mul-le}
use Rattle.std.proofs.lemmas.List.{drop_more, drop_all, nil_from_length}
use Rattle.a95_base.specs.Lists.{Every}
use Rattle.a95_base.proofs.Lists.{each_has, each_from_has, each_at}
use Rattle.rank_shape.specs.Shape.{size_of}
use Rattle.section_algebra.specs.Section.{Progression, term_of, subscripts_of, counts_of, places_of, IsWithin}
use Rattle.section_algebra.specs.Dimensions.{InBounds, SubscriptsWithin, EachWithin, AllSome}
use Rattle.section_algebra.proofs.Places.{AreAmong, choices_have, among_choices, length-places_of}
use Rattle.section_algebra.proofs.Progressions.{term_zero, term_between, bounds_between, term_is_member, turn_of}

-- ---- one dimension: the first and the last subscript say it

pub ends_within : (l u : ℤ) (p : Progression) (last : ℕ) → p.count ≡ suc last → InBounds l u p.start
    → InBounds l u (term_of p last) → SubscriptsWithin l u p
ends_within l u p last some first_in last_in =
    each_from_has (InBounds l u) (subscripts_of p)
    (λ z h.
    let t = turn_of p z h in
    let P : ℤ → Type 0 = InBounds l u in
    subst P t.is (bounds_between l u p.start (term_of p last) (term_of p t.turn)
    (term_between p t.turn last (omega (arith, t.below))) first_in last_in))

pub within_ends : (l u : ℤ) (p : Progression) (last : ℕ) → p.count ≡ suc last → SubscriptsWithin l u p
    → InBounds l u p.start × InBounds l u (term_of p last)
within_ends l u p last some h =
    let P : ℤ → Type 0 = InBounds l u in (
      subst P (term_zero p) (each_has (InBounds l u) (subscripts_of p) (term_of p 0) h (term_is_member p 0 (omega (arith, some)))),
      each_has (InBounds l u) (subscripts_of p) (term_of p last) h (term_is_member p last (omega (arith, some))),
    )

-- ---- all dimensions

among_within : (lower upper : List ℤ) (section : List Progression) (place : List ℤ) → EachWithin lower upper section
    → AreAmong (map subscripts_of section) place → IsWithin lower upper place
among_within [] [] [] [] h a = tt
among_within [] [] [] (z ∷ place) h a = absurd a
among_within [] [] (p ∷ section) place h a = absurd h
among_within [] (u ∷ upper) section place h a = absurd h
among_within (l ∷ lower) [] section place h a = absurd h
among_within (l ∷ lower) (u ∷ upper) [] place h a = absurd h
among_within (l ∷ lower) (u ∷ upper) (p ∷ section) [] h a = absurd a
among_within (l ∷ lower) (u ∷ upper) (p ∷ section) (z ∷ place) h a =
    (each_has (InBounds l u) (subscripts_of p) z h.0 a.0, among_within lower upper section place h.1 a.1)

places_within : (lower upper : List ℤ) (section : List Progression) → EachWithin lower upper section
    → Every (IsWithin lower upper) (places_of section)
places_within lower upper section h =
    each_from_has (IsWithin lower upper) (places_of section)
    (λ place m. among_within lower upper section place h (among_choices (map subscripts_of section) place m))

-- where no dimension is empty, each subscript stands in some place
abbrev firsts : List Progression → List ℤ
firsts = map (λ p. term_of p 0)

firsts_are_among : (section : List Progression) → AllSome section → AreAmong (map subscripts_of section) (firsts section)
firsts_are_among [] some = tt
firsts_are_among (p ∷ section) some = (term_is_member p 0 some.0, firsts_are_among section some.1)

each_within : (lower upper : List ℤ) (section : List Progression) → length lower ≡ length section
    → length upper ≡ length section → AllSome section → Every (IsWithin lower upper) (places_of section)
    → EachWithin lower upper section
each_within [] [] [] e f some h = tt
each_within [] [] (p ∷ section) e f some h = absurd (omega (arith, e))
each_within [] (u ∷ upper) section e f some h = absurd (omega (arith, e, f))
each_within (l ∷ lower) [] section e f some h = absurd (omega (arith, e, f))
each_within (l ∷ lower) (u ∷ upper) [] e f some h = absurd (omega (arith, e))
each_within (l ∷ lower) (u ∷ upper) (p ∷ section) e f some h = (
  each_from_has (InBounds l u) (subscripts_of p)
      (λ z m. (each_has (IsWithin (l ∷ lower) (u ∷ upper)) (places_of (p ∷ section)) (z ∷ firsts section) h
      (choices_have (map subscripts_of (p ∷ section)) (z ∷ firsts section) (m, firsts_are_among section some.1))).0),
  each_within lower upper section (omega (arith, e)) (omega (arith, f)) some.1
      (each_from_has (IsWithin lower upper) (places_of section)
      (λ place m. (each_has (IsWithin (l ∷ lower) (u ∷ upper)) (places_of (p ∷ section)) (term_of p 0 ∷ place) h
      (choices_have (map subscripts_of (p ∷ section)) (term_of p 0 ∷ place)
      (term_is_member p 0 some.0, among_choices (map subscripts_of section) place m))).1)),
)

pub within_is : (lower upper : List ℤ) (section : List Progression) → length lower ≡ length section
    → length upper ≡ length section → AllSome section
    → EachWithin lower upper section ↔ Every (IsWithin lower upper) (places_of section)
within_is lower upper section e f some = (places_within lower upper section, each_within lower upper section e f some)

-- ---- no places

pub no_places : (section : List Progression) → size_of (counts_of section) ≡ 0 → (P : List ℤ → Type 0) → Every P (places_of section)
no_places section none P =
    let is : places_of section ≡ [] =
    nil_from_length (places_of section) (length-places_of section ∙ none) in let Q : List (List ℤ)
    → Type 0 = Every P in subst Q (sym is) tt

pub all_some : (section : List Progression) → size_of (counts_of section) ≢ 0 → AllSome section
all_some [] some = tt
all_some (p ∷ section) some =
    elim (cases_lt 0 p.count) [
      | inl here ↦ (here, all_some section (λ none. some (omega (arith, ap (λ n. p.count * n) none))))
      | inr none ↦ absurd (some (let zero_here : p.count ≡ 0 = omega arith in
          omega (arith, ap (λ n. n * size_of (counts_of section)) zero_here)))
    ]

pub size_of_some : (section : List Progression) → AllSome section → 0 < size_of (counts_of section)
size_of_some [] some = omega arith
size_of_some (p ∷ section) some =
    let least : 1 * 1 ≤ p.count * size_of (counts_of section) =
    mul-le 1 1 p.count (size_of (counts_of section)) (omega (arith, some.0)) (omega (arith, size_of_some section some.1)) in
    omega arith

-- ---- one more dimension of the code

moved : (lower lower' upper upper' : List ℤ) (section section' : List Progression) → lower ≡ lower' → upper ≡ upper'
    → section ≡ section' → EachWithin lower upper section → EachWithin lower' upper' section'
moved lower lower' upper upper' section section' e f s h =
    let P : List ℤ → Type 0 = λ ls. EachWithin ls upper' section' in
    let Q : List ℤ → Type 0 = λ us. EachWithin lower us section' in
    let R : List Progression → Type 0 = λ ps. EachWithin lower upper ps in
    subst P e (subst Q f (subst R s h))

module _ (lower upper : List ℤ) (section : List Progression) (k : ℕ) (d e : ℤ) (f : Progression) (in_lower : k < length lower)
    (in_upper : k < length upper) (in_section : k < length section) where
  pub within_step : EachWithin (drop k lower) (drop k upper) (drop k section)
      ↔ (SubscriptsWithin (get_or lower k d) (get_or upper k e) (get_or section k f)
      × EachWithin (drop (k + 1) lower) (drop (k + 1) upper) (drop (k + 1) section))
  within_step = (
    moved (drop k lower) (get_or lower k d ∷ drop (k + 1) lower) (drop k upper) (get_or upper k e ∷ drop (k + 1) upper)
        (drop k section) (get_or section k f ∷ drop (k + 1) section)
        (drop_more lower k d in_lower) (drop_more upper k e in_upper) (drop_more section k f in_section),
    moved (get_or lower k d ∷ drop (k + 1) lower) (drop k lower) (get_or upper k e ∷ drop (k + 1) upper) (drop k upper)
        (get_or section k f ∷ drop (k + 1) section) (drop k section)
        (sym (drop_more lower k d in_lower)) (sym (drop_more upper k e in_upper)) (sym (drop_more section k f in_section)),
  )

-- the same by what the code has read
pub within_next : (lower upper : List ℤ) (section : List Progression) (k : ℕ) (l u d e : ℤ) (p f : Progression)
    → k < length lower → k < length upper → k < length section → l ≡ get_or lower k d → u ≡ get_or upper k e
    → p ≡ get_or section k f
    → EachWithin (drop k lower) (drop k upper) (drop k section)
    ↔ (SubscriptsWithin l u p × EachWithin (drop (k + 1) lower) (drop (k + 1) upper) (drop (k + 1) section))
within_next lower upper section k l u d e p f in_lower in_upper in_section l_is u_is p_is =
    let step = within_step lower upper section k d e f in_lower in_upper in_section in
    let P : ℤ → Type 0 = λ x. SubscriptsWithin x u p in
    let Q : ℤ → Type 0 = λ x. SubscriptsWithin (get_or lower k d) x p in
    let R : Progression → Type 0 = λ x. SubscriptsWithin (get_or lower k d) (get_or upper k e) x in (
      λ h. (subst P (sym l_is) (subst Q (sym u_is) (subst R (sym p_is) (step.0 h).0)), (step.0 h).1),
      λ h. step.1 (subst R p_is (subst Q u_is (subst P l_is h.0)), h.1),
    )

pub some_at : (section : List Progression) (k : ℕ) (p d : Progression) → size_of (counts_of section) ≢ 0 → k < length section
    → p ≡ get_or section k d → 0 < p.count
some_at section k p d some below is =
    let here : 0 < (get_or section k d).count = each_at (λ q. 0 < q.count) section k d (all_some section some) below in
    omega (arith, here, ap (λ q. q.count) is)

pub all_within : (lower upper : List ℤ) (section : List Progression) (k : ℕ) → length lower ≤ k → length upper ≤ k
    → length section ≤ k → EachWithin (drop k lower) (drop k upper) (drop k section)
all_within lower upper section k lower_done upper_done section_done =
    moved [] (drop k lower) [] (drop k upper) [] (drop k section) (sym (drop_all k lower lower_done))
    (sym (drop_all k upper upper_done)) (sym (drop_all k section section_done)) tt
