-- Which sections have places that are consecutive in their array: after a dimension that isn't covered whole, one subscript each.
use Rattle.std.proofs.Common.{◌≡◌, ◌⊎◌, ℕ, ℤ, pos, zero, suc, ◌+◌, ◌*◌, ◌<◌, ◌≤◌, ◌+ℤ◌, ◌-ℤ◌, ◌≤ℤ◌, Bool, true, false, ◌&&◌, nat_eq, List, [], ◌∷◌, ◌++◌, length, map, get_or, drop, replicate, refl, sym, ap, ◌∙◌, subst, inl, inr, arith}
use Rattle.std.specs.Prelude.{◌↔◌, unsigned_abs}
use Rattle.std.specs.List.{flat_map}
use Rattle.std.proofs.lemmas.Int.{ints}
use Rattle.std.proofs.lemmas.Nat.{mul-le}
use Rattle.std.proofs.lemmas.Bool.{cases_lt, eqb-true, eqb-false, false≢true}
use Rattle.std.proofs.lemmas.List.{length-map, length-replicate, get_or-map, drop_more, drop_all}
use Rattle.a95_base.specs.Lists.{Every, count_to}
use Rattle.a95_base.proofs.Lists.{Every-map, Every-weaker, each_at, length-count_to, get_or-count_to, map-flat_map}
use Rattle.rank_shape.specs.Shape.{size_of, number_of}
use Rattle.section_algebra.specs.Section.{Progression, term_of, subscripts_of, counts_of, places_of, from_one, numbers_in, IsConsecutive}
use Rattle.section_algebra.specs.Dimensions.{SubscriptsWithin, EachWithin, AllSome, GoesOn, RunsOn}
use Rattle.section_algebra.proofs.Places.{length-places_of, length-subscripts_of}
use Rattle.section_algebra.proofs.Progressions.{term_next}
use Rattle.section_algebra.proofs.Bounds.{size_of_some}
use Rattle.section_algebra.proofs.Consecutive.{row, rows, RowsJoin, rows_are, consecutive_at, consecutive_from, short_consecutive}

-- ---- the numbers, dimension by dimension

numbered_row : (e : ℕ) (extents : List ℕ) (zs place : List ℤ)
    → map (λ q. number_of (e ∷ extents) (from_one q)) (map (λ z. z ∷ place) zs)
    ≡ row e (from_one zs) (number_of extents (from_one place))
numbered_row e extents [] place = refl
numbered_row e extents (z ∷ zs) place =
    ap (λ ns. (unsigned_abs (z -ℤ pos 1) + e * number_of extents (from_one place)) ∷ ns) (numbered_row e extents zs place)

numbered_rows : (e : ℕ) (extents : List ℕ) (zs : List ℤ) (places : List (List ℤ))
    → flat_map (λ place. map (λ q. number_of (e ∷ extents) (from_one q)) (map (λ z. z ∷ place) zs)) places
    ≡ rows e (from_one zs) (map (λ place. number_of extents (from_one place)) places)
numbered_rows e extents zs [] = refl
numbered_rows e extents zs (place ∷ places) =
    ap (λ ns. ns ++ flat_map (λ p. map (λ q. number_of (e ∷ extents) (from_one q)) (map (λ z. z ∷ p) zs)) places)
    (numbered_row e extents zs place)
    ∙ ap (λ ns. row e (from_one zs) (number_of extents (from_one place)) ++ ns) (numbered_rows e extents zs places)

numbers_are_rows : (e : ℕ) (extents : List ℕ) (p : Progression) (section : List Progression)
    → numbers_in (e ∷ extents) (p ∷ section) ≡ rows e (from_one (subscripts_of p)) (numbers_in extents section)
numbers_are_rows e extents p section =
    map-flat_map (λ place. map (λ z. z ∷ place) (subscripts_of p)) (λ q. number_of (e ∷ extents) (from_one q)) (places_of section)
    ∙ numbered_rows e extents (subscripts_of p) (places_of section)

length-numbers_in : (extents : List ℕ) (section : List Progression)
    → length (numbers_in extents section) ≡ size_of (counts_of section)
length-numbers_in extents section =
    length-map (places_of section) (λ place. number_of extents (from_one place)) ∙ length-places_of section

-- ---- one dimension

length-offsets : (p : Progression) → length (from_one (subscripts_of p)) ≡ p.count
length-offsets p = length-map (subscripts_of p) (λ z. unsigned_abs (z -ℤ pos 1)) ∙ length-subscripts_of p

offset_at : (p : Progression) (k : ℕ) → k < p.count → get_or (from_one (subscripts_of p)) k 0 ≡ unsigned_abs (term_of p k -ℤ pos 1)
offset_at p k h =
    get_or-map (λ z. unsigned_abs (z -ℤ pos 1)) (subscripts_of p) k (pos 0) 0 (omega (arith, length-subscripts_of p))
    ∙ ap (λ z. unsigned_abs (z -ℤ pos 1)) (get_or-map (term_of p) (count_to p.count) k 0 (pos 0)
    (omega (arith, length-count_to p.count)) ∙ ap (term_of p) (get_or-count_to p.count k 0 h))

subscript_from_one : (p : Progression) (e k : ℕ) → SubscriptsWithin (pos 1) (pos e) p → k < p.count → pos 1 ≤ℤ term_of p k
subscript_from_one p e k h below =
    let P : ℤ → Type 0 = λ z. pos 1 ≤ℤ z in
    subst P (get_or-map (term_of p) (count_to p.count) k 0 (pos 0) (omega (arith, length-count_to p.count))
    ∙ ap (term_of p) (get_or-count_to p.count k 0 below))
    (each_at (λ z. (pos 1 ≤ℤ z) × (z ≤ℤ pos e)) (subscripts_of p) k (pos 0) h (omega (arith, length-subscripts_of p))).0

offsets_inside : (p : Progression) (e : ℕ) → SubscriptsWithin (pos 1) (pos e) p → Every (λ n. n < e) (from_one (subscripts_of p))
offsets_inside p e h =
    Every-map (λ n. n < e) (λ z. unsigned_abs (z -ℤ pos 1)) (subscripts_of p)
    (Every-weaker (λ z. (pos 1 ≤ℤ z) × (z ≤ℤ pos e)) (λ z. unsigned_abs (z -ℤ pos 1) < e) (λ z b. omega (arith, ints, b.0, b.1))
    (subscripts_of p) h)

-- the subscripts rise by one
abbrev pub Rises : Progression → Type 0
Rises p = (p.count ≤ 1) ⊎ (p.stride ≡ pos 1)

next_offset : (a b d : ℤ) → pos 1 ≤ℤ a → pos 1 ≤ℤ b → b ≡ a +ℤ d → unsigned_abs (b -ℤ pos 1) ≡ suc (unsigned_abs (a -ℤ pos 1))
    → d ≡ pos 1
next_offset a b d low high is next = omega (arith, ints)

next_from_one : (a b : ℤ) → pos 1 ≤ℤ a → b ≡ a +ℤ pos 1 → unsigned_abs (b -ℤ pos 1) ≡ suc (unsigned_abs (a -ℤ pos 1))
next_from_one a b low is = omega (arith, ints)

offsets_rise : (p : Progression) (e : ℕ) → SubscriptsWithin (pos 1) (pos e) p → IsConsecutive (from_one (subscripts_of p)) → Rises p
offsets_rise p e h c =
    elim (cases_lt 1 p.count) [
      | inl more ↦ inr (next_offset (term_of p 0) (term_of p 1) p.stride (subscript_from_one p e 0 h (omega arith))
          (subscript_from_one p e 1 h more) (term_next p 0)
          (sym (offset_at p 1 more) ∙ consecutive_at (from_one (subscripts_of p)) 0 c (omega (arith, length-offsets p))
          ∙ ap suc (offset_at p 0 (omega arith))))
      | inr few ↦ inl few
    ]

rising_offsets : (p : Progression) (e : ℕ) → SubscriptsWithin (pos 1) (pos e) p → Rises p
    → IsConsecutive (from_one (subscripts_of p))
rising_offsets p e h (inl few) = short_consecutive (from_one (subscripts_of p)) (omega (arith, length-offsets p))
rising_offsets p e h (inr one) =
    consecutive_from (from_one (subscripts_of p))
    (λ k below.
    let here : suc k < p.count = omega (arith, length-offsets p) in
    offset_at p (suc k) here
    ∙ next_from_one (term_of p k) (term_of p (suc k)) (subscript_from_one p e k h (omega arith))
    (term_next p k ∙ ap (λ d. term_of p k +ℤ d) one)
    ∙ ap suc (sym (offset_at p k (omega arith))))

-- ---- all dimensions

-- the bounds of an array whose lower bounds are 1
abbrev pub FromOne : List ℕ → List Progression → Type 0
FromOne [] [] = Unit {0}
FromOne (e ∷ extents) (p ∷ section) = SubscriptsWithin (pos 1) (pos e) p × FromOne extents section
FromOne extents section = ⊥

pub from_one_is : (rank : ℕ) (extents : List ℕ) (section : List Progression)
    → EachWithin (replicate rank (pos 1)) (map pos extents) section → FromOne extents section
from_one_is zero [] [] h = tt
from_one_is zero [] (p ∷ section) h = absurd h
from_one_is zero (e ∷ extents) section h = absurd h
from_one_is (suc rank) [] section h = absurd h
from_one_is (suc rank) (e ∷ extents) [] h = absurd h
from_one_is (suc rank) (e ∷ extents) (p ∷ section) h = (h.0, from_one_is rank extents section h.1)

-- with a count of at least 1 in each dimension
product_short : (a b : ℕ) → 0 < a → 0 < b → (a * b ≤ 1) ↔ ((a ≤ 1) × (b ≤ 1))
product_short a b some more = (
  λ h. (
    (let least : a * 1 ≤ a * b = mul-le a 1 a b (omega arith) (omega arith) in omega arith),
    (let least : 1 * b ≤ a * b = mul-le 1 b a b (omega arith) (omega arith) in omega arith),
  ),
  λ h. (let most : a * b ≤ 1 * 1 = mul-le a b 1 1 h.0 h.1 in omega arith),
)

single : (extents : List ℕ) (section : List Progression) → FromOne extents section → AllSome section
    → RunsOn false section extents ↔ (size_of (counts_of section) ≤ 1)
single [] [] h some = (λ u. omega arith, λ u. tt)
single [] (p ∷ section) h some = absurd h
single (e ∷ extents) [] h some = absurd h
single (e ∷ extents) (p ∷ section) h some =
    let product = product_short p.count (size_of (counts_of section)) some.0 (size_of_some section some.1) in
    let rest = single extents section h.1 some.1 in (
      λ r. product.1 (elim r.0 [ inl few ↦ few | inr on ↦ absurd (false≢true on.0) ], rest.0 r.1),
      λ s. (inl (product.0 s).0, rest.1 (product.0 s).1),
    )

abbrev Numbered : List ℕ → List Progression → Type 0
Numbered extents section = RunsOn true section extents ↔ IsConsecutive (numbers_in extents section)

-- what is left to ask of the rows that follow
rows_after : (extents : List ℕ) (p : Progression) (section : List Progression) (e : ℕ) (whole : Bool) → nat_eq p.count e ≡ whole
    → FromOne extents section → AllSome section → Numbered extents section
    → RunsOn whole section extents ↔ RowsJoin p.count e (numbers_in extents section)
rows_after extents p section e true is h some rest = (
  λ r. inr (eqb-true p.count e is, rest.0 r),
  λ j. elim j [ inl few ↦ rest.1 (short_consecutive (numbers_in extents section) few) | inr on ↦ rest.1 on.1 ],
)
rows_after extents p section e false is h some rest =
    let alone = single extents section h some in (
      λ r. inl (omega (arith, alone.0 r, length-numbers_in extents section)),
      λ j. elim j [
        | inl few ↦ alone.1 (omega (arith, few, length-numbers_in extents section))
        | inr
            on ↦ absurd (eqb-false p.count e is on.0)
      ],
    )

pub runs_are_consecutive : (extents : List ℕ) (section : List Progression) → FromOne extents section → AllSome section
    → Numbered extents section
runs_are_consecutive [] [] h some = (λ u. tt, λ u. tt)
runs_are_consecutive [] (p ∷ section) h some = absurd h
runs_are_consecutive (e ∷ extents) [] h some = absurd h
runs_are_consecutive (e ∷ extents) (p ∷ section) h some =
    let rest = runs_are_consecutive extents section h.1 some.1 in
    let after = rows_after extents p section e (nat_eq p.count e) refl h.1 some.1 rest in
    let ns : List ℕ = numbers_in extents section in
    let os : List ℕ = from_one (subscripts_of p) in
    let joined =
    rows_are e os ns (omega (arith, length-offsets p, some.0))
    (omega (arith, length-numbers_in extents section, size_of_some section some.1)) (offsets_inside p e h.0) in
    let P : List ℕ → Type 0 = IsConsecutive in
    let Q : ℕ → Type 0 = λ n. RowsJoin n e ns in (
      λ r. subst P (sym (numbers_are_rows e extents p section))
          (joined.1 (
            rising_offsets p e h.0 (elim r.0 [ inl few ↦ inl few | inr on ↦ inr on.1 ]),
            subst Q (sym (length-offsets p)) (after.0 r.1),
          )),
      λ c.
          let parts = joined.0 (subst P (numbers_are_rows e extents p section) c) in (
            elim (offsets_rise p e h.0 parts.0) [ inl few ↦ inl few | inr one ↦ inr (refl, one) ],
            after.1 (subst Q (length-offsets p) parts.1),
          ),
    )

-- ---- one more dimension of the code

moved : (full : Bool) (section section' : List Progression) (extents extents' : List ℕ) → section ≡ section'
    → extents ≡ extents' → RunsOn full section extents → RunsOn full section' extents'
moved full section section' extents extents' e f h =
    let P : List Progression → Type 0 = λ ps. RunsOn full ps extents' in
    let Q : List ℕ → Type 0 = λ es. RunsOn full section es in
    subst P e (subst Q f h)

module _ (full : Bool) (section : List Progression) (extents : List ℕ) (k : ℕ) (d : Progression) (e : ℕ)
    (in_section : k < length section) (in_extents : k < length extents) where
  pub runs_step : RunsOn full (drop k section) (drop k extents)
      ↔ (GoesOn full (get_or section k d) × RunsOn (full && nat_eq (get_or section k d).count (get_or extents k e))
      (drop (k + 1) section) (drop (k + 1) extents))
  runs_step = (
    moved full (drop k section) (get_or section k d ∷ drop (k + 1) section) (drop k extents)
        (get_or extents k e ∷ drop (k + 1) extents) (drop_more section k d in_section) (drop_more extents k e in_extents),
    moved full (get_or section k d ∷ drop (k + 1) section) (drop k section) (get_or extents k e ∷ drop (k + 1) extents)
        (drop k extents) (sym (drop_more section k d in_section)) (sym (drop_more extents k e in_extents)),
  )

-- the same by what the code has read: the count and the extent as signed numbers, and what is covered so far
pub runs_next : (full next : Bool) (section : List Progression) (extents : List ℕ) (k : ℕ) (p d : Progression)
    (count extent : ℤ) → k < length section → k < length extents → p ≡ get_or section k d → count ≡ pos p.count → extent
    ≡ pos (get_or extents k 0) → next ≡ (full && nat_eq (unsigned_abs count) (unsigned_abs extent))
    → RunsOn full (drop k section) (drop k extents)
    ↔ (GoesOn full p × RunsOn next (drop (k + 1) section) (drop (k + 1) extents))
runs_next full next section extents k p d count extent in_section in_extents is count_is extent_is next_is =
    let q : Progression = get_or section k d in
    let e : ℕ = get_or extents k 0 in
    let step = runs_step full section extents k d 0 in_section in_extents in
    let same : next ≡ (full && nat_eq q.count e) =
    next_is ∙ ap (λ z. full && nat_eq (unsigned_abs z) (unsigned_abs extent)) (count_is ∙ ap (λ x. pos x.count) is)
    ∙ ap (λ z. full && nat_eq q.count (unsigned_abs z)) extent_is in
    let P : Progression → Type 0 = GoesOn full in
    let Q : Bool → Type 0 = λ b. RunsOn b (drop (k + 1) section) (drop (k + 1) extents) in (
      λ r. (subst P (sym is) (step.0 r).0, subst Q (sym same) (step.0 r).1),
      λ r. step.1 (subst P is r.0, subst Q same r.1),
    )

pub goes_moved : (full : Bool) (section : List Progression) (extents : List ℕ) (k : ℕ) (p d : Progression) → k < length section
    → k < length extents → p ≡ get_or section k d → RunsOn full (drop k section) (drop k extents) → GoesOn full p
goes_moved full section extents k p d in_section in_extents is r =
    let P : Progression → Type 0 = GoesOn full in
    subst P (sym is) ((runs_step full section extents k d 0 in_section in_extents).0 r).0

pub all_run : (full : Bool) (section : List Progression) (extents : List ℕ) (k : ℕ) → length section ≤ k → length extents ≤ k
    → RunsOn full (drop k section) (drop k extents)
all_run full section extents k section_done extents_done =
    moved full [] (drop k section) [] (drop k extents) (sym (drop_all k section section_done))
    (sym (drop_all k extents extents_done)) tt

-- ---- whole sections

pub no_numbers : (extents : List ℕ) (section : List Progression) → size_of (counts_of section) ≡ 0
    → IsConsecutive (numbers_in extents section)
no_numbers extents section none =
    short_consecutive (numbers_in extents section) (omega (arith, length-numbers_in extents section, none))

pub ones_long : (rank : ℕ) (section : List Progression) → length section ≡ rank → length (replicate rank (pos 1)) ≡ length section
ones_long rank section long = length-replicate rank (pos 1) ∙ sym long

pub extents_long : (rank : ℕ) (extents : List ℕ) (section : List Progression) → length extents ≡ rank → length section ≡ rank
    → length (map pos extents) ≡ length section
extents_long rank extents section long is = length-map extents pos ∙ long ∙ sym is
