-- Sections as three lists of fields, the steps of loops over them, and their numbers in an array.
use Rattle.std.proofs.Common.{◌≡◌, ◌≢◌, ℕ, ℤ, pos, zero, suc, ◌+◌, ◌*◌, ◌<◌, ◌≤◌, ◌-ℤ◌, ◌≤ℤ◌, List, [], ◌∷◌, ◌++◌, length, map, get_or, set, take, drop, replicate, refl, sym, ap, ◌∙◌, subst, arith, append_assoc, FitsSigned, w64}
use Rattle.std.specs.Prelude.{unsigned_abs}
use Rattle.std.proofs.lemmas.Int.{ints, to_z-of_z}
use Rattle.std.proofs.lemmas.List.{drop_more, drop_all, take_more_set, take_all, append-nil, length-map, get_or-map}
use Rattle.std.proofs.lemmas.Nat.{mul-le}
use Rattle.a95_base.specs.Lists.{Every, Pairwise}
use Rattle.a95_base.proofs.Lists.{Every-map, Every-weaker, Pairwise-map, Pairwise-weaker_on, each_at}
use Rattle.rank_shape.specs.Shape.{IsRank, IsPlace, AreNatural, naturals, size_of, number_of, place_at}
use Rattle.rank_shape.proofs.Numbers.{number_below, place_at-number_of}
use Rattle.section_algebra.specs.Section.{Progression, term_of, subscripts_of, triplet, triplets, triplet_count, counts_of, places_of, place_named, progression_at, IsWithin, from_one, numbers_in, AreIntegers, IsProgression, IsSection}
use Rattle.section_algebra.specs.Fields.{progressions, SectionFields}
use Rattle.section_algebra.proofs.Places.{places_once}
use Rattle.section_algebra.proofs.Progressions.{subscripts_once, length-triplets, triplets_are}
use Rattle.section_algebra.proofs.Readings.{read, read_back}

-- ---- fields

pub field_progression : (rank k : ℕ) (start stride count : List ℤ) (d e f : ℤ) (p : Progression) → length start ≡ rank
    → length stride ≡ rank → length count ≡ rank → k < rank
    → get_or (progressions start stride (naturals count)) k p
    ≡ record { start = get_or start k d; stride = get_or stride k e; count = unsigned_abs (get_or count k f) }
field_progression rank k [] stride count d e f p a b c below = absurd (omega (arith, a))
field_progression rank k (z ∷ start) [] count d e f p a b c below = absurd (omega (arith, b))
field_progression rank k (z ∷ start) (y ∷ stride) [] d e f p a b c below = absurd (omega (arith, c))
field_progression rank zero (z ∷ start) (y ∷ stride) (n ∷ count) d e f p a b c below = refl
field_progression zero (suc k) (z ∷ start) (y ∷ stride) (n ∷ count) d e f p a b c below = absurd (omega arith)
field_progression (suc rank) (suc k) (z ∷ start) (y ∷ stride) (n ∷ count) d e f p a b c below =
    field_progression rank k start stride count d e f p (omega (arith, a)) (omega (arith, b)) (omega (arith, c)) (omega arith)

abbrev pub none : Progression
none = record { start = pos 0; stride = pos 1; count = 0 }

module _ (rank k : ℕ) (start stride count : List ℤ) (h : SectionFields rank start stride count) (below : k < rank) where
  fields_are : progression_at (progressions start stride (naturals count)) k
      ≡ record {
        start = get_or start k (pos 0);
        stride = get_or stride k (pos 0);
        count = unsigned_abs (get_or count k (pos 0));
      }
  fields_are =
      field_progression rank k start stride count (pos 0) (pos 0) (pos 0) none h.start_long h.stride_long h.count_long
      below

  pub field_is : IsProgression (progression_at (progressions start stride (naturals count)) k)
  field_is =
      each_at IsProgression (progressions start stride (naturals count)) k none h.section.each
      (omega (arith, h.section.long))

  -- what the code reads of the fields
  pub field_read : FitsSigned w64 (get_or count k (pos 0))
      → record {
        start = read (get_or start k (pos 0));
        stride = read (get_or stride k (pos 0));
        count = unsigned_abs
            (read (get_or count k (pos 0)));
      } ≡ progression_at (progressions start stride (naturals count)) k
  field_read wide =
      let made : ℤ → ℤ → ℤ → Progression = λ s d n. record { start = s; stride = d; count = unsigned_abs n } in
      let P : Progression → Type 0 = IsProgression in
      let is : IsProgression (made (get_or start k (pos 0)) (get_or stride k (pos 0)) (get_or count k (pos 0))) =
      subst P fields_are field_is in
      ap (λ s. made s (read (get_or stride k (pos 0))) (read (get_or count k (pos 0))))
      (read_back (get_or start k (pos 0)) is.start_fits)
      ∙ ap (λ d. made (get_or start k (pos 0)) d (read (get_or count k (pos 0))))
      (read_back (get_or stride k (pos 0)) is.stride_fits)
      ∙ ap (λ n. made (get_or start k (pos 0)) (get_or stride k (pos 0)) n) (to_z-of_z w64 (get_or count k (pos 0)) wide)
      ∙ sym fields_are

abbrev pub whole_counts : List Progression → List ℤ
whole_counts = map (λ p. pos p.count)

pub naturals_back : (section : List Progression) → naturals (whole_counts section) ≡ counts_of section
naturals_back [] = refl
naturals_back (p ∷ section) = ap (λ ns. p.count ∷ ns) (naturals_back section)

-- the fields that a new section is made of
pub made_of_triplets : (rank : ℕ) (lower upper stride : List ℤ) → length lower ≡ rank → length upper ≡ rank
    → length stride ≡ rank → progressions lower stride (counts_of (triplets lower upper stride)) ≡ triplets lower upper stride
made_of_triplets rank [] upper stride a b c = refl
made_of_triplets rank (l ∷ lower) [] stride a b c = absurd (omega (arith, a, b))
made_of_triplets rank (l ∷ lower) (u ∷ upper) [] a b c = absurd (omega (arith, a, c))
made_of_triplets zero (l ∷ lower) (u ∷ upper) (s ∷ stride) a b c = absurd (omega (arith, a))
made_of_triplets (suc rank) (l ∷ lower) (u ∷ upper) (s ∷ stride) a b c =
    ap (λ ps. triplet l u s ∷ ps) (made_of_triplets rank lower upper stride (omega (arith, a)) (omega (arith, b))
    (omega (arith, c)))

counts_natural : (section : List Progression) → AreNatural (whole_counts section)
counts_natural [] = tt
counts_natural (p ∷ section) = (omega (arith, ints), counts_natural section)

module _ (rank : ℕ) (lower upper stride count : List ℤ) (a : length lower ≡ rank) (b : length upper ≡ rank)
    (c : length stride ≡ rank) (is : count ≡ whole_counts (triplets lower upper stride)) where
  pub new_section : progressions lower stride (naturals count) ≡ triplets lower upper stride
  new_section =
      ap (λ ns. progressions lower stride (naturals ns)) is
      ∙ ap (progressions lower stride) (naturals_back (triplets lower upper stride))
      ∙ made_of_triplets rank lower upper stride a b c

  pub new_fields : IsRank rank → AreIntegers lower → AreIntegers upper → AreIntegers stride → Every (λ s. s ≢ pos 0) stride
      → SectionFields rank lower stride count
  new_fields ranked f l s steps =
      let P : List Progression → Type 0 = IsSection rank in
      let Q : List ℤ → Type 0 = AreNatural in
      record {
        section = subst P (sym new_section) (record {
          ranked = ranked;
          long = length-triplets rank lower upper stride a b c;
          each = triplets_are lower upper stride f l s
              steps;
        });
        natural = subst Q (sym is) (counts_natural (triplets lower upper stride));
        start_long = a;
        stride_long = c;
        count_long = ap length is ∙ length-map (triplets lower upper stride) (λ p. pos p.count)
            ∙ length-triplets rank lower upper stride a b c;
      }

-- one more count of a new section
pub new_step : (lower upper stride count : List ℤ) (k : ℕ) (d e f : ℤ) → k < length lower → k < length upper → k < length stride
    → k < length count
    → take (k + 1) (set count k (pos (triplet_count (get_or lower k d) (get_or upper k e) (get_or stride k f))))
    ++ whole_counts (triplets (drop (k + 1) lower) (drop (k + 1) upper) (drop (k + 1) stride)) ≡ take k count
    ++ whole_counts (triplets (drop k lower) (drop k upper) (drop k stride))
new_step lower upper stride count k d e f in_lower in_upper in_stride in_count =
    let here : ℤ = pos (triplet_count (get_or lower k d) (get_or upper k e) (get_or stride k f)) in
    let rest : List ℤ = whole_counts (triplets (drop (k + 1) lower) (drop (k + 1) upper) (drop (k + 1) stride)) in
    ap (λ xs. xs ++ rest) (take_more_set count k here in_count)
    ∙ append_assoc (take k count) (here ∷ []) rest
    ∙ ap (λ xs. take k count ++ whole_counts xs)
    (sym (ap (λ ls. triplets ls (drop k upper) (drop k stride)) (drop_more lower k d in_lower)
    ∙ ap (λ us. triplets (get_or lower k d ∷ drop (k + 1) lower) us (drop k stride)) (drop_more upper k e in_upper)
    ∙ ap (λ ss. triplets (get_or lower k d ∷ drop (k + 1) lower) (get_or upper k e ∷ drop (k + 1) upper) ss)
    (drop_more stride k f in_stride)))

pub new_end : (lower upper stride count : List ℤ) (k : ℕ) → length lower ≤ k → length count ≤ k
    → take k count ++ whole_counts (triplets (drop k lower) (drop k upper) (drop k stride)) ≡ count
new_end lower upper stride count k lower_done count_done =
    ap (λ ls. take k count ++ whole_counts (triplets ls (drop k upper) (drop k stride))) (drop_all k lower lower_done)
    ∙ append-nil (take k count) ∙ take_all k count count_done

-- ---- places

-- one more subscript of a place
pub place_step : (section : List Progression) (turns : List ℕ) (named : List ℤ) (k : ℕ) (p : Progression) → k < length section
    → k < length turns → k < length named
    → take (k + 1) (set named k (term_of (get_or section k p) (get_or turns k 0)))
    ++ place_named (drop (k + 1) section) (drop (k + 1) turns) ≡ take k named ++ place_named (drop k section) (drop k turns)
place_step section turns named k p in_section in_turns in_named =
    let here : ℤ = term_of (get_or section k p) (get_or turns k 0) in
    let rest : List ℤ = place_named (drop (k + 1) section) (drop (k + 1) turns) in
    ap (λ xs. xs ++ rest) (take_more_set named k here in_named)
    ∙ append_assoc (take k named) (here ∷ []) rest
    ∙ ap (λ xs. take k named ++ xs)
    (sym (ap (λ ps. place_named ps (drop k turns)) (drop_more section k p in_section)
    ∙ ap (λ ks. place_named (get_or section k p ∷ drop (k + 1) section) ks) (drop_more turns k 0 in_turns)))

pub place_end : (section : List Progression) (turns : List ℕ) (named : List ℤ) (k : ℕ) → length section ≤ k → length named ≤ k
    → take k named ++ place_named (drop k section) (drop k turns) ≡ named
place_end section turns named k section_done named_done =
    ap (λ ps. take k named ++ place_named ps (drop k turns)) (drop_all k section section_done) ∙ append-nil (take k named)
    ∙ take_all k named named_done

pub turn_at : (turns : List ℤ) (k : ℕ) (d : ℤ) → k < length turns → unsigned_abs (get_or turns k d) ≡ get_or (naturals turns) k 0
turn_at turns k d below = sym (get_or-map unsigned_abs turns k d 0 below)

pub turn_below : (extents turns : List ℕ) (k : ℕ) → IsPlace extents turns → k < length extents
    → get_or turns k 0 < get_or extents k 0
turn_below [] turns k h below = absurd (omega arith)
turn_below (e ∷ extents) [] k h below = absurd h
turn_below (e ∷ extents) (i ∷ turns) zero h below = h.0
turn_below (e ∷ extents) (i ∷ turns) (suc k) h below = turn_below extents turns k h.1 (omega arith)

pub count_at : (section : List Progression) (k : ℕ) (p : Progression) → k < length section
    → get_or (counts_of section) k 0 ≡ (get_or section k p).count
count_at section k p below = get_or-map (λ q. q.count) section k p 0 below

-- what the code reads of a turn is below the count
pub turn_fits : (section : List Progression) (turns : List ℤ) (k : ℕ) (p : Progression) (z : ℤ)
    → IsPlace (counts_of section) (naturals turns) → k < length section → k < length turns → p ≡ progression_at section k
    → z ≡ get_or turns k (pos 0) → unsigned_abs z < p.count
turn_fits section turns k p z within in_section in_turns p_is z_is =
    let less : get_or (naturals turns) k 0 < get_or (counts_of section) k 0 =
    turn_below (counts_of section) (naturals turns) k within (omega (arith, length-map section (λ q. q.count), in_section)) in
    omega (
      arith,
      less,
      count_at section k none in_section,
      turn_at turns k (pos 0) in_turns,
      ap (λ q. q.count) p_is,
      ap
          unsigned_abs z_is,
    )

-- ---- counts of 0

pub product_none : (a b : ℕ) → a * b ≡ 0 → a ≢ 0 → b ≡ 0
product_none a zero h some = refl
product_none a (suc b) h some =
    absurd (some (let least : a * 1 ≤ a * suc b = mul-le a 1 a (suc b) (omega arith) (omega arith) in omega arith))

pub one_none : (section : List Progression) (k : ℕ) → k < length section → get_or (counts_of section) k 0 ≡ 0
    → size_of (counts_of section) ≡ 0
one_none [] k below none = absurd (omega arith)
one_none (p ∷ section) zero below none = ap (λ n. n * size_of (counts_of section)) none ∙ omega arith
one_none (p ∷ section) (suc k) below none = ap (λ n. p.count * n) (one_none section k (omega arith) none) ∙ omega arith

pub none_later : (section : List Progression) (k : ℕ) (p : Progression) → k < length section
    → size_of (counts_of (drop k section)) ≡ 0 → (get_or section k p).count ≢ 0 → size_of (counts_of (drop (k + 1) section)) ≡ 0
none_later section k p below none some =
    product_none (get_or section k p).count (size_of (counts_of (drop (k + 1) section)))
    (ap (λ ps. size_of (counts_of ps)) (sym (drop_more section k p below)) ∙ none) some

pub none_at_the_end : (section : List Progression) (k : ℕ) → length section ≤ k → size_of (counts_of (drop k section)) ≡ 0 → ⊥
none_at_the_end section k done none =
    absurd (let one : size_of (counts_of (drop k section))
    ≡ 1 = ap (λ ps. size_of (counts_of ps)) (drop_all k section done) in omega (arith, one, none))

-- ---- numbers

place_inside : (rank : ℕ) (extents : List ℕ) (place : List ℤ) → IsWithin (replicate rank (pos 1)) (map pos extents) place
    → IsPlace extents (from_one place)
place_inside zero [] [] h = tt
place_inside zero [] (z ∷ place) h = absurd h
place_inside zero (e ∷ extents) place h = absurd h
place_inside (suc rank) [] place h = absurd h
place_inside (suc rank) (e ∷ extents) [] h = absurd h
place_inside (suc rank) (e ∷ extents) (z ∷ place) h = (omega (arith, ints, h.0.0, h.0.1), place_inside rank extents place h.1)

pub numbers_below : (rank : ℕ) (extents : List ℕ) (section : List Progression)
    → Every (IsWithin (replicate rank (pos 1)) (map pos extents)) (places_of section)
    → Every (λ n. n < size_of extents) (numbers_in extents section)
numbers_below rank extents section h =
    Every-map (λ n. n < size_of extents) (λ place. number_of extents (from_one place)) (places_of section)
    (Every-weaker (IsWithin (replicate rank (pos 1)) (map pos extents))
    (λ place. number_of extents (from_one place) < size_of extents)
    (λ place inside. number_below extents (from_one place) (place_inside rank extents place inside)) (places_of section) h)

same_subscript : (y z : ℤ) → pos 1 ≤ℤ y → pos 1 ≤ℤ z → unsigned_abs (y -ℤ pos 1) ≡ unsigned_abs (z -ℤ pos 1) → y ≡ z
same_subscript y z f g e = omega (arith, ints)

same_place : (rank : ℕ) (extents : List ℕ) (place other : List ℤ) → IsWithin (replicate rank (pos 1)) (map pos extents) place
    → IsWithin (replicate rank (pos 1)) (map pos extents) other → from_one place ≡ from_one other → place ≡ other
same_place zero [] [] [] f g e = refl
same_place zero [] [] (z ∷ other) f g e = absurd g
same_place zero [] (y ∷ place) other f g e = absurd f
same_place zero (n ∷ extents) place other f g e = absurd f
same_place (suc rank) [] place other f g e = absurd f
same_place (suc rank) (n ∷ extents) [] other f g e = absurd f
same_place (suc rank) (n ∷ extents) (y ∷ place) [] f g e = absurd g
same_place (suc rank) (n ∷ extents) (y ∷ place) (z ∷ other) f g e =
    let first : unsigned_abs (y -ℤ pos 1) ≡ unsigned_abs (z -ℤ pos 1) = cc in
    let later : from_one place ≡ from_one other = cc in
    ap (λ x. x ∷ place) (same_subscript y z f.0.0 g.0.0 first)
    ∙ ap (λ xs. z ∷ xs) (same_place rank extents place other f.1 g.1 later)

same_number : (rank : ℕ) (extents : List ℕ) (place other : List ℤ) → IsWithin (replicate rank (pos 1)) (map pos extents) place
    → IsWithin (replicate rank (pos 1)) (map pos extents) other
    → number_of extents (from_one place) ≡ number_of extents (from_one other) → place ≡ other
same_number rank extents place other f g e =
    same_place rank extents place other f g
    (sym (place_at-number_of extents (from_one place) (place_inside rank extents place f)) ∙ ap (place_at extents) e
    ∙ place_at-number_of extents (from_one other) (place_inside rank extents other g))

pub places_are_once : (section : List Progression) → Every IsProgression section
    → Pairwise (λ place later. place ≢ later) (places_of section)
places_are_once section each =
    places_once section (Every-weaker IsProgression (λ p. Pairwise (λ x y. x ≢ y) (subscripts_of p)) subscripts_once section
    each)

pub numbers_once : (rank : ℕ) (extents : List ℕ) (section : List Progression) → Every IsProgression section
    → Every (IsWithin (replicate rank (pos 1)) (map pos extents)) (places_of section)
    → Pairwise (λ n later. n ≢ later) (numbers_in extents section)
numbers_once rank extents section each h =
    Pairwise-map (λ n later. n ≢ later) (λ place. number_of extents (from_one place)) (places_of section)
    (Pairwise-weaker_on (IsWithin (replicate rank (pos 1)) (map pos extents)) (λ place later. place ≢ later)
    (λ place later. number_of extents (from_one place) ≢ number_of extents (from_one later))
    (λ place later f g apart. λ e. apart (same_number rank extents place later f g e)) (places_of section) h
    (places_are_once section each))
