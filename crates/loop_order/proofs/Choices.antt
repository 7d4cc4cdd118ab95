-- The greedy choice gives a legal order, and misses none.
use Rattle.std.proofs.Common.{◌≡◌, ◌⊎◌, ℕ, zero, suc, Bool, true, false, not, cond, eqb, ◌&&◌, ◌||◌, List, [], ◌∷◌, length, Option}
use Rattle.std.proofs.Common.{Some, None, refl, sym, ap, ◌∙◌, subst, inl, inr, arith}
use Rattle.std.specs.Prelude.{IsTrue, find, option_map, option_and_then}
use Rattle.std.specs.List.{list_any}
use Rattle.std.proofs.lemmas.Bool.{and_parts, and_cases, and_from, not-true, not_from_false, false≢true, both_ways, and_left}
use Rattle.std.proofs.lemmas.Bool.{and_right, cases_Bool, eq-eqb, ne_eqb, cases_eq, or_left, or_right}
use Rattle.a95_base.specs.Lists.{Every, Member, Permuted}
use Rattle.a95_base.specs.Lists.Permuted.{none, skip, swap, join}
use Rattle.a95_base.proofs.Lists.{Every-weaker, Every-both, Every-all}
use Rattle.a95_base.proofs.Permuted.{permuted_equal, permuted_back, Permuted-Member, Permuted-length}
use Rattle.std.proofs.lemmas.Option.{same_Some}
use Rattle.rank_shape.specs.declared.distance.Entry.{Entry}
use Rattle.rank_shape.specs.Order.{Level, loops_of}
use Rattle.loop_order.specs.declared.sign.Sign.{Sign}
use Rattle.loop_order.specs.declared.sign.Sign.TheVariants.{Unknown, Still, Up, Down}
use Rattle.loop_order.specs.Legal.{sign_at, meets, settles, IsLegal}
use Rattle.loop_order.specs.Choice.{is_unknown, is_still, is_up, is_down, some_entry, suits, unsettled, without, choice}
use Rattle.loop_order.proofs.Signs.{none_passes, some_fails, Every-filter, Every-from_filter}

-- ---- what a level that settles a distance says of its sign

known_sign : (sign : Sign) (down inner : Bool) → IsTrue (meets sign down inner) → is_unknown sign ≡ false
known_sign Unknown down inner t = absurd (false≢true t)
known_sign Still down inner t = refl
known_sign Up down inner t = refl
known_sign Down down inner t = refl

not_up : (sign : Sign) (down inner : Bool) → down ≡ false → IsTrue (meets sign down inner) → is_up sign ≡ false
not_up Unknown down inner is t = refl
not_up Still down inner is t = refl
not_up Up down inner is t = absurd (both_ways down is t)
not_up Down down inner is t = refl

not_down : (sign : Sign) (down inner : Bool) → down ≡ true → IsTrue (meets sign down inner) → is_down sign ≡ false
not_down Unknown down inner is t = refl
not_down Still down inner is t = refl
not_down Up down inner is t = refl
not_down Down down inner is t = absurd (both_ways down (not-true down t) is)

still_is : (sign : Sign) → is_still sign ≡ true → sign ≡ Still
still_is Unknown t = absurd (false≢true t)
still_is Still t = refl
still_is Up t = absurd (false≢true t)
still_is Down t = absurd (false≢true t)

level_settles : (sign : Sign) (down inner : Bool) → is_unknown sign ≡ false → (is_up sign ≡ true → down ≡ true) →
    (is_down sign ≡ true → down ≡ false) → (is_still sign ≡ true → IsTrue inner) → IsTrue (meets sign down inner)
level_settles Unknown down inner known up dn still = absurd (false≢true (sym known))
level_settles Still down inner known up dn still = still refl
level_settles Up down inner known up dn still = up refl
level_settles Down down inner known up dn still = not_from_false down (dn refl)

-- the outermost loop of a legal order suits
first_suits : (level : Level) (inner : List Level) (distances : List (List Entry)) → IsLegal (level ∷ inner) distances →
    suits level.number distances ≡ true
first_suits level inner distances legal =
    let known : some_entry is_unknown level.number distances ≡ false =
    some_fails (λ d. is_unknown (sign_at d level.number)) distances
    (Every-weaker (λ d. IsTrue (settles (level ∷ inner) d)) (λ d. is_unknown (sign_at d level.number) ≡ false)
    (λ d t. known_sign (sign_at d level.number) level.down (settles inner d) t) distances legal) in
    let one_way : (some_entry is_up level.number distances && some_entry is_down level.number distances) ≡ false =
    elim (cases_Bool level.down) [
      | inl is ↦
          and_right (some_entry is_up level.number distances) (some_entry is_down level.number distances)
          (some_fails (λ d. is_down (sign_at d level.number)) distances
          (Every-weaker (λ d. IsTrue (settles (level ∷ inner) d)) (λ d. is_down (sign_at d level.number) ≡ false)
          (λ d t. not_down (sign_at d level.number) level.down (settles inner d) is t) distances legal))
      | inr is ↦
          and_left (some_entry is_up level.number distances) (some_entry is_down level.number distances)
          (some_fails (λ d. is_up (sign_at d level.number)) distances
          (Every-weaker (λ d. IsTrue (settles (level ∷ inner) d)) (λ d. is_up (sign_at d level.number) ≡ false)
          (λ d t. not_up (sign_at d level.number) level.down (settles inner d) is t) distances legal))
    ] in
    and_from (not (some_entry is_unknown level.number distances))
    (not (some_entry is_up level.number distances && some_entry is_down level.number distances))
    (not_from_false (some_entry is_unknown level.number distances) known)
    (not_from_false (some_entry is_up level.number distances && some_entry is_down level.number distances) one_way)

-- ---- finding

at_head : (p : ℕ → Bool) (x : ℕ) (xs : List ℕ) (y : ℕ) (b : Bool) → p x ≡ b → cond b (Some x) (find p xs) ≡ None →
    ((find p xs ≡ None) → Member xs y → p y ≡ false) → Member (x ∷ xs) y → p y ≡ false
at_head p x xs y true is found later h = cc
at_head p x xs y false is found later (inl same) = ap p (sym same) ∙ is
at_head p x xs y false is found later (inr h) = later found h

find_none : (p : ℕ → Bool) (xs : List ℕ) (y : ℕ) → find p xs ≡ None → Member xs y → p y ≡ false
find_none p [] y is h = absurd h
find_none p (x ∷ xs) y is h = at_head p x xs y (p x) refl is (find_none p xs y) h

some_head : (p : ℕ → Bool) (x : ℕ) (xs : List ℕ) (y : ℕ) (b : Bool) → p x ≡ b → cond b (Some x) (find p xs) ≡ Some y →
    ((find p xs ≡ Some y) → (p y ≡ true) × Member xs y) → (p y ≡ true) × Member (x ∷ xs) y
some_head p x xs y true is found later = let same : x ≡ y = cc in (ap p (sym same) ∙ is, inl same)
some_head p x xs y false is found later = let r = later found in (r.0, inr r.1)

pub find_some : (p : ℕ → Bool) (xs : List ℕ) (y : ℕ) → find p xs ≡ Some y → (p y ≡ true) × Member xs y
find_some p [] y is = cc
find_some p (x ∷ xs) y is = some_head p x xs y (p x) refl is (find_some p xs y)

-- ---- a loop taken away

here : (x y : ℕ) (xs : List ℕ) → x ≡ y → without y (x ∷ xs) ≡ xs
here x y xs same = ap (λ b. cond b xs (x ∷ without y xs)) (eq-eqb x y same)

there : (x y : ℕ) (xs : List ℕ) → (x ≡ y → ⊥) → without y (x ∷ xs) ≡ x ∷ without y xs
there x y xs apart = ap (λ b. cond b xs (x ∷ without y xs)) (ne_eqb x y apart)

put_back : (xs : List ℕ) (y : ℕ) → Member xs y → Permuted xs (y ∷ without y xs)
put_back [] y h = absurd h
put_back (x ∷ xs) y h =
    elim (cases_eq x y) [
      | inl same ↦ permuted_equal (x ∷ xs) (y ∷ without y (x ∷ xs))
          (ap (λ z. z ∷ xs) same ∙ ap (λ zs. y ∷ zs) (sym (here x y xs same)))
      | inr apart ↦
          elim h [
            | inl same ↦ absurd (apart same)
            | inr later ↦
                join (skip x (put_back xs y later))
                (join (swap x y (without y xs))
                (permuted_equal (y ∷ (x ∷ without y xs)) (y ∷ without y (x ∷ xs))
                (ap (λ zs. y ∷ zs) (sym (there x y xs apart)))))
          ]
    ]

two : (a b : ℕ) (xs : List ℕ) (y : ℕ) → (a ≡ b → ⊥) → (a ≡ y) ⊎ (a ≡ y → ⊥) → (b ≡ y) ⊎ (b ≡ y → ⊥) →
    Permuted (without y (a ∷ b ∷ xs)) (without y (b ∷ a ∷ xs))
two a b xs y apart (inl a_is) (inl b_is) = absurd (apart (a_is ∙ sym b_is))
two a b xs y apart (inl a_is) (inr b_not) =
    permuted_equal (without y (a ∷ b ∷ xs)) (without y (b ∷ a ∷ xs))
    (here a y (b ∷ xs) a_is ∙ sym (there b y (a ∷ xs) b_not ∙ ap (λ zs. b ∷ zs) (here a y xs a_is)))
two a b xs y apart (inr a_not) (inl b_is) =
    permuted_equal (without y (a ∷ b ∷ xs)) (without y (b ∷ a ∷ xs))
    (there a y (b ∷ xs) a_not ∙ ap (λ zs. a ∷ zs) (here b y xs b_is) ∙ sym (here b y (a ∷ xs) b_is))
two a b xs y apart (inr a_not) (inr b_not) =
    join (permuted_equal (without y (a ∷ b ∷ xs)) (a ∷ (b ∷ without y xs))
    (there a y (b ∷ xs) a_not ∙ ap (λ zs. a ∷ zs) (there b y xs b_not)))
    (join (swap a b (without y xs))
    (permuted_equal (b ∷ (a ∷ without y xs)) (without y (b ∷ a ∷ xs))
    (sym (there b y (a ∷ xs) b_not ∙ ap (λ zs. b ∷ zs) (there a y xs a_not)))))

-- reorderings of one list stay so without one item
rest : {xs ys : List ℕ} (y : ℕ) → Permuted xs ys → Permuted (without y xs) (without y ys)
rest y none = none
rest y (skip x {xs = xs} {ys = ys} p) =
    elim (eqb x y) as (λ b. Permuted (cond b xs (x ∷ without y xs)) (cond b ys (x ∷ without y ys)))
    [ true ↦ p | false ↦ skip x (rest y p) ]
rest y (swap a b xs) =
    elim (cases_eq a b) [
      | inl same ↦ permuted_equal (without y (a ∷ b ∷ xs)) (without y (b ∷ a ∷ xs))
          (ap (λ z. without y (z ∷ b ∷ xs)) same ∙ ap (λ z. without y (b ∷ z ∷ xs)) (sym same))
      | inr apart ↦ two a b xs y apart (cases_eq a y) (cases_eq b y)
    ]
rest y (join p q) = join (rest y p) (rest y q)

-- the level of a loop taken out of an order
take_out : ℕ → List Level → List Level
take_out loop [] = []
take_out loop (level ∷ inner) = cond (eqb level.number loop) inner (level ∷ take_out loop inner)

take_out_loops : (loop : ℕ) (order : List Level) → loops_of (take_out loop order) ≡ without loop (loops_of order)
unfolding take_out
take_out_loops loop [] = refl
take_out_loops loop (level ∷ inner) =
    elim (eqb level.number loop)
    as (λ b. loops_of (cond b inner (level ∷ take_out loop inner))
    ≡ cond b (loops_of inner) (level.number ∷ without loop (loops_of inner))) [
      | true ↦ refl
      | false ↦ ap (λ ns. level.number ∷ ns) (take_out_loops loop inner)
    ]

inside : (sign : Sign) (down before after : Bool) → (IsTrue before → IsTrue after) → IsTrue (meets sign down before) →
    IsTrue (meets sign down after)
inside Unknown down before after f t = t
inside Still down before after f t = f t
inside Up down before after f t = t
inside Down down before after f t = t

-- a distance that a loop leaves open doesn't ask for it
settles_without : (loop : ℕ) (order : List Level) (d : List Entry) → sign_at d loop ≡ Still → IsTrue (settles order d) →
    IsTrue (settles (take_out loop order) d)
unfolding take_out
settles_without loop [] d still t = t
settles_without loop (level ∷ inner) d still t =
    elim (cases_eq level.number loop) [
      | inl same ↦
          let P : Bool → Type 0 = λ b. IsTrue (settles (cond b inner (level ∷ take_out loop inner)) d) in
          subst P (sym (eq-eqb level.number loop same))
          (let Q : Sign → Type 0 = λ s. IsTrue (meets s level.down (settles inner d)) in subst Q (ap (sign_at d) same ∙ still) t)
      | inr apart ↦
          let P : Bool → Type 0 = λ b. IsTrue (settles (cond b inner (level ∷ take_out loop inner)) d) in
          subst P (sym (ne_eqb level.number loop apart))
          (inside (sign_at d level.number) level.down (settles inner d) (settles (take_out loop inner) d)
          (settles_without loop inner d still) t)
    ]

legal_without : (loop : ℕ) (order : List Level) (distances : List (List Entry)) → IsLegal order distances →
    IsLegal (take_out loop order) (unsettled loop distances)
legal_without loop order distances legal =
    Every-weaker (λ d. IsTrue (settles order d) × (is_still (sign_at d loop) ≡ true))
    (λ d. IsTrue (settles (take_out loop order) d))
    (λ d known. settles_without loop order d (still_is (sign_at d loop) known.1) known.0) (unsettled loop distances)
    (Every-filter (λ d. IsTrue (settles order d)) (λ d. is_still (sign_at d loop)) distances legal)

-- ---- the choice

-- each item counts for the whole
each_counts : {A : Type 0} (p : A → Bool) (xs : List A) → Every (λ x. p x ≡ true → list_any p xs ≡ true) xs
each_counts p [] = tt
each_counts p (x ∷ xs) = (
  λ t. or_left (p x) (list_any p xs) t,
  Every-weaker (λ y. p y ≡ true → list_any p xs ≡ true)
      (λ y. p y ≡ true → (p x || list_any p xs) ≡ true) (λ y f t. or_right (p x) (list_any p xs) (f t)) xs
      (each_counts p xs),
)

-- a loop that suits, in the direction that its entries ask for, with loops inside it that settle what it leaves
suited_legal : (loop : ℕ) (inner : List Level) (distances : List (List Entry)) → suits loop distances ≡ true →
    IsLegal inner (unsettled loop distances) → IsLegal (record { number = loop; down = some_entry is_up loop distances } ∷ inner)
    distances
suited_legal loop inner distances suited legal =
    let parts = and_parts (not (some_entry is_unknown loop distances))
    (not (some_entry is_up loop distances && some_entry is_down loop distances)) suited in
    let known : Every (λ d. is_unknown (sign_at d loop) ≡ false) distances =
    none_passes (λ d. is_unknown (sign_at d loop)) distances (not-true (some_entry is_unknown loop distances) parts.0) in
    let up : Every (λ d. is_up (sign_at d loop) ≡ true → some_entry is_up loop distances ≡ true) distances =
    each_counts (λ d. is_up (sign_at d loop)) distances in
    let down : Every (λ d. is_down (sign_at d loop) ≡ true → some_entry is_up loop distances ≡ false) distances =
    elim (and_cases (some_entry is_up loop distances) (some_entry is_down loop distances)
    (not-true (some_entry is_up loop distances && some_entry is_down loop distances) parts.1)) [
      | inl no_up ↦ Every-all (λ d. is_down (sign_at d loop) ≡ true → some_entry is_up loop distances ≡ false) (λ d t. no_up)
          distances
      | inr no_down ↦
          Every-weaker (λ d. is_down (sign_at d loop) ≡ false)
          (λ d. is_down (sign_at d loop) ≡ true → some_entry is_up loop distances ≡ false)
          (λ d f t. absurd (both_ways (is_down (sign_at d loop)) f t)) distances
          (none_passes (λ d. is_down (sign_at d loop)) distances no_down)
    ] in
    let still : Every (λ d. is_still (sign_at d loop) ≡ true → IsTrue (settles inner d)) distances =
    Every-from_filter (λ d. IsTrue (settles inner d)) (λ d. is_still (sign_at d loop)) distances legal in
    Every-weaker
    (λ d. (is_unknown (sign_at d loop) ≡ false × (is_up (sign_at d loop) ≡ true → some_entry is_up loop distances ≡ true))
    × ((is_down (sign_at d loop) ≡ true → some_entry is_up loop distances ≡ false)
    × (is_still (sign_at d loop) ≡ true → IsTrue (settles inner d))))
    (λ d. IsTrue (settles (record { number = loop; down = some_entry is_up loop distances } ∷ inner) d))
    (λ d all. level_settles (sign_at d loop) (some_entry is_up loop distances) (settles inner d) all.0.0 all.0.1 all.1.0 all.1.1)
    distances
    (Every-both
    (λ d. is_unknown (sign_at d loop) ≡ false × (is_up (sign_at d loop) ≡ true → some_entry is_up loop distances ≡ true))
    (λ d. (is_down (sign_at d loop) ≡ true → some_entry is_up loop distances ≡ false)
    × (is_still (sign_at d loop) ≡ true → IsTrue (settles inner d))) distances
    (Every-both (λ d. is_unknown (sign_at d loop) ≡ false)
    (λ d. is_up (sign_at d loop) ≡ true → some_entry is_up loop distances ≡ true) distances known up)
    (Every-both (λ d. is_down (sign_at d loop) ≡ true → some_entry is_up loop distances ≡ false)
    (λ d. is_still (sign_at d loop) ≡ true → IsTrue (settles inner d)) distances down still))

-- what the choice gives names the loops left, and is legal
pub record IsSuited (left : List ℕ) (distances : List (List Entry)) (order : List Level) : Type 0 where
  pub legal : IsLegal order distances
  pub named : Permuted (loops_of order) left

left_shorter : (left : List ℕ) (loop n : ℕ) → length left ≡ suc n → Member left loop → length (without loop left) ≡ n
left_shorter left loop n long has = let both = Permuted-length (put_back left loop has) in omega arith

after_first : (left : List ℕ) (distances : List (List Entry)) (order : List Level) (n loop : ℕ) → length left ≡ suc n →
    ((l : List ℕ) (ds : List (List Entry)) (o : List Level) → length l ≡ n → choice n l ds ≡ Some o → IsSuited l ds o) →
    (suits loop distances ≡ true) → Member left loop → (others : Option (List Level)) →
    choice n (without loop left) (unsettled loop distances) ≡ others →
    option_map (λ inner. record { number = loop; down = some_entry is_up loop distances } ∷ inner) others ≡ Some order →
    IsSuited left distances order
after_first left distances order n loop long later suited has None found is = cc
after_first left distances order n loop long later suited has (Some inner) found is =
    let inside = later (without loop left) (unsettled loop distances) inner (left_shorter left loop n long has) found in
    let P : List Level → Type 0 = λ o. IsSuited left distances o in
    subst P (same_Some (record { number = loop; down = some_entry is_up loop distances } ∷ inner) order is)
    (record {
      legal = suited_legal loop inner distances suited inside.legal;
      named = join (skip loop inside.named) (permuted_back (put_back left loop has));
    })

first : (left : List ℕ) (distances : List (List Entry)) (order : List Level) (n : ℕ) → length left ≡ suc n →
    ((l : List ℕ) (ds : List (List Entry)) (o : List Level) → length l ≡ n → choice n l ds ≡ Some o → IsSuited l ds o) →
    (found : Option ℕ) → find (λ loop. suits loop distances) left ≡ found →
    option_and_then
    (λ loop. option_map (λ inner. record { number = loop; down = some_entry is_up loop distances } ∷ inner)
    (choice n (without loop left) (unsettled loop distances))) found ≡ Some order → IsSuited left distances order
first left distances order n long later None found is = cc
first left distances order n long later (Some loop) found is =
    let known = find_some (λ l. suits l distances) left loop found in
    after_first left distances order n loop long later known.0 known.1 (choice n (without loop left) (unsettled loop distances))
    refl is

pub choice_legal : (n : ℕ) (left : List ℕ) (distances : List (List Entry)) (order : List Level) → length left ≡ n →
    choice n left distances ≡ Some order → IsSuited left distances order
choice_legal zero [] distances order long is =
    let P : List Level → Type 0 = λ o. IsSuited [] distances o in
    subst P (same_Some [] order is) (record { legal = Every-all (λ d. IsTrue true) (λ d. refl) distances; named = none })
choice_legal zero (x ∷ left) distances order long is = absurd (omega arith)
choice_legal (suc n) left distances order long is = first left distances order n long (λ l ds o. choice_legal n l ds o)
    (find (λ loop. suits loop distances) left) refl is

no_inner : (order : List Level) (left : List ℕ) (distances : List (List Entry)) (n loop : ℕ) → length left ≡ suc n →
    Permuted (loops_of order) left → IsLegal order distances →
    ((l : List ℕ) (ds : List (List Entry)) → length l ≡ n → choice n l ds ≡ None → (o : List Level) → Permuted (loops_of o) l →
    IsLegal o ds → ⊥) → Member left loop → (others : Option (List Level)) → choice n (without loop left) (unsettled loop distances)
    ≡ others → option_map (λ inner. record { number = loop; down = some_entry is_up loop distances } ∷ inner) others ≡ None → ⊥
no_inner order left distances n loop long named legal later has (Some inner) found is = cc
no_inner order left distances n loop long named legal later has None found is =
    later (without loop left) (unsettled loop distances) (left_shorter left loop n long has) found (take_out loop order)
    (let P : List ℕ → Type 0 = λ ns. Permuted ns (without loop left) in subst P (sym (take_out_loops loop order)) (rest loop named))
    (legal_without loop order distances legal)

no_first : (left : List ℕ) (distances : List (List Entry)) (level : Level) (inner : List Level) (n : ℕ) → length left ≡ suc n →
    Permuted (loops_of (level ∷ inner)) left → IsLegal (level ∷ inner) distances →
    ((l : List ℕ) (ds : List (List Entry)) → length l ≡ n → choice n l ds ≡ None → (o : List Level) → Permuted (loops_of o) l →
    IsLegal o ds → ⊥) → (found : Option ℕ) → find (λ loop. suits loop distances) left ≡ found →
    option_and_then
    (λ loop. option_map (λ inner. record { number = loop; down = some_entry is_up loop distances } ∷ inner)
    (choice n (without loop left) (unsettled loop distances))) found ≡ None → ⊥
no_first left distances level inner n long named legal later None found is =
    both_ways (suits level.number distances)
    (find_none (λ l. suits l distances) left level.number found (Permuted-Member level.number named (inl refl)))
    (first_suits level inner distances legal)
no_first left distances level inner n long named legal later (Some loop) found is =
    let known = find_some (λ l. suits l distances) left loop found in
    no_inner (level ∷ inner) left distances n loop long named legal later known.1
    (choice n (without loop left) (unsettled loop distances)) refl is

-- where the choice gives up, no order of the loops left is legal
pub choice_none : (n : ℕ) (left : List ℕ) (distances : List (List Entry)) → length left ≡ n → choice n left distances ≡ None →
    (order : List Level) → Permuted (loops_of order) left → IsLegal order distances → ⊥
choice_none zero left distances long is order named legal = cc
choice_none (suc n) left distances long is [] named legal = let lengths = Permuted-length named in omega arith
choice_none (suc n) left distances long is (level ∷ inner) named legal =
    no_first left distances level inner n long named legal
    (λ l ds long' none' order' named' legal'. choice_none n l ds long' none' order' named' legal')
    (find (λ loop. suits loop distances) left) refl is
