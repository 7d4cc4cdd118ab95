-- The test for elements stored into twice, behind the stores, ends as the one before them.
use Rattle.std.proofs.Common.{◌≡◌, ◌≢◌, ◌==◌, ◌||◌, ℕ, Bool, true, false, List, [], ◌∷◌, ◌++◌, length, Result, Ok, refl, sym, ap}
use Rattle.std.proofs.Common.{◌∙◌, subst, inl, inr, append_assoc, arith}
use Rattle.std.specs.List.{list_any}
use Rattle.std.proofs.lemmas.List.{append-nil}
use Rattle.std.proofs.lemmas.List.Folds.{list_any-append}
use Rattle.std.proofs.lemmas.Bool.{cases_Bool, or_left, or_right}
use Rattle.a95_base.specs.Lists.{Every, Pairwise, Permuted}
use Rattle.a95_base.specs.Lists.Permuted.{none, skip, swap, join}
use Rattle.a95_base.proofs.Lists.{Every-weaker, Pairwise-weaker_on}
use Rattle.a95_base.proofs.Permuted.{permuted_equal, Permuted-append_left, Permuted-append_right, Permuted-append_turned}
use Rattle.a95_base.proofs.Permuted.{Permuted-Every, Permuted-Pairwise}
use Rattle.a95_base.proofs.Tests.{or-false, equals_turned, or_swapped, or_crossed}
use Rattle.rank_shape.specs.Shape.{IsPlace}
use Rattle.rank_shape.specs.Order.{Level, IsOrder, element_order_of}
use Rattle.rank_shape.specs.Walk.{tour}
use Rattle.rank_shape.proofs.Orders.{element_is_order}
use Rattle.rank_shape.proofs.Reorders.{order_whole}
use Rattle.rank_shape.specs.declared.distance.Entry.{Entry}
use Rattle.loop_order.specs.Legal.{IsLegal}
use Rattle.store_laws.specs.Store.{and_then, Evaluated, Statement, values, store_all, deferred, Keeps, Ignores, IsStill, StopsAlike}
use Rattle.store_laws.specs.Store.{Temporary, filling, store_kept, IsKeptApart, KeepsOther}
use Rattle.store_laws.specs.Legal.{IsTold, KeepsPlaces}
use Rattle.store_laws.specs.ManyOne.{is_among, stands_twice, elements_of, unless, tested, tested_behind, tested_between, TellsTwice}
use Rattle.store_laws.specs.ManyOne.{Marks, KeepsMarks, IsUnmarked, CommutesApart, IsFreeOnce}
use Rattle.store_laws.proofs.StoreLaws.{then_then, then_same, either_order, direct_deferred}
use Rattle.store_laws.proofs.TemporaryLaws.{MayAll, reached, ok_is, values_same, values_known, all_kept}
use Rattle.store_laws.proofs.LegalLaws.{join_back, places_keep, legal_direct}

-- ---- elements in another order

any_permuted : {A : Type 0} (test : A → Bool) {xs ys : List A} → Permuted xs ys → list_any test xs ≡ list_any test ys
any_permuted test none = refl
any_permuted test (skip x p) = ap (λ b. test x || b) (any_permuted test p)
any_permuted test (swap x y xs) = or_swapped (test x) (test y) (list_any test xs)
any_permuted test (join p q) = any_permuted test p ∙ any_permuted test q

twice_permuted : {xs ys : List ℕ} → Permuted xs ys → stands_twice xs ≡ stands_twice ys
twice_permuted none = refl
twice_permuted (skip x {xs = xs} {ys = ys} p) = ap (λ b. b || stands_twice xs) (any_permuted (λ other. x == other) p)
    ∙ ap (λ b. is_among x ys || b) (twice_permuted p)
twice_permuted (swap x y zs) =
    ap (λ b. (b || is_among x zs) || (is_among y zs || stands_twice zs)) (equals_turned x y)
    ∙ or_crossed (y == x) (is_among x zs) (is_among y zs) (stands_twice zs)
twice_permuted (join p q) = twice_permuted p ∙ twice_permuted q

-- more elements, before or behind
any_left : {A : Type 0} (test : A → Bool) (xs ys : List A) → list_any test xs ≡ true → list_any test (xs ++ ys) ≡ true
any_left test xs ys holds = list_any-append test xs ys ∙ or_left (list_any test xs) (list_any test ys) holds

twice_behind_others : (xs ys : List ℕ) → stands_twice ys ≡ true → stands_twice (xs ++ ys) ≡ true
twice_behind_others [] ys twice = twice
twice_behind_others (x ∷ xs) ys twice = or_right (is_among x (xs ++ ys)) (stands_twice (xs ++ ys)) (twice_behind_others xs ys twice)

twice_before_others : (xs ys : List ℕ) → stands_twice xs ≡ true → stands_twice (xs ++ ys) ≡ true
twice_before_others xs ys twice = twice_permuted (Permuted-append_turned xs ys) ∙ twice_behind_others ys xs twice

moved_past : (xs ys zs : List ℕ) → Permuted (xs ++ (ys ++ zs)) (ys ++ (xs ++ zs))
moved_past xs ys zs =
    join (permuted_equal (xs ++ (ys ++ zs)) ((xs ++ ys) ++ zs) (sym (append_assoc xs ys zs)))
    (join (Permuted-append_right zs (Permuted-append_turned xs ys))
    (permuted_equal ((ys ++ xs) ++ zs) (ys ++ (xs ++ zs)) (append_assoc ys xs zs)))

-- all values are taken in one state, and stored one by one into another; the elements stored into are gathered
ending : {T S V F : Type 0} → Statement T S V F → (T → V → List ℕ) → F → List T → S → S → List ℕ → Result S F
ending statement elements fault [] s base seen = unless (stands_twice seen) fault base
ending statement elements fault (turn ∷ turns) s base seen =
    and_then (statement.evaluate turn s)
    (λ e. ending statement elements fault turns s (statement.store turn e.value base) (elements turn e.value ++ seen))

module _ {T S V F : Type 0} (statement : Statement T S V F) (elements : T → V → List ℕ) (fault : F) (Sound : S → Type 0)
    (May : T → V → Type 0) where
  -- what stops the run after the stores leaves no state behind
  deferred_tested : (twice : S → Bool) (turns : List T) (s : S) → TellsTwice statement elements twice turns s →
      and_then (deferred statement turns s) (λ stored. unless (twice stored) fault stored) ≡ tested statement elements fault turns s
  deferred_tested twice turns s tells =
      let check : S → Result S F = λ stored. unless (twice stored) fault stored in
      let put : Evaluated (List V) S → Result S F = λ es. Ok (store_all statement turns es.value es.after) in
      then_then (values statement turns s) put check
      ∙ then_same (values statement turns s) (λ es. and_then (put es) check)
      (λ es. unless (stands_twice (elements_of elements turns es.value)) fault (store_all statement turns es.value es.after))
      (λ es is. ap (λ b. unless b fault (store_all statement turns es.value es.after)) (tells.told es is))

  pub behind_is_before : (twice : S → Bool) (turns : List T) (s : S) → Every (Keeps statement Sound May) turns →
      Pairwise (Ignores statement Sound May) turns → TellsTwice statement elements twice turns s → Sound s →
      tested_behind statement twice fault turns s ≡ tested statement elements fault turns s
  behind_is_before twice turns s keeps ignores tells sound =
      ap (λ r. and_then r (λ stored. unless (twice stored) fault stored))
      (direct_deferred statement Sound May turns s keeps ignores sound)
      ∙ deferred_tested twice turns s tells

  -- evaluations that leave the state alone may be taken in the state where all began
  tested_ending : (turns : List T) (s : S) (into : S → S) (seen : List ℕ) → Sound s → Every (IsStill statement Sound) turns →
      and_then (values statement turns s)
      (λ es. unless (stands_twice (elements_of elements turns es.value ++ seen)) fault
      (store_all statement turns es.value (into es.after))) ≡ ending statement elements fault turns s (into s) seen
  unfolding ending
  tested_ending [] s into seen sound still = refl
  tested_ending (t ∷ turns) s into seen sound still =
      let go : Evaluated V S → Result (Evaluated (List V) S) F =
      λ e. and_then (values statement turns e.after) (λ es. Ok (record { value = e.value ∷ es.value; after = es.after })) in
      let whole : Evaluated (List V) S → Result S F = λ es. unless
      (stands_twice (elements_of elements (t ∷ turns) es.value ++ seen)) fault
      (store_all statement (t ∷ turns) es.value (into es.after)) in
      then_then (statement.evaluate t s) go whole
      ∙ then_same (statement.evaluate t s) (λ e. and_then (go e) whole)
      (λ e. ending statement elements fault turns s (statement.store t e.value (into s)) (elements t e.value ++ seen))
      (λ e is.
      let same : e.after ≡ s = still.0.after s e sound is in
      let rest : Evaluated (List V) S → Result S F = λ es. unless
      (stands_twice (elements_of elements turns es.value ++ (elements t e.value ++ seen))) fault
      (store_all statement turns es.value (statement.store t e.value (into es.after))) in
      then_then (values statement turns e.after) (λ es. Ok (record { value = e.value ∷ es.value; after = es.after })) whole
      ∙ then_same (values statement turns e.after) (λ es. whole (record { value = e.value ∷ es.value; after = es.after })) rest
      (λ es es_is. ap (λ b. unless b fault (store_all statement turns es.value (statement.store t e.value (into es.after))))
      (ap stands_twice (append_assoc (elements t e.value) (elements_of elements turns es.value) seen)
      ∙ twice_permuted (moved_past (elements t e.value) (elements_of elements turns es.value) seen)))
      ∙ tested_ending turns e.after (λ x. statement.store t e.value (into x)) (elements t e.value ++ seen)
      (subst Sound (sym same) sound) still.1
      ∙ ap (λ x. ending statement elements fault turns x (statement.store t e.value (into x)) (elements t e.value ++ seen)) same)

  tested_is_ending : (turns : List T) (s : S) → Sound s → Every (IsStill statement Sound) turns →
      tested statement elements fault turns s ≡ ending statement elements fault turns s s []
  tested_is_ending turns s sound still =
      then_same (values statement turns s)
      (λ es. unless (stands_twice (elements_of elements turns es.value)) fault (store_all statement turns es.value es.after))
      (λ es. unless (stands_twice (elements_of elements turns es.value ++ [])) fault
      (store_all statement turns es.value es.after))
      (λ es is. ap (λ els. unless (stands_twice els) fault (store_all statement turns es.value es.after))
      (sym (append-nil (elements_of elements turns es.value))))
      ∙ tested_ending turns s (λ x. x) [] sound still

  -- once an element stands twice, nobody sees what was stored
  ending_unseen : (turns : List T) (s base other : S) (seen seen_too : List ℕ) → stands_twice seen ≡ true → stands_twice seen_too
      ≡ true → ending statement elements fault turns s base seen ≡ ending statement elements fault turns s other seen_too
  unfolding ending
  ending_unseen [] s base other seen seen_too twice twice_too = ap (λ b. unless b fault base) twice
      ∙ sym (ap (λ b. unless b fault other) twice_too)
  ending_unseen (t ∷ turns) s base other seen seen_too twice twice_too =
      then_same (statement.evaluate t s)
      (λ e. ending statement elements fault turns s (statement.store t e.value base) (elements t e.value ++ seen))
      (λ e. ending statement elements fault turns s (statement.store t e.value other) (elements t e.value ++ seen_too))
      (λ e is. ending_unseen turns s (statement.store t e.value base) (statement.store t e.value other) (elements t e.value ++ seen)
      (elements t e.value ++ seen_too)
      (twice_behind_others (elements t e.value) seen twice) (twice_behind_others (elements t e.value) seen_too twice_too))

  ending_reordered : (turns : List T) (s base : S) {seen other : List ℕ} → Permuted seen other →
      ending statement elements fault turns s base seen ≡ ending statement elements fault turns s base other
  unfolding ending
  ending_reordered [] s base p = ap (λ b. unless b fault base) (twice_permuted p)
  ending_reordered (t ∷ turns) s base {seen} {other} p =
      then_same (statement.evaluate t s)
      (λ e. ending statement elements fault turns s (statement.store t e.value base) (elements t e.value ++ seen))
      (λ e. ending statement elements fault turns s (statement.store t e.value base) (elements t e.value ++ other))
      (λ e is. ending_reordered turns s (statement.store t e.value base) (Permuted-append_left (elements t e.value) p))

  ending_permuted : {xs ys : List T} (s base : S) (seen : List ℕ) → Permuted xs ys → Sound s → Sound base →
      Every (Keeps statement Sound May) xs → Pairwise (CommutesApart statement elements Sound May) xs →
      Pairwise (StopsAlike statement s) xs → ending statement elements fault xs s base seen
      ≡ ending statement elements fault ys s base seen
  unfolding ending
  ending_permuted s base seen none sound base_sound keeps commutes alike = refl
  ending_permuted s base seen (skip t {xs = xs} {ys = ys} p) sound base_sound keeps commutes alike =
      then_same (statement.evaluate t s)
      (λ e. ending statement elements fault xs s (statement.store t e.value base) (elements t e.value ++ seen))
      (λ e. ending statement elements fault ys s (statement.store t e.value base) (elements t e.value ++ seen))
      (λ e is. ending_permuted s (statement.store t e.value base) (elements t e.value ++ seen) p sound
      (keeps.0.stored e.value base base_sound (keeps.0.evaluated s e sound is).1) keeps.1 commutes.1 alike.1)
  ending_permuted s base seen (swap x y zs) sound base_sound keeps commutes alike =
      either_order (statement.evaluate x s) (statement.evaluate y s)
      (λ e d. ending statement elements fault zs s (statement.store y d.value (statement.store x e.value base))
      (elements y d.value ++ (elements x e.value ++ seen)))
      (λ d e. ending statement elements fault zs s (statement.store x e.value (statement.store y d.value base))
      (elements x e.value ++ (elements y d.value ++ seen)))
      (λ e d e_is d_is.
      let one : S = statement.store y d.value (statement.store x e.value base) in
      let two : S = statement.store x e.value (statement.store y d.value base) in
      let first : List ℕ = elements x e.value in
      let second : List ℕ = elements y d.value in
      elim (cases_Bool (stands_twice (first ++ second))) [
        | inl twice ↦
            let seen_too : stands_twice (first ++ (second ++ seen)) ≡ true = ap stands_twice (sym (append_assoc first second seen))
            ∙ twice_before_others (first ++ second) seen twice in
            ending_unseen zs s one two (second ++ (first ++ seen)) (first ++ (second ++ seen))
            (twice_permuted (moved_past second first seen) ∙ seen_too) seen_too
        | inr once ↦
            ap (λ b. ending statement elements fault zs s b (second ++ (first ++ seen)))
            (sym (commutes.0.0.same e.value d.value base base_sound (keeps.0.evaluated s e sound e_is).1
            (keeps.1.0.evaluated s d sound d_is).1 once))
            ∙ ending_reordered zs s two (moved_past second first seen)
      ])
      (λ stop other x_is y_is. alike.0.0.same stop other x_is y_is)
  ending_permuted s base seen (join p q) sound base_sound keeps commutes alike =
      ending_permuted s base seen p sound base_sound keeps commutes alike
      ∙ ending_permuted s base seen q sound base_sound (Permuted-Every (Keeps statement Sound May) p keeps)
      (Permuted-Pairwise (CommutesApart statement elements Sound May)
      (λ a b c. record {
        same = λ v w x x_sound may_v may_w apart. sym
            (c.same w v x x_sound may_w may_v (twice_permuted (Permuted-append_turned (elements a w) (elements b v)) ∙ apart));
      }) p
      commutes)
      (Permuted-Pairwise (StopsAlike statement s) (λ a b c. record { same = λ f g f_is g_is. sym (c.same g f g_is f_is) }) p alike)

  pub tested_permuted : {xs ys : List T} (s : S) → Permuted xs ys → Sound s → Every (Keeps statement Sound May) xs →
      Every (IsStill statement Sound) xs → Pairwise (CommutesApart statement elements Sound May) xs →
      Pairwise (StopsAlike statement s) xs → tested statement elements fault xs s ≡ tested statement elements fault ys s
  tested_permuted {xs} {ys} s p sound keeps still commutes alike =
      tested_is_ending xs s sound still
      ∙ ending_permuted s s [] p sound sound keeps commutes alike
      ∙ sym (tested_is_ending ys s sound (Permuted-Every (IsStill statement Sound) p still))

module _ {S V F : Type 0} (statement : Statement (List ℕ) S V F) (elements : List ℕ → V → List ℕ) (fault : F) (Sound : S → Type 0)
    (May : List ℕ → V → Type 0) (rank : ℕ) (extents : List ℕ) (order : List Level) where
  pub legal_tested : (twice : S → Bool) (distances : List (List Entry)) (s : S) → length extents ≡ rank → IsOrder rank order →
      IsLegal order distances → IsTold statement Sound May extents distances → KeepsPlaces statement Sound May extents →
      IsFreeOnce statement elements Sound May extents s → TellsTwice statement elements twice (tour order extents) s → Sound s →
      tested_behind statement twice fault (tour order extents) s
      ≡ tested statement elements fault (tour (element_order_of rank) extents) s
  legal_tested twice distances s long holds legal known keeps free tells sound =
      let whole = order_whole rank extents order long holds in
      let natural = order_whole rank extents (element_order_of rank) long (element_is_order rank) in
      ap (λ r. and_then r (λ stored. unless (twice stored) fault stored))
      (legal_direct statement Sound May rank extents order distances s long holds legal known keeps sound)
      ∙ deferred_tested statement elements fault Sound May twice (tour order extents) s tells
      ∙ tested_permuted statement elements fault Sound May s
      (join_back (tour order extents) (tour (element_order_of rank) extents) whole.reordered natural.reordered) sound
      (places_keep statement Sound May rank extents order long holds keeps)
      (Every-weaker (IsPlace extents) (IsStill statement Sound) (λ place inside. free.still place inside) (tour order extents)
      whole.within)
      (Pairwise-weaker_on (IsPlace extents) (λ a b. a ≢ b) (CommutesApart statement elements Sound May)
      (λ a b a_in b_in apart. free.commutes a b a_in b_in apart) (tour order extents) whole.within whole.once)
      (Pairwise-weaker_on (IsPlace extents) (λ a b. a ≢ b) (StopsAlike statement s)
      (λ a b a_in b_in apart. free.stops_alike a b a_in b_in) (tour order extents) whole.within whole.once)

-- ---- marks

or_among : (a b c d e : Bool) → ((a || b) || (c || (d || e))) ≡ ((b || c) || ((a || d) || e))
or_among a b c d e = grind arith

or_marked : (p q r h w z : Bool) → ((p || q) || (r || (h || (w || z)))) ≡ ((h || q) || ((p || (w || r)) || z))
or_marked p q r h w z = grind arith

any_none : {A : Type 0} (test : A → Bool) → ((x : A) → test x ≡ false) → (xs : List A) → list_any test xs ≡ false
any_none test never [] = refl
any_none test never (x ∷ xs) = ap (λ b. b || list_any test xs) (never x) ∙ any_none test never xs

any_either : {A : Type 0} (test one other : A → Bool) → ((x : A) → test x ≡ (one x || other x)) → (xs : List A) →
    list_any test xs ≡ (list_any one xs || list_any other xs)
any_either test one other is [] = refl
any_either test one other is (x ∷ xs) =
    ap (λ b. b || list_any test xs) (is x)
    ∙ ap (λ b. (one x || other x) || b) (any_either test one other is xs)
    ∙ or_crossed (one x) (other x) (list_any one xs) (list_any other xs)

any_agree : {A : Type 0} (test other : A → Bool) → ((x : A) → test x ≡ other x) → (xs : List A) →
    list_any test xs ≡ list_any other xs
any_agree test other is [] = refl
any_agree test other is (x ∷ xs) = ap (λ b. b || list_any test xs) (is x) ∙ ap (λ b. other x || b) (any_agree test other is xs)

-- of two lists end to end, an element of the second is among the first, or one stands twice in the one or the other
twice_append : (xs ys : List ℕ) → stands_twice (xs ++ ys)
    ≡ (list_any (λ y. is_among y xs) ys || (stands_twice xs || stands_twice ys))
twice_append [] ys = sym (ap (λ b. b || stands_twice ys) (any_none (λ y. false) (λ y. refl) ys))
twice_append (x ∷ xs) ys =
    let among : Bool = list_any (λ y. is_among y xs) ys in
    ap (λ b. b || stands_twice (xs ++ ys)) (list_any-append (λ other. x == other) xs ys)
    ∙ ap (λ b. (is_among x xs || is_among x ys) || b) (twice_append xs ys)
    ∙ or_among (is_among x xs) (is_among x ys) among (stands_twice xs) (stands_twice ys)
    ∙ ap (λ b. (b || among) || ((is_among x xs || stands_twice xs) || stands_twice ys))
    (any_agree (λ other. x == other) (λ other. other == x) (equals_turned x) ys)
    ∙ sym (ap (λ b. b || ((is_among x xs || stands_twice xs) || stands_twice ys))
    (any_either (λ y. is_among y (x ∷ xs)) (λ y. y == x) (λ y. is_among y xs) (λ y. refl) ys))

module _ {T S V F : Type 0} (statement : Statement T S V F) (elements : T → V → List ℕ) (marks : Marks S) (Sound : S → Type 0)
    (May : T → V → Type 0) where
  -- behind all stores, an element had its mark before or stands twice
  twice_behind : (turns : List T) (vs : List V) (s : S) → Every (Keeps statement Sound May) turns →
      Every (KeepsMarks statement elements marks Sound May) turns → MayAll May turns vs → Sound s →
      marks.twice (store_all statement turns vs s)
      ≡ (list_any (marks.marked s) (elements_of elements turns vs)
      || (stands_twice (elements_of elements turns vs) || marks.twice s))
  twice_behind [] [] s keeps marking may sound = refl
  twice_behind [] (v ∷ vs) s keeps marking may sound = absurd may
  twice_behind (t ∷ turns) [] s keeps marking may sound = absurd may
  twice_behind (t ∷ turns) (v ∷ vs) s keeps marking may sound =
      let here : List ℕ = elements t v in
      let later : List ℕ = elements_of elements turns vs in
      let next : S = statement.store t v s in
      let among : Bool = list_any (λ other. is_among other here) later in
      twice_behind turns vs next keeps.1 marking.1 may.1 (keeps.0.stored v s sound may.0)
      ∙ ap (λ b. b || (stands_twice later || marks.twice next))
      (any_either (marks.marked next) (λ other. is_among other here) (marks.marked s)
      (λ other. marking.0.marked v s other sound may.0) later)
      ∙ ap (λ b. (among || list_any (marks.marked s) later) || (stands_twice later || b)) (marking.0.again v s sound may.0)
      ∙ or_marked among (list_any (marks.marked s) later) (stands_twice later) (list_any (marks.marked s) here) (stands_twice here)
      (marks.twice s)
      ∙ sym (ap (λ b. b || (stands_twice (here ++ later) || marks.twice s)) (list_any-append (marks.marked s) here later)
      ∙ ap (λ b. (list_any (marks.marked s) here || list_any (marks.marked s) later) || (b || marks.twice s))
      (twice_append here later))

  -- evaluations leave the marks alone
  values_unmarked : (turns : List T) (s : S) (es : Evaluated (List V) S) → Every (Keeps statement Sound May) turns →
      Every (KeepsMarks statement elements marks Sound May) turns → Sound s → IsUnmarked marks s → values statement turns s ≡ Ok es
      → IsUnmarked marks es.after
  values_unmarked [] s es keeps marking sound unmarked is =
      let P : Evaluated (List V) S → Type 0 = λ x. IsUnmarked marks x.after in
      subst P (ok_is (record { value = []; after = s }) es is) unmarked
  values_unmarked (t ∷ turns) s es keeps marking sound unmarked is =
      let one =
      reached (statement.evaluate t s)
      (λ e. and_then (values statement turns e.after) (λ es. Ok (record { value = e.value ∷ es.value; after = es.after }))) es
      is in
      let rest = reached (values statement turns one.0.after)
      (λ others. Ok (record { value = one.0.value ∷ others.value; after = others.after })) es one.1.1 in
      let P : Evaluated (List V) S → Type 0 = λ x. IsUnmarked marks x.after in
      subst P (ok_is (record { value = one.0.value ∷ rest.0.value; after = rest.0.after }) es rest.1.1)
      (values_unmarked turns one.0.after rest.0 keeps.1 marking.1 (keeps.0.evaluated s one.0 sound one.1.0).0
      (record {
        marked = λ other. marking.0.left_marked s one.0 other sound one.1.0 ∙ unmarked.marked other;
        twice = marking.0.left_twice s one.0 sound one.1.0 ∙ unmarked.twice;
      }) rest.1.0)

  pub marks_tell : (turns : List T) (s : S) → Every (Keeps statement Sound May) turns →
      Every (KeepsMarks statement elements marks Sound May) turns → IsUnmarked marks s → Sound s →
      TellsTwice statement elements marks.twice turns s
  marks_tell turns s keeps marking unmarked sound = record {
    told = λ es is.
        let known = values_known statement Sound May turns s es keeps sound is in
        let none : IsUnmarked marks es.after = values_unmarked turns s es keeps marking sound unmarked is in
        let stored : List ℕ = elements_of elements turns es.value in
        twice_behind turns es.value es.after keeps marking known.0 known.1
        ∙ ap (λ b. b || (stands_twice stored || marks.twice es.after)) (any_none (marks.marked es.after) none.marked stored)
        ∙ ap (λ b. stands_twice stored || b) none.twice
        ∙ or-false (stands_twice stored);
  }

-- ---- the test between two loops

unless_then : {S F : Type 0} (b : Bool) (fault : F) (s : S) (go : S → S) → and_then (unless b fault s) (λ x. Ok (go x))
    ≡ unless b fault (go s)
unless_then true fault s go = refl
unless_then false fault s go = refl

module _ {T S V F : Type 0} (statement : Statement T S V F) (temporary : Temporary T S V) (elements : T → V → List ℕ) (fault : F)
    (Sound : S → Type 0) (May : T → V → Type 0) where
  pub between_is_before : (twice : S → Bool) (apart : IsKeptApart statement temporary Sound May) (turns : List T) (s : S) →
      Every (Keeps statement Sound May) turns → Every (Keeps (filling statement temporary) Sound May) turns →
      Pairwise (Ignores (filling statement temporary) Sound May) turns → Pairwise (KeepsOther temporary Sound May) turns →
      TellsTwice (filling statement temporary) elements twice turns s → Sound s →
      tested_between statement temporary twice fault turns s
      ≡ and_then (values statement turns s)
      (λ es. unless (stands_twice (elements_of elements turns es.value)) fault
      (store_all (filling statement temporary) turns es.value (store_all statement turns es.value es.after)))
  between_is_before twice apart turns s keeps fills ignores others tells sound =
      let last : S → Result S F = λ filled. and_then (unless (twice filled) fault filled)
      (λ passed. Ok (store_kept statement temporary turns passed)) in
      let put : Evaluated (List V) S → Result S F = λ es. Ok (store_all (filling statement temporary) turns es.value es.after) in
      ap (λ r. and_then r last)
      (direct_deferred (filling statement temporary) Sound May turns s fills ignores sound
      ∙ ap (λ r. and_then r put) (values_same statement temporary turns s))
      ∙ then_then (values statement turns s) put last
      ∙ then_same (values statement turns s) (λ es. and_then (put es) last)
      (λ es. unless (stands_twice (elements_of elements turns es.value)) fault
      (store_all (filling statement temporary) turns es.value (store_all statement turns es.value es.after)))
      (λ es is.
      let known = values_known statement Sound May turns s es keeps sound is in
      let filled : S = store_all (filling statement temporary) turns es.value es.after in
      unless_then (twice filled) fault filled (store_kept statement temporary turns)
      ∙ ap (λ b. unless b fault (store_kept statement temporary turns filled))
      (tells.told es (values_same statement temporary turns s ∙ is))
      ∙ ap (unless (stands_twice (elements_of elements turns es.value)) fault)
      (all_kept statement temporary Sound May apart turns es.value es.after keeps fills others known.0 known.1))
