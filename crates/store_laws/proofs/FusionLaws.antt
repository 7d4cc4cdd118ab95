-- Nests over one walk, one after the other, are one where their distances allow it, for groups of any number.
use Rattle.std.proofs.Common.{◌≡◌, ◌≢◌, ◌⊎◌, ℕ, List, [], ◌∷◌, length, Result, Ok, refl, sym, ap, ◌∙◌, subst, inl, inr, true≢false}
use Rattle.std.specs.Prelude.{IsTrue}
use Rattle.std.proofs.lemmas.Bool.{cases_eq, cases_Bool}
use Rattle.a95_base.specs.Lists.{Every, Pairwise, Member}
use Rattle.a95_base.proofs.Lists.{Every-weaker, Every-all, Every-both, each_has, Pairwise-both, Pairwise-weaker, Pairwise-weaker_on}
use Rattle.rank_shape.specs.Shape.{IsPlace}
use Rattle.rank_shape.specs.Order.{Level, IsOrder}
use Rattle.rank_shape.specs.Walk.{tour}
use Rattle.rank_shape.proofs.Reorders.{order_whole}
use Rattle.rank_shape.specs.declared.distance.Entry.{Entry}
use Rattle.loop_order.specs.Legal.{IsLegal, turned}
use Rattle.loop_order.specs.Apart.{IsApart}
use Rattle.loop_order.proofs.Turned.{stores_first}
use Rattle.store_laws.specs.Store.{and_then}
use Rattle.store_laws.specs.Loops.{run_each, nested, both, start_of, IsQuiet, KeepsSound, Passes}
use Rattle.store_laws.specs.Fusion.{IsMeasured, IsFusable, AreOneNest, Access, conflict, AreMeasured, AreAllOf, all_of, loop_each}
use Rattle.store_laws.specs.Fusion.{nest_each, Fuses}
use Rattle.store_laws.proofs.StoreLaws.{then_then, then_same}
use Rattle.store_laws.proofs.TemporaryLaws.{reached}
use Rattle.store_laws.proofs.LoopLaws.{then_ok, run_each_same, nested_runs, loops_fused}
use Rattle.store_laws.proofs.LegalLaws.{each_of_later}

-- what holds of each pair, told from either side
each_turned : {A B : Type 0} (R : A → B → Type 0) (xs : List A) (ys : List B) → Every (λ x. Every (R x) ys) xs →
    Every (λ y. Every (λ x. R x y) xs) ys
each_turned R [] ys h = Every-all (λ y. Unit {0}) (λ y. tt) ys
each_turned R (x ∷ xs) ys h = Every-both (R x) (λ y. Every (λ z. R z y) xs) ys h.0 (each_turned R xs ys h.1)

-- ---- a body made of two

module _ {T S F : Type 0} (Sound : S → Type 0) where
  pub both_quiet : (first second : T → S → Result S F) (turn : T) → IsQuiet first Sound turn → IsQuiet second Sound turn →
      IsQuiet (both first second) Sound turn
  both_quiet first second turn quiet also = record {
    goes = λ s sound.
        let one = quiet.goes s sound in
        let two = also.goes one.0 one.1.1 in
        (two.0, (ap (λ r. and_then r (second turn)) one.1.0 ∙ two.1.0, two.1.1));
  }

  pub both_keep : (first second : T → S → Result S F) (turn : T) → KeepsSound (first turn) Sound → KeepsSound (second turn) Sound →
      KeepsSound (both first second turn) Sound
  both_keep first second turn keeps also = record {
    kept = λ s after sound is.
        let one = reached (first turn s) (second turn) after is in
        also.kept one.0 after (keeps.kept s one.0 sound one.1.0) one.1.1;
  }

  -- what both let pass
  pub both_let_pass : (first second : T → S → Result S F) (step : S → Result S F) (turn : T) → KeepsSound (first turn) Sound →
      Passes step first Sound turn → Passes step second Sound turn → Passes step (both first second) Sound turn
  both_let_pass first second step turn keeps passes also = record {
    same = λ s sound.
        sym (then_then (step s) (first turn) (second turn))
        ∙ ap (λ r. and_then r (second turn)) (passes.same s sound)
        ∙ then_then (first turn s) step (second turn)
        ∙ then_same (first turn s) (λ x. and_then (step x) (second turn)) (λ x. and_then (second turn x) step)
        (λ x is. also.same x (keeps.kept s x sound is))
        ∙ sym (then_then (first turn s) (second turn) step);
  }

  -- what passes is made of two
  pub both_pass : (step also : S → Result S F) (body : T → S → Result S F) (turn : T) → KeepsSound step Sound →
      Passes step body Sound turn → Passes also body Sound turn → Passes (λ s. and_then (step s) also) body Sound turn
  both_pass step also body turn keeps passes too = record {
    same = λ s sound.
        then_then (step s) also (body turn)
        ∙ then_same (step s) (λ x. and_then (also x) (body turn)) (λ x. and_then (body turn x) also)
        (λ x is. too.same x (keeps.kept s x sound is))
        ∙ sym (then_then (step s) (body turn) also)
        ∙ ap (λ r. and_then r also) (passes.same s sound)
        ∙ then_then (body turn s) step also;
  }

  -- ---- any number of bodies

  run_keeps : (body : T → S → Result S F) (turns : List T) (s after : S) → Every (λ turn. KeepsSound (body turn) Sound) turns →
      Sound s → run_each body turns s ≡ Ok after → Sound after
  run_keeps body [] s after keeps sound is = let same : s ≡ after = cc in subst Sound same sound
  run_keeps body (t ∷ turns) s after keeps sound is =
      let one = reached (body t s) (run_each body turns) after is in
      run_keeps body turns one.0 after keeps.1 (keeps.0.kept s one.0 sound one.1.0) one.1.1

  all_keep : (bodies : List (T → S → Result S F)) (turn : T) → Every (λ body. KeepsSound (body turn) Sound) bodies →
      KeepsSound (all_of bodies turn) Sound
  all_keep [] turn keeps = record { kept = λ s after sound is. let same : s ≡ after = cc in subst Sound same sound }
  all_keep (body ∷ bodies) turn keeps = both_keep body (all_of bodies) turn keeps.0 (all_keep bodies turn keeps.1)

  all_pass : (bodies : List (T → S → Result S F)) (turn later : T) (first : T → S → Result S F) →
      Every (λ body. KeepsSound (body turn) Sound) bodies → Every (λ body. Passes (body turn) first Sound later) bodies →
      Passes (all_of bodies turn) first Sound later
  all_pass [] turn later first keeps passes = record { same = λ s sound. sym (then_ok (first later s)) }
  all_pass (body ∷ bodies) turn later first keeps passes = both_pass (body turn) (all_of bodies turn) first later keeps.0 passes.0
      (all_pass bodies turn later first keeps.1 passes.1)

  -- where there is no other body
  one_loop : (body : T → S → Result S F) (turns : List T) (s : S) → loop_each (body ∷ []) turns s
      ≡ run_each (all_of (body ∷ [])) turns s
  one_loop body turns s =
      then_ok (run_each body turns s) ∙ run_each_same body (all_of (body ∷ [])) (λ t x. sym (then_ok (body t x))) turns s

  no_loop : (turns : List T) (s : S) → run_each (λ t x. let same : Result S F = Ok x in same) turns s ≡ Ok s
  no_loop [] s = refl
  no_loop (t ∷ turns) s = no_loop turns s

  turns_pass : (first : T → S → Result S F) (bodies : List (T → S → Result S F)) (turns : List T) →
      Every (λ body. Every (λ turn. KeepsSound (body turn) Sound) turns) bodies → Every (Fuses Sound turns first) bodies →
      Pairwise (λ turn later. Passes (all_of bodies turn) first Sound later) turns
  turns_pass first bodies turns keeps fuses =
      Pairwise-weaker_on (λ turn. Every (λ body. KeepsSound (body turn) Sound) bodies)
      (λ turn later. Every (λ body. Passes (body turn) first Sound later) bodies)
      (λ turn later. Passes (all_of bodies turn) first Sound later)
      (λ turn later turn_keeps later_keeps passes. all_pass bodies turn later first turn_keeps passes)
      turns (each_turned (λ body turn. KeepsSound (body turn) Sound) bodies turns keeps)
      (each_of_later (λ body turn later. Passes (body turn) first Sound later) bodies turns
      (Every-weaker (Fuses Sound turns first) (λ body. Pairwise (λ turn later. Passes (body turn) first Sound later) turns)
      (λ body fused. fused.passes) bodies fuses))

  -- a loop before others that are one
  loop_before : (body : T → S → Result S F) (bodies : List (T → S → Result S F)) (turns : List T) (s : S) →
      Every (λ turn. KeepsSound (body turn) Sound) turns → Every (λ c. Every (λ turn. KeepsSound (c turn) Sound) turns) bodies →
      Every (Fuses Sound turns body) bodies → ((x : S) → Sound x → loop_each bodies turns x ≡ run_each (all_of bodies) turns x) →
      Sound s → loop_each (body ∷ bodies) turns s ≡ run_each (all_of (body ∷ bodies)) turns s
  loop_before body [] turns s keeps keep fuses are_one sound = one_loop body turns s
  loop_before body (next ∷ bodies) turns s keeps keep fuses are_one sound =
      let others : List (T → S → Result S F) = next ∷ bodies in
      then_same (run_each body turns s) (loop_each others turns) (run_each (all_of others) turns)
      (λ x is. are_one x (run_keeps body turns s x keeps sound is))
      ∙ loops_fused body Sound (all_of others) turns s fuses.0.quiet
      (Every-weaker (λ turn. Every (λ c. KeepsSound (c turn) Sound) others) (λ turn. KeepsSound (all_of others turn) Sound)
      (λ turn each. all_keep others turn each) turns
      (each_turned (λ c turn. KeepsSound (c turn) Sound) others turns keep))
      (turns_pass body others turns keep fuses) sound

  pub loops_are_one : (bodies : List (T → S → Result S F)) (turns : List T) (s : S) →
      Every (λ body. Every (λ turn. KeepsSound (body turn) Sound) turns) bodies → Pairwise (Fuses Sound turns) bodies → Sound s →
      loop_each bodies turns s ≡ run_each (all_of bodies) turns s
  loops_are_one [] turns s keeps fuses sound = sym (no_loop turns s)
  loops_are_one (body ∷ bodies) turns s keeps fuses sound =
      loop_before body bodies turns s keeps.0 keeps.1 fuses.0 (λ x x_sound. loops_are_one bodies turns x keeps.1 fuses.1 x_sound)
      sound

-- ---- nests over a walk

module _ {S F : Type 0} (Sound : S → Type 0) (rank : ℕ) (extents : List ℕ) (order : List Level) where
  -- distances that the order allows leave no turn of the second that would come before one of the first which it needs
  fusable_fuses : (distances : List (List Entry)) → length extents ≡ rank → IsOrder rank order → IsLegal (turned order) distances →
      (first second : List ℕ → S → Result S F) → IsFusable first second Sound extents distances →
      Fuses Sound (tour order extents) first second
  fusable_fuses distances long holds legal first second fusable =
      let whole = order_whole rank extents order long holds in
      record {
        quiet = Every-weaker (IsPlace extents) (IsQuiet first Sound) (λ place inside. fusable.quiet place inside)
            (tour order extents) whole.within;
        passes =
            Pairwise-weaker_on (IsPlace extents) (λ other place. (other ≢ place) × Every (λ d. IsApart d place other → ⊥) distances)
            (λ other place. Passes (second other) first Sound place)
            (λ other place other_in place_in apart.
            elim (fusable.told place other place_in other_in (λ same. apart.0 (sym same))) [
              | inl passes ↦ passes
              | inr at ↦ absurd (each_has (λ d. IsApart d place other → ⊥) distances at.distance apart.1 at.listed at.apart)
            ])
            (tour order extents) whole.within
            (Pairwise-both (λ other place. other ≢ place) (λ other place. Every (λ d. IsApart d place other → ⊥) distances)
            (tour order extents) whole.once
            (each_of_later (λ d other place. IsApart d place other → ⊥) distances (tour order extents)
            (stores_first rank order distances extents holds legal)));
      }

  tour_keeps_sound : (body : List ℕ → S → Result S F) → length extents ≡ rank → IsOrder rank order →
      ((place : List ℕ) → IsPlace extents place → KeepsSound (body place) Sound) →
      Every (λ place. KeepsSound (body place) Sound) (tour order extents)
  tour_keeps_sound body long holds keeps =
      Every-weaker (IsPlace extents) (λ place. KeepsSound (body place) Sound) keeps (tour order extents)
      (order_whole rank extents order long holds).within

  pub nests_are_one : (distances : List (List Entry)) (first second : List ℕ → S → Result S F) (s : S) → length extents ≡ rank →
      IsOrder rank order → IsLegal (turned order) distances → IsFusable first second Sound extents distances → Sound s →
      AreOneNest first second order extents s
  nests_are_one distances first second s long holds legal fusable sound =
      let fuses = fusable_fuses distances long holds legal first second fusable in
      ap (λ r. and_then r (nested second order extents (start_of extents))) (nested_runs first order extents (start_of extents) s)
      ∙ then_same (run_each first (tour order extents) s) (nested second order extents (start_of extents))
      (run_each second (tour order extents)) (λ x is. nested_runs second order extents (start_of extents) x)
      ∙ loops_fused first Sound second (tour order extents) s fuses.quiet (tour_keeps_sound second long holds fusable.keeps)
      fuses.passes sound
      ∙ sym (nested_runs (both first second) order extents (start_of extents) s)

  pub group_is_one : (distances : List (List Entry)) (bodies : List (List ℕ → S → Result S F)) (s : S) → length extents ≡ rank →
      IsOrder rank order → IsLegal (turned order) distances →
      Every (λ body. (place : List ℕ) → IsPlace extents place → KeepsSound (body place) Sound) bodies →
      Pairwise (λ first second. IsFusable first second Sound extents distances) bodies → Sound s → nest_each bodies order extents s
      ≡ nested (all_of bodies) order extents (start_of extents) s
  group_is_one distances bodies s long holds legal keeps fusable sound =
      run_each_same (λ body. nested body order extents (start_of extents)) (λ body. run_each body (tour order extents))
      (λ body x. nested_runs body order extents (start_of extents) x) bodies s
      ∙ loops_are_one Sound bodies (tour order extents) s
      (Every-weaker (λ body. (place : List ℕ) → IsPlace extents place → KeepsSound (body place) Sound)
      (λ body. Every (λ place. KeepsSound (body place) Sound) (tour order extents))
      (λ body known. tour_keeps_sound body long holds known) bodies keeps)
      (Pairwise-weaker (λ first second. IsFusable first second Sound extents distances) (Fuses Sound (tour order extents))
      (λ first second known. fusable_fuses distances long holds legal first second known) bodies fusable) sound
      ∙ sym (nested_runs (all_of bodies) order extents (start_of extents) s)

-- ---- from accesses

-- each item has the one fact, or some item has the other
each_or_some : {A : Type 0} (P Q : A → Type 0) → ((x : A) → P x ⊎ Q x) → (xs : List A) →
    Every P xs ⊎ ((x : A) × (Member xs x × Q x))
each_or_some P Q decide [] = inl tt
each_or_some P Q decide (x ∷ xs) =
    elim (decide x) [
      | inr found ↦ inr (x, (inl refl, found))
      | inl holds ↦
          elim (each_or_some P Q decide xs) [
            | inl rest ↦ inl (holds, rest)
            | inr found ↦ inr (found.0, (inr found.1.0, found.1.1))
          ]
    ]

-- the two accesses are at one element though they conflict, or not
at_one_element : (access later : Access) (place other : List ℕ) →
    (IsTrue (conflict access later) → access.element place ≢ later.element other)
    ⊎ (IsTrue (conflict access later) × (access.element place ≡ later.element other))
at_one_element access later place other =
    elim (cases_eq (access.element place) (later.element other)) [
      | inr apart ↦ inl (λ conflicts. apart)
      | inl same ↦ elim (cases_Bool (conflict access later))
          [ inl is ↦ inr (is, same) | inr is_not ↦ inl (λ conflicts. absurd (true≢false (sym conflicts ∙ is_not))) ]
    ]

module _ {S F : Type 0} (first second : List ℕ → S → Result S F) (Sound : S → Type 0) (extents : List ℕ)
    (distances : List (List Entry)) where
  pub told_by_accesses : (firsts seconds : List Access) → AreMeasured firsts seconds extents distances →
      AreAllOf firsts seconds first second Sound extents → (place other : List ℕ) → IsPlace extents place → IsPlace extents other →
      Passes (second other) first Sound place ⊎ IsMeasured distances place other
  told_by_accesses firsts seconds measured all place other place_in other_in =
      let Apart : Access → Access → Type 0 = λ access later. IsTrue (conflict access later) →
      access.element place ≢ later.element other in
      let Meet : Access → Access → Type 0 = λ access later. IsTrue (conflict access later)
      × (access.element place ≡ later.element other) in
      elim (each_or_some (λ access. Every (Apart access) seconds)
      (λ access. (later : Access) × (Member seconds later × Meet access later))
      (λ access. each_or_some (Apart access) (Meet access) (λ later. at_one_element access later place other) seconds) firsts) [
        | inl apart ↦
            inl (all.passes place other place_in other_in (record {
              apart = λ access later access_in later_in. each_has (Apart access) seconds later
                  (each_has (λ a. Every (Apart a) seconds) firsts access apart access_in) later_in;
            }))
        | inr met ↦ inr
            (measured.each met.0 met.1.1.0 met.1.0 met.1.1.1.0 met.1.1.1.1.0 place other place_in other_in met.1.1.1.1.1)
      ]

  pub accesses_fuse : (firsts seconds : List Access) → ((place : List ℕ) → IsPlace extents place → IsQuiet first Sound place) →
      ((place : List ℕ) → IsPlace extents place → KeepsSound (second place) Sound) → AreMeasured firsts seconds extents distances →
      AreAllOf firsts seconds first second Sound extents → IsFusable first second Sound extents distances
  accesses_fuse firsts seconds quiet keeps measured all = record {
    quiet = quiet;
    keeps = keeps;
    told = λ place other place_in other_in apart. told_by_accesses firsts seconds measured all place other place_in other_in;
  }
