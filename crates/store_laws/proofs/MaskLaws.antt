-- A mask may be tested by each turn for itself.
use Rattle.std.proofs.Common.{◌≡◌, ◌⊎◌, Bool, true, false, Option, Some, None, List, [], ◌∷◌, Result, Ok, Err, refl, sym, ap, ◌∙◌}
use Rattle.std.proofs.Common.{subst, inl, inr}
use Rattle.a95_base.specs.Lists.{Every, Pairwise}
use Rattle.store_laws.specs.Store.{and_then, Evaluated, Statement, values, Keeps, IsStill}
use Rattle.store_laws.specs.Masked.{Mask, truths, value_if, values_at, masked, guarded, IsStillMask, StopsLikeMask, IsMasked}
use Rattle.store_laws.specs.Masked.{IsQuietMask, LeavesMask}
use Rattle.store_laws.proofs.StoreLaws.{then_then, then_same, either_order}
use Rattle.store_laws.proofs.TemporaryLaws.{reached, ok_is}

-- what stops a run of two steps is the one or the other
pub stopped : {A B F : Type 0} (r : Result A F) (go : A → Result B F) (stop : F) → and_then r go ≡ Err stop →
    (r ≡ Err stop) ⊎ ((a : A) × ((r ≡ Ok a) × (go a ≡ Err stop)))
stopped (Ok a) go stop is = inr (a, (refl, is))
stopped (Err other) go stop is = let same : other ≡ stop = cc in inl (ap Err same)

ok_is_no_stop : {A F : Type 0} {a : A} {stop : F} → (let went : Result A F = Ok a in went ≡ Err stop) → ⊥
ok_is_no_stop is = cc

module _ {T S V F : Type 0} (mask : Mask T S F) (statement : Statement T S V F) (Sound : S → Type 0) where
  -- ---- all stops are one

  truths_still : (turns : List T) (s : S) (bs : Evaluated (List Bool) S) → Every (IsStillMask mask Sound) turns → Sound s →
      truths mask turns s ≡ Ok bs → bs.after ≡ s
  truths_still [] s bs still sound is = sym (ap (λ x. x.after) (ok_is (record { value = []; after = s }) bs is))
  truths_still (t ∷ turns) s bs still sound is =
      let one =
      reached (mask t s)
      (λ b. and_then (truths mask turns b.after) (λ bs. Ok (record { value = b.value ∷ bs.value; after = bs.after }))) bs is in
      let rest =
      reached (truths mask turns one.0.after)
      (λ others. Ok (record { value = one.0.value ∷ others.value; after = others.after })) bs one.1.1 in
      let same : one.0.after ≡ s = still.0.after s one.0 sound one.1.0 in
      sym (ap (λ x. x.after) (ok_is (record { value = one.0.value ∷ rest.0.value; after = rest.0.after }) bs rest.1.1))
      ∙ truths_still turns one.0.after rest.0 still.1 (subst Sound (sym same) sound) rest.1.0
      ∙ same

  -- a turn's evaluation and the masks of later turns stop the run alike
  stops_like_truths : (turn : T) (turns : List T) (s : S) (stop other : F) → Every (IsStillMask mask Sound) turns →
      Every (StopsLikeMask mask statement s turn) turns → Sound s → statement.evaluate turn s ≡ Err stop →
      truths mask turns s ≡ Err other → stop ≡ other
  stops_like_truths turn [] s stop other still alike sound is truths_is = cc
  stops_like_truths turn (t ∷ turns) s stop other still alike sound is truths_is =
      elim (stopped (mask t s)
      (λ b. and_then (truths mask turns b.after) (λ bs. Ok (record { value = b.value ∷ bs.value; after = bs.after }))) other
      truths_is) [
        | inl here ↦ alike.0.same stop other is here
        | inr later ↦
            let same : later.0.after ≡ s = still.0.after s later.0 sound later.1.0 in
            let P : S → Type 0 = λ x. truths mask turns x ≡ Err other in
            elim (stopped (truths mask turns later.0.after)
            (λ bs. let all : Result (Evaluated (List Bool) S) F =
            Ok (record { value = later.0.value ∷ bs.value; after = bs.after }) in all) other later.1.1) [
              | inl there ↦ stops_like_truths turn turns s stop other still.1 alike.1 sound is (subst P same there)
              | inr ended ↦ absurd (ok_is_no_stop ended.1.1)
            ]
      ]

  value_still : (turn : T) (b : Bool) (s : S) (e : Evaluated (Option V) S) → IsStill statement Sound turn → Sound s →
      value_if statement turn b s ≡ Ok e → e.after ≡ s
  value_still turn false s e still sound is = sym (ap (λ x. x.after) (ok_is (record { value = None; after = s }) e is))
  value_still turn true s e still sound is =
      let one = reached (statement.evaluate turn s) (λ d. Ok (record { value = Some d.value; after = d.after })) e is in
      sym (ap (λ x. x.after) (ok_is (record { value = Some one.0.value; after = one.0.after }) e one.1.1))
      ∙ still.after s one.0 sound one.1.0

  value_stops : (turn : T) (b : Bool) (s : S) (stop : F) → value_if statement turn b s ≡ Err stop → statement.evaluate turn s
      ≡ Err stop
  value_stops turn false s stop is = absurd (ok_is_no_stop is)
  value_stops turn true s stop is =
      elim (stopped (statement.evaluate turn s)
      (λ d. let one : Result (Evaluated (Option V) S) F = Ok (record { value = Some d.value; after = d.after }) in one) stop is) [
        | inl here ↦ here
        | inr ended ↦ absurd (ok_is_no_stop ended.1.1)
      ]

  -- a value, and those of later turns behind it
  ahead : Evaluated (Option V) S → Evaluated (List (Option V)) S → Result (Evaluated (List (Option V)) S) F
  ahead e es = Ok (record { value = e.value ∷ es.value; after = es.after })

  -- in a state which nothing changes, a turn's value may come before the masks of later turns
  value_first : (t : T) (b : Bool) (turns : List T) (s : S) → Every (IsStillMask mask Sound) turns → IsStill statement Sound t →
      Every (StopsLikeMask mask statement s t) turns → Sound s → IsMasked mask statement turns s
      → and_then (value_if statement t b s) (λ e. and_then (values (guarded mask statement) turns e.after) (ahead e))
      ≡ and_then (truths mask turns s)
      (λ bs. and_then (value_if statement t b bs.after) (λ e. and_then (values_at statement turns bs.value e.after) (ahead e)))
  value_first t b turns s mask_still still alike sound are_masked =
      let one : Result (Evaluated (Option V) S) F = value_if statement t b s in
      let all : Result (Evaluated (List Bool) S) F = truths mask turns s in
      let f : Evaluated (Option V) S → Evaluated (List Bool) S → Result (Evaluated (List (Option V)) S) F =
      λ e bs. and_then (values_at statement turns bs.value bs.after) (ahead e) in
      let g : Evaluated (List Bool) S → Evaluated (Option V) S → Result (Evaluated (List (Option V)) S) F =
      λ bs e. and_then (values_at statement turns bs.value e.after) (ahead e) in
      then_same one (λ e. and_then (values (guarded mask statement) turns e.after) (ahead e)) (λ e. and_then all (f e))
      (λ e is.
      ap (λ x. and_then (values (guarded mask statement) turns x) (ahead e)) (value_still t b s e still sound is)
      ∙ ap (λ r. and_then r (ahead e)) are_masked
      ∙ then_then all (λ bs. values_at statement turns bs.value bs.after) (ahead e))
      ∙ either_order one all f g
      (λ e bs e_is bs_is. ap (λ x. and_then (values_at statement turns bs.value x) (ahead e))
      (truths_still turns s bs mask_still sound bs_is ∙ sym (value_still t b s e still sound e_is)))
      (λ stop other stops others. stops_like_truths t turns s stop other mask_still alike sound (value_stops t b s stop stops)
      others)
      ∙ then_same all (λ bs. and_then one (g bs)) (λ bs. and_then (value_if statement t b bs.after) (g bs))
      (λ bs is. ap (λ x. and_then (value_if statement t b x) (g bs)) (sym (truths_still turns s bs mask_still sound is)))

  -- the two forms of a turn and the later ones, up to the first mask
  guarded_first : (t : T) (turns : List T) (s : S) → values (guarded mask statement) (t ∷ turns) s
      ≡ and_then (mask t s)
      (λ b. and_then (value_if statement t b.value b.after)
      (λ e. and_then (values (guarded mask statement) turns e.after) (ahead e)))
  unfolding ahead
  guarded_first t turns s = then_then (mask t s) (λ b. value_if statement t b.value b.after)
      (λ e. and_then (values (guarded mask statement) turns e.after) (ahead e))

  masked_first : (t : T) (turns : List T) (s : S) → masked mask statement (t ∷ turns) s
      ≡ and_then (mask t s)
      (λ b. and_then (truths mask turns b.after)
      (λ bs. and_then (value_if statement t b.value bs.after)
      (λ e. and_then (values_at statement turns bs.value e.after) (ahead e))))
  unfolding ahead
  masked_first t turns s =
      let at : Evaluated (List Bool) S → Result (Evaluated (List (Option V)) S) F =
      λ bs. values_at statement (t ∷ turns) bs.value bs.after in
      let go : Evaluated Bool S → Result (Evaluated (List Bool) S) F =
      λ b. and_then (truths mask turns b.after) (λ bs. Ok (record { value = b.value ∷ bs.value; after = bs.after })) in
      then_then (mask t s) go at
      ∙ then_same (mask t s) (λ b. and_then (go b) at)
      (λ b. and_then (truths mask turns b.after)
      (λ bs. and_then (value_if statement t b.value bs.after)
      (λ e. and_then (values_at statement turns bs.value e.after) (ahead e))))
      (λ b is. then_then (truths mask turns b.after) (λ bs. Ok (record { value = b.value ∷ bs.value; after = bs.after })) at)

  pub still_mask : (turns : List T) (s : S) → Every (IsStillMask mask Sound) turns → Every (IsStill statement Sound) turns →
      Pairwise (StopsLikeMask mask statement s) turns → Sound s → IsMasked mask statement turns s
  still_mask [] s mask_still still alike sound = refl
  still_mask (t ∷ turns) s mask_still still alike sound =
      let one : Bool → S → Result (Evaluated (List (Option V)) S) F =
      λ b x. and_then (value_if statement t b x) (λ e. and_then (values (guarded mask statement) turns e.after) (ahead e)) in
      let two : Bool → S → Result (Evaluated (List (Option V)) S) F =
      λ b x. and_then (truths mask turns x)
      (λ bs. and_then (value_if statement t b bs.after) (λ e. and_then (values_at statement turns bs.value e.after) (ahead e)))
      in
      guarded_first t turns s
      ∙ then_same (mask t s) (λ b. one b.value b.after) (λ b. two b.value b.after)
      (λ b is.
      let same : b.after ≡ s = mask_still.0.after s b sound is in
      ap (one b.value) same
      ∙ value_first t b.value turns s mask_still.1 still.0 alike.0 sound (still_mask turns s mask_still.1 still.1 alike.1 sound)
      ∙ sym (ap (two b.value) same))
      ∙ sym (masked_first t turns s)

  -- ---- a mask that never stops

  truths_quiet : (turns : List T) (s : S) → Every (IsQuietMask mask Sound) turns → Sound s →
      (bs : List Bool) × (truths mask turns s ≡ Ok (record { value = bs; after = s }))
  truths_quiet [] s quiet sound = ([], refl)
  truths_quiet (t ∷ turns) s quiet sound =
      let one = quiet.0.looks s sound in
      let rest = truths_quiet turns s quiet.1 sound in (
        one.0 ∷ rest.0,
        ap (λ r. and_then r
            (λ b. and_then (truths mask turns b.after) (λ bs. Ok (record { value = b.value ∷ bs.value; after = bs.after })))) one.1
            ∙ ap (λ r. and_then r (λ bs. Ok (record { value = one.0 ∷ bs.value; after = bs.after }))) rest.1,
      )

  -- the masks of later turns are the same before and after a turn's evaluation
  truths_twice : (turn : T) (turns : List T) (s : S) (e : Evaluated V S) → Every (IsQuietMask mask Sound) turns →
      Every (LeavesMask mask statement Sound turn) turns → Sound s → statement.evaluate turn s ≡ Ok e →
      (bs : List Bool)
      × ((truths mask turns s ≡ Ok (record { value = bs; after = s }))
      × (truths mask turns e.after ≡ Ok (record { value = bs; after = e.after })))
  truths_twice turn [] s e quiet leaves sound is = ([], (refl, refl))
  truths_twice turn (t ∷ turns) s e quiet leaves sound is =
      let one = quiet.0.looks s sound in
      let rest = truths_twice turn turns s e quiet.1 leaves.1 sound is in
      let go : Evaluated Bool S → Result (Evaluated (List Bool) S) F =
      λ b. and_then (truths mask turns b.after) (λ bs. Ok (record { value = b.value ∷ bs.value; after = bs.after })) in
      let more : Evaluated (List Bool) S → Result (Evaluated (List Bool) S) F =
      λ bs. Ok (record { value = one.0 ∷ bs.value; after = bs.after }) in (
        one.0 ∷ rest.0,
        (
          ap (λ r. and_then r go) one.1 ∙ ap (λ r. and_then r more) rest.1.0,
          ap (λ r. and_then r go) (leaves.0.same s e one.0 sound is one.1) ∙ ap (λ r. and_then r more) rest.1.1,
        ),
      )

  truths_left : (turn : T) (turns : List T) (s : S) (e : Evaluated V S) → Every (IsQuietMask mask Sound) turns →
      Every (LeavesMask mask statement Sound turn) turns → Sound s → statement.evaluate turn s ≡ Ok e → (bs : List Bool) →
      truths mask turns s ≡ Ok (record { value = bs; after = s }) → truths mask turns e.after
      ≡ Ok (record { value = bs; after = e.after })
  truths_left turn turns s e quiet leaves sound is bs truths_are =
      let both = truths_twice turn turns s e quiet leaves sound is in
      let same : both.0 ≡ bs =
      ap (λ x. x.value)
      (ok_is (record { value = both.0; after = s }) (record { value = bs; after = s }) (sym both.1.0 ∙ truths_are)) in
      both.1.1 ∙ ap (λ l. Ok (record { value = l; after = e.after })) same

  -- the values of later turns, where their masks are known
  rest_masked : (turns : List T) (x : S) (bs : List Bool) → IsMasked mask statement turns x →
      truths mask turns x ≡ Ok (record { value = bs; after = x }) → values (guarded mask statement) turns x
      ≡ values_at statement turns bs x
  rest_masked turns x bs are_masked truths_are = are_masked ∙ ap
      (λ r. and_then r (λ bs. values_at statement turns bs.value bs.after)) truths_are

  behind_value : (t : T) (b : Bool) (turns : List T) (s : S) (bs : List Bool) (e : Evaluated (Option V) S) →
      Every (IsQuietMask mask Sound) turns → Every (LeavesMask mask statement Sound t) turns → Sound s →
      truths mask turns s ≡ Ok (record { value = bs; after = s }) →
      ((d : Evaluated V S) → statement.evaluate t s ≡ Ok d → IsMasked mask statement turns d.after) →
      IsMasked mask statement turns s → value_if statement t b s ≡ Ok e → values (guarded mask statement) turns e.after
      ≡ values_at statement turns bs e.after
  behind_value t false turns s bs e quiet leaves sound truths_are later here is =
      let P : S → Type 0 = λ x. values (guarded mask statement) turns x ≡ values_at statement turns bs x in
      subst P (ap (λ x. x.after) (ok_is (record { value = None; after = s }) e is)) (rest_masked turns s bs here truths_are)
  behind_value t true turns s bs e quiet leaves sound truths_are later here is =
      let one = reached (statement.evaluate t s) (λ d. Ok (record { value = Some d.value; after = d.after })) e is in
      let P : S → Type 0 = λ x. values (guarded mask statement) turns x ≡ values_at statement turns bs x in
      subst P (ap (λ x. x.after) (ok_is (record { value = Some one.0.value; after = one.0.after }) e one.1.1))
      (rest_masked turns one.0.after bs (later one.0 one.1.0)
      (truths_left t turns s one.0 quiet leaves sound one.1.0 bs truths_are))

  pub quiet_mask : (May : T → V → Type 0) (turns : List T) (s : S) → Every (Keeps statement Sound May) turns →
      Every (IsQuietMask mask Sound) turns → Pairwise (LeavesMask mask statement Sound) turns → Sound s →
      IsMasked mask statement turns s
  quiet_mask May [] s keeps quiet leaves sound = refl
  quiet_mask May (t ∷ turns) s keeps quiet leaves sound =
      let one = quiet.0.looks s sound in
      let all = truths_quiet turns s quiet.1 sound in
      guarded_first t turns s
      ∙ ap (λ r. and_then r
      (λ b. and_then (value_if statement t b.value b.after)
      (λ e. and_then (values (guarded mask statement) turns e.after) (ahead e)))) one.1
      ∙ then_same (value_if statement t one.0 s) (λ e. and_then (values (guarded mask statement) turns e.after) (ahead e))
      (λ e. and_then (values_at statement turns all.0 e.after) (ahead e))
      (λ e is.
      ap (λ r. and_then r (ahead e))
      (behind_value t one.0 turns s all.0 e quiet.1 leaves.0 sound all.1
      (λ d d_is. quiet_mask May turns d.after keeps.1 quiet.1 leaves.1 (keeps.0.evaluated s d sound d_is).0)
      (quiet_mask May turns s keeps.1 quiet.1 leaves.1 sound) is))
      ∙ sym (ap
      (λ r. and_then r
      (λ bs. and_then (value_if statement t one.0 bs.after)
      (λ e. and_then (values_at statement turns bs.value e.after) (ahead e)))) all.1)
      ∙ sym (ap
      (λ r. and_then r
      (λ b. and_then (truths mask turns b.after)
      (λ bs. and_then (value_if statement t b.value bs.after)
      (λ e. and_then (values_at statement turns bs.value e.after) (ahead e))))) one.1)
      ∙ sym (masked_first t turns s)
