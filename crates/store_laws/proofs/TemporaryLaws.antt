-- Two loops through a temporary are a store after all evaluations.
use Rattle.std.proofs.Common.{◌≡◌, List, [], ◌∷◌, Result, Ok, Err, refl, ap, ◌∙◌, subst}
use Rattle.a95_base.specs.Lists.{Every, Pairwise}
use Rattle.store_laws.specs.Store.{and_then, Evaluated, Statement, values, store_all, Keeps, Ignores, Temporary, filling}
use Rattle.store_laws.specs.Store.{store_kept, through, IsKeptApart, KeepsOther}
use Rattle.store_laws.proofs.StoreLaws.{then_then, then_same, direct_deferred}

-- a value for each turn, each one that it may store
abbrev pub MayAll : {T V : Type 0} → (T → V → Type 0) → List T → List V → Type 0
MayAll May [] [] = Unit {0}
MayAll May [] (v ∷ vs) = ⊥
MayAll May (turn ∷ turns) [] = ⊥
MayAll May (turn ∷ turns) (v ∷ vs) = May turn v × MayAll May turns vs

-- where a result is reached through another, that one was reached
pub reached : {A B F : Type 0} (r : Result A F) (go : A → Result B F) (b : B) → and_then r go ≡ Ok b →
    (a : A) × ((r ≡ Ok a) × (go a ≡ Ok b))
reached (Ok a) go b is = (a, (refl, is))
reached (Err stop) go b is = cc

pub ok_is : {A F : Type 0} (a b : A) → (let x : Result A F = Ok a in let y : Result A F = Ok b in x ≡ y) → a ≡ b
ok_is a b same = cc

pub values_same : {T S V F : Type 0} (statement : Statement T S V F) (temporary : Temporary T S V) (turns : List T) (s : S) →
    values (filling statement temporary) turns s ≡ values statement turns s
values_same statement temporary [] s = refl
values_same statement temporary (t ∷ turns) s =
    then_same (statement.evaluate t s)
    (λ e. and_then (values (filling statement temporary) turns e.after)
    (λ es. Ok (record { value = e.value ∷ es.value; after = es.after })))
    (λ e. and_then (values statement turns e.after) (λ es. Ok (record { value = e.value ∷ es.value; after = es.after })))
    (λ e is. ap (λ r. and_then r (λ es. Ok (record { value = e.value ∷ es.value; after = es.after })))
    (values_same statement temporary turns e.after))

module _ {T S V F : Type 0} (statement : Statement T S V F) (Sound : S → Type 0) (May : T → V → Type 0) where
  -- what all evaluations leave
  pub values_known : (turns : List T) (s : S) (es : Evaluated (List V) S) → Every (Keeps statement Sound May) turns → Sound s →
      values statement turns s ≡ Ok es → MayAll May turns es.value × Sound es.after
  values_known [] s es keeps sound is =
      let same = ok_is (record { value = []; after = s }) es is in
      let P : Evaluated (List V) S → Type 0 = λ x. MayAll May [] x.value × Sound x.after in
      subst P same (tt, sound)
  values_known (t ∷ turns) s es keeps sound is =
      let one =
      reached (statement.evaluate t s)
      (λ e. and_then (values statement turns e.after) (λ es. Ok (record { value = e.value ∷ es.value; after = es.after }))) es
      is in
      let rest = reached (values statement turns one.0.after)
      (λ others. Ok (record { value = one.0.value ∷ others.value; after = others.after })) es one.1.1 in
      let known = keeps.0.evaluated s one.0 sound one.1.0 in
      let others = values_known turns one.0.after rest.0 keeps.1 known.0 rest.1.0 in
      let P : Evaluated (List V) S → Type 0 = λ x. MayAll May (t ∷ turns) x.value × Sound x.after in
      subst P (ok_is (record { value = one.0.value ∷ rest.0.value; after = rest.0.after }) es rest.1.1)
      ((known.1, others.0), others.1)

module _ {T S V F : Type 0} (statement : Statement T S V F) (temporary : Temporary T S V) (Sound : S → Type 0)
    (May : T → V → Type 0) where
  -- values kept later leave an earlier one
  fetch_earlier : (turn : T) (turns : List T) (vs : List V) (s : S) → Every (Keeps (filling statement temporary) Sound May) turns →
      Every (KeepsOther temporary Sound May turn) turns → MayAll May turns vs → Sound s →
      temporary.fetch turn (store_all (filling statement temporary) turns vs s) ≡ temporary.fetch turn s
  fetch_earlier turn [] [] s keeps others may sound = refl
  fetch_earlier turn [] (v ∷ vs) s keeps others may sound = absurd may
  fetch_earlier turn (t ∷ turns) [] s keeps others may sound = absurd may
  fetch_earlier turn (t ∷ turns) (v ∷ vs) s keeps others may sound =
      fetch_earlier turn turns vs (temporary.keep t v s) keeps.1 others.1 may.1 (keeps.0.stored v s sound may.0)
      ∙ others.0.same v s sound may.0

  -- a store passes all that is kept
  store_past : (apart : IsKeptApart statement temporary Sound May) (turn : T) (v : V) (turns : List T) (vs : List V) (s : S) →
      Every (Keeps (filling statement temporary) Sound May) turns → MayAll May turns vs → Sound s → May turn v →
      statement.store turn v (store_all (filling statement temporary) turns vs s)
      ≡ store_all (filling statement temporary) turns vs (statement.store turn v s)
  store_past apart turn v [] [] s keeps may sound may_v = refl
  store_past apart turn v [] (w ∷ vs) s keeps may sound may_v = absurd may
  store_past apart turn v (t ∷ turns) [] s keeps may sound may_v = absurd may
  store_past apart turn v (t ∷ turns) (w ∷ vs) s keeps may sound may_v =
      store_past apart turn v turns vs (temporary.keep t w s) keeps.1 may.1 (keeps.0.stored w s sound may.0) may_v
      ∙ ap (store_all (filling statement temporary) turns vs) (apart.aside turn t v w s sound may_v may.0)

  keep_past : (apart : IsKeptApart statement temporary Sound May) (turn : T) (v : V) (turns : List T) (vs : List V) (s : S) →
      Every (Keeps statement Sound May) turns → MayAll May turns vs → Sound s → May turn v →
      store_all statement turns vs (temporary.keep turn v s) ≡ temporary.keep turn v (store_all statement turns vs s)
  keep_past apart turn v [] [] s keeps may sound may_v = refl
  keep_past apart turn v [] (w ∷ vs) s keeps may sound may_v = absurd may
  keep_past apart turn v (t ∷ turns) [] s keeps may sound may_v = absurd may
  keep_past apart turn v (t ∷ turns) (w ∷ vs) s keeps may sound may_v =
      ap (store_all statement turns vs) (apart.aside t turn w v s sound may.0 may_v)
      ∙ keep_past apart turn v turns vs (statement.store t w s) keeps.1 may.1 (keeps.0.stored w s sound may.0) may_v

  pub all_kept : (apart : IsKeptApart statement temporary Sound May) (turns : List T) (vs : List V) (s : S) →
      Every (Keeps statement Sound May) turns → Every (Keeps (filling statement temporary) Sound May) turns →
      Pairwise (KeepsOther temporary Sound May) turns → MayAll May turns vs → Sound s →
      store_kept statement temporary turns (store_all (filling statement temporary) turns vs s)
      ≡ store_all (filling statement temporary) turns vs (store_all statement turns vs s)
  all_kept apart [] [] s keeps fills others may sound = refl
  all_kept apart [] (v ∷ vs) s keeps fills others may sound = absurd may
  all_kept apart (t ∷ turns) [] s keeps fills others may sound = absurd may
  all_kept apart (t ∷ turns) (v ∷ vs) s keeps fills others may sound =
      let filled : S = store_all (filling statement temporary) turns vs (temporary.keep t v s) in
      let kept_sound : Sound (temporary.keep t v s) = fills.0.stored v s sound may.0 in
      let stored_sound : Sound (statement.store t v s) = keeps.0.stored v s sound may.0 in
      ap (λ x. store_kept statement temporary turns (statement.store t x filled))
      (fetch_earlier t turns vs (temporary.keep t v s) fills.1 others.0 may.1 kept_sound ∙ apart.given_back t v s sound may.0)
      ∙ ap (store_kept statement temporary turns)
      (store_past apart t v turns vs (temporary.keep t v s) fills.1 may.1 kept_sound may.0
      ∙ ap (store_all (filling statement temporary) turns vs) (apart.aside t t v v s sound may.0 may.0))
      ∙ all_kept apart turns vs (temporary.keep t v (statement.store t v s)) keeps.1 fills.1 others.1 may.1
      (fills.0.stored v (statement.store t v s) stored_sound may.0)
      ∙ ap (store_all (filling statement temporary) turns vs)
      (keep_past apart t v turns vs (statement.store t v s) keeps.1 may.1 stored_sound may.0)

  -- besides what the temporary then has, two loops through it do what a store after all evaluations does
  pub through_deferred : (apart : IsKeptApart statement temporary Sound May) (turns : List T) (s : S) →
      Every (Keeps statement Sound May) turns → Every (Keeps (filling statement temporary) Sound May) turns →
      Pairwise (Ignores (filling statement temporary) Sound May) turns → Pairwise (KeepsOther temporary Sound May) turns → Sound s →
      through statement temporary turns s ≡ and_then (values statement turns s)
      (λ es. Ok (store_all (filling statement temporary) turns es.value (store_all statement turns es.value es.after)))
  through_deferred apart turns s keeps fills ignores others sound =
      let last : S → Result S F = λ filled. Ok (store_kept statement temporary turns filled) in
      ap (λ r. and_then r last)
      (direct_deferred (filling statement temporary) Sound May turns s fills ignores sound
      ∙ ap (λ r. and_then r (λ es. Ok (store_all (filling statement temporary) turns es.value es.after)))
      (values_same statement temporary turns s))
      ∙ then_then (values statement turns s) (λ es. Ok (store_all (filling statement temporary) turns es.value es.after)) last
      ∙ then_same (values statement turns s)
      (λ es. Ok (store_kept statement temporary turns (store_all (filling statement temporary) turns es.value es.after)))
      (λ es. Ok (store_all (filling statement temporary) turns es.value (store_all statement turns es.value es.after)))
      (λ es is.
      let known = values_known statement Sound May turns s es keeps sound is in
      ap (λ x. let answer : Result S F = Ok x in answer)
      (all_kept apart turns es.value es.after keeps fills others known.0 known.1))
