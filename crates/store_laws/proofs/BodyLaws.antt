-- The forms of a statement are runs of bodies, and what makes such bodies quiet and lets them pass.
use Rattle.std.proofs.Common.{◌≡◌, List, [], ◌∷◌, ◌++◌, Result, Ok, refl, sym, ap, ◌∙◌, subst, append_assoc}
use Rattle.std.proofs.lemmas.List.{append-nil}
use Rattle.store_laws.specs.Store.{and_then, Evaluated, Statement, values, store_all, deferred, Keeps, Temporary, filling}
use Rattle.store_laws.specs.Store.{store_kept, through}
use Rattle.store_laws.specs.Loops.{run_each, IsQuiet, KeepsSound, Passes}
use Rattle.store_laws.specs.Bodies.{at_once, from_kept, gather, store_first, NeverStops, pair_of, turn_first, later_first, AreApart}
use Rattle.store_laws.proofs.StoreLaws.{then_then, then_same}
use Rattle.store_laws.proofs.TemporaryLaws.{reached, ok_is}
use Rattle.store_laws.proofs.LoopLaws.{direct_runs}

-- ---- forms of a statement

module _ {T S V F : Type 0} (statement : Statement T S V F) where
  kept_runs : (temporary : Temporary T S V) (turns : List T) (s : S) → run_each (from_kept statement temporary) turns s
      ≡ Ok (store_kept statement temporary turns s)
  kept_runs temporary [] s = refl
  kept_runs temporary (t ∷ turns) s = kept_runs temporary turns (statement.store t (temporary.fetch t s) s)

  pub through_runs : (temporary : Temporary T S V) (turns : List T) (s : S) → through statement temporary turns s
      ≡ and_then (run_each (at_once (filling statement temporary)) turns s) (run_each (from_kept statement temporary) turns)
  through_runs temporary turns s =
      ap (λ r. and_then r (λ filled. Ok (store_kept statement temporary turns filled)))
      (direct_runs (filling statement temporary) turns s)
      ∙ then_same (run_each (at_once (filling statement temporary)) turns s)
      (λ filled. Ok (store_kept statement temporary turns filled)) (run_each (from_kept statement temporary) turns)
      (λ filled is. sym (kept_runs temporary turns filled))

  -- values are gathered behind those that there are
  gathered : (turns : List T) (before : List V) (s : S) → run_each (gather statement) turns (record { value = before; after = s })
      ≡ and_then (values statement turns s) (λ es. Ok (record { value = before ++ es.value; after = es.after }))
  gathered [] before s = ap (λ vs. Ok (record { value = vs; after = s })) (sym (append-nil before))
  gathered (t ∷ turns) before s =
      let put : Evaluated V S → Result (Evaluated (List V) S) F =
      λ e. Ok (record { value = before ++ e.value ∷ []; after = e.after }) in
      let go : Evaluated V S → Result (Evaluated (List V) S) F =
      λ e. and_then (values statement turns e.after) (λ es. Ok (record { value = e.value ∷ es.value; after = es.after })) in
      let behind : Evaluated (List V) S → Result (Evaluated (List V) S) F =
      λ es. Ok (record { value = before ++ es.value; after = es.after }) in
      then_then (statement.evaluate t s) put (run_each (gather statement) turns)
      ∙ then_same (statement.evaluate t s) (λ e. and_then (put e) (run_each (gather statement) turns)) (λ e. and_then (go e) behind)
      (λ e is.
      gathered turns (before ++ e.value ∷ []) e.after
      ∙ then_same (values statement turns e.after)
      (λ es. Ok (record { value = (before ++ e.value ∷ []) ++ es.value; after = es.after }))
      (λ es. Ok (record { value = before ++ e.value ∷ es.value; after = es.after }))
      (λ es es_is. ap (λ vs. Ok (record { value = vs; after = es.after })) (append_assoc before (e.value ∷ []) es.value))
      ∙ sym (then_then (values statement turns e.after) (λ es. Ok (record { value = e.value ∷ es.value; after = es.after }))
      behind))
      ∙ sym (then_then (statement.evaluate t s) go behind)

  stored_first : (turns : List T) (vs : List V) (s : S) → and_then
      (run_each (λ turn es. let next : Result (Evaluated (List V) S) F = Ok (store_first statement turn es.value es.after) in next)
      turns (record { value = vs; after = s })) (λ es. Ok es.after) ≡ Ok (store_all statement turns vs s)
  stored_first [] vs s = refl
  stored_first (t ∷ turns) [] s = none_stored turns s
    where
      none_stored : (turns : List T) (s : S) →
          and_then (run_each
          (λ turn es. let next : Result (Evaluated (List V) S) F = Ok (store_first statement turn es.value es.after) in next) turns
          (record { value = []; after = s })) (λ es. Ok es.after) ≡ Ok s
      none_stored [] s = refl
      none_stored (t ∷ turns) s = none_stored turns s
  stored_first (t ∷ turns) (v ∷ vs) s = stored_first turns vs (statement.store t v s)

  pub deferred_runs : (turns : List T) (s : S) → deferred statement turns s
      ≡ and_then
      (and_then (run_each (gather statement) turns (record { value = []; after = s }))
      (run_each (λ turn es. Ok (store_first statement turn es.value es.after)) turns)) (λ es. Ok es.after)
  deferred_runs turns s =
      let spend : Evaluated (List V) S → Result (Evaluated (List V) S) F =
      run_each (λ turn es. Ok (store_first statement turn es.value es.after)) turns in
      let last : Evaluated (List V) S → Result S F = λ es. Ok es.after in
      then_same (values statement turns s) (λ es. Ok (store_all statement turns es.value es.after)) (λ es. and_then (spend es) last)
      (λ es is. sym (stored_first turns es.value es.after))
      ∙ sym (then_then (values statement turns s) (λ es. Ok (record { value = es.value; after = es.after }))
      (λ es. and_then (spend es) last))
      ∙ sym (ap (λ r. and_then r (λ es. and_then (spend es) last)) (gathered turns [] s))
      ∙ sym (then_then (run_each (gather statement) turns (record { value = []; after = s })) spend last)

-- ---- what bodies keep

module _ {T S V F : Type 0} (statement : Statement T S V F) (Sound : S → Type 0) (May : T → V → Type 0) (turn : T) where
  pub body_quiet : Keeps statement Sound May turn → NeverStops statement Sound turn → IsQuiet (at_once statement) Sound turn
  body_quiet keeps never = record {
    goes = λ s sound.
        let e = never.gives s sound in
        let known = keeps.evaluated s e.0 sound e.1 in (
          statement.store turn e.0.value e.0.after,
          (
            ap (λ r. and_then r (λ d. Ok (statement.store turn d.value d.after))) e.1,
            keeps.stored e.0.value e.0.after known.0 known.1,
          ),
        );
  }

  pub body_keeps : Keeps statement Sound May turn → KeepsSound (at_once statement turn) Sound
  body_keeps keeps = record {
    kept = λ s after sound is.
        let e = reached (statement.evaluate turn s) (λ d. Ok (statement.store turn d.value d.after)) after is in
        let known = keeps.evaluated s e.0 sound e.1.0 in
        subst Sound (ok_is (statement.store turn e.0.value e.0.after) after e.1.1)
        (keeps.stored e.0.value e.0.after known.0 known.1);
  }

module _ {T S V W F : Type 0} (statement : Statement T S V F) (other : Statement T S W F) (Sound : S → Type 0)
    (May : T → V → Type 0) (Might : T → W → Type 0) (turn later : T) where
  -- how both end where the turn's values and stores come first, and where the later's do
  stored_after : V × W → S → Result S F
  stored_after vs s = Ok (other.store later vs.1 (statement.store turn vs.0 s))

  stored_before : V × W → S → Result S F
  stored_before vs s = Ok (statement.store turn vs.0 (other.store later vs.1 s))

  turn_then_later : (s : S) → Sound s → Keeps statement Sound May turn → AreApart statement other Sound May Might turn later →
      and_then (at_once statement turn s) (at_once other later)
      ≡ and_then (turn_first statement other turn later s) (λ p. stored_after p.value p.after)
  unfolding stored_after
  turn_then_later s sound keeps apart =
      let put : Evaluated V S → Result S F = λ e. Ok (statement.store turn e.value e.after) in
      let put_too : Evaluated W S → Result S F = λ d. Ok (other.store later d.value d.after) in
      let both : Evaluated V S → Result (Evaluated (V × W) S) F =
      λ e. and_then (other.evaluate later e.after) (λ d. pair_of e.value d.value d.after) in
      let last : Evaluated (V × W) S → Result S F = λ p. stored_after p.value p.after in
      then_then (statement.evaluate turn s) put (at_once other later)
      ∙ then_same (statement.evaluate turn s) (λ e. and_then (put e) (at_once other later)) (λ e. and_then (both e) last)
      (λ e is.
      let known = keeps.evaluated s e sound is in
      ap (λ r. and_then r put_too) (apart.ignored e.value e.after known.0 known.1)
      ∙ then_then (other.evaluate later e.after)
      (λ d. Ok (record { value = d.value; after = statement.store turn e.value d.after })) put_too
      ∙ sym (then_then (other.evaluate later e.after) (λ d. pair_of e.value d.value d.after) last))
      ∙ sym (then_then (statement.evaluate turn s) both last)

  later_then_turn : (s : S) → Sound s → Keeps other Sound Might later → AreApart statement other Sound May Might turn later →
      and_then (at_once other later s) (at_once statement turn)
      ≡ and_then (later_first statement other turn later s) (λ p. stored_before p.value p.after)
  unfolding stored_before
  later_then_turn s sound keeps apart =
      let put : Evaluated V S → Result S F = λ e. Ok (statement.store turn e.value e.after) in
      let put_too : Evaluated W S → Result S F = λ d. Ok (other.store later d.value d.after) in
      let both : Evaluated W S → Result (Evaluated (V × W) S) F =
      λ d. and_then (statement.evaluate turn d.after) (λ e. pair_of e.value d.value e.after) in
      let last : Evaluated (V × W) S → Result S F = λ p. stored_before p.value p.after in
      then_then (other.evaluate later s) put_too (at_once statement turn)
      ∙ then_same (other.evaluate later s) (λ d. and_then (put_too d) (at_once statement turn)) (λ d. and_then (both d) last)
      (λ d is.
      let known = keeps.evaluated s d sound is in
      ap (λ r. and_then r put) (apart.ignores d.value d.after known.0 known.1)
      ∙ then_then (statement.evaluate turn d.after)
      (λ e. Ok (record { value = e.value; after = other.store later d.value e.after })) put
      ∙ sym (then_then (statement.evaluate turn d.after) (λ e. pair_of e.value d.value e.after) last))
      ∙ sym (then_then (other.evaluate later s) both last)

  -- both have been evaluated
  pair_known : (s : S) (p : Evaluated (V × W) S) → Sound s → Keeps statement Sound May turn → Keeps other Sound Might later →
      turn_first statement other turn later s ≡ Ok p → May turn p.value.0 × Might later p.value.1 × Sound p.after
  pair_known s p sound keeps keeps_too is =
      let e = reached (statement.evaluate turn s)
      (λ e. and_then (other.evaluate later e.after) (λ d. pair_of e.value d.value d.after)) p is in
      let d = reached (other.evaluate later e.0.after) (λ d. pair_of e.0.value d.value d.after) p e.1.1 in
      let known = keeps.evaluated s e.0 sound e.1.0 in
      let known_too = keeps_too.evaluated e.0.after d.0 known.0 d.1.0 in
      let P : Evaluated (V × W) S → Type 0 = λ x. May turn x.value.0 × Might later x.value.1 × Sound x.after in
      subst P (ok_is (record { value = (e.0.value, d.0.value); after = d.0.after }) p d.1.1) (known.1, known_too.1, known_too.0)

  pub bodies_pass : Keeps statement Sound May turn → Keeps other Sound Might later →
      AreApart statement other Sound May Might turn later → Passes (at_once statement turn) (at_once other) Sound later
  unfolding stored_after stored_before
  bodies_pass keeps keeps_too apart = record {
    same = λ s sound.
        turn_then_later s sound keeps apart
        ∙ then_same (turn_first statement other turn later s) (λ p. stored_after p.value p.after)
        (λ p. stored_before p.value p.after)
        (λ p is.
        let known = pair_known s p sound keeps keeps_too is in
        ap (λ x. let went : Result S F = Ok x in went) (sym (apart.commutes p.value.0 p.value.1 p.after known.2 known.0 known.1)))
        ∙ ap (λ r. and_then r (λ p. stored_before p.value p.after)) (apart.evaluated s sound)
        ∙ sym (later_then_turn s sound keeps_too apart);
  }
