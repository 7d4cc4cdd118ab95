-- Stores made at once and stores made after all evaluations.
use Rattle.std.proofs.Common.{◌≡◌, List, [], ◌∷◌, Result, Ok, Err, refl, sym, ap, ◌∙◌, subst}
use Rattle.a95_base.specs.Lists.{Every, Pairwise, Permuted}
use Rattle.a95_base.specs.Lists.Permuted.{none, skip, swap, join}
use Rattle.a95_base.proofs.Permuted.{Permuted-Every, Permuted-Pairwise}
use Rattle.store_laws.specs.Store.{and_then, Evaluated, Statement, direct, values, store_all, deferred, Keeps, Ignores, IsStill}
use Rattle.store_laws.specs.Store.{Commutes, StopsAlike}

pub then_then : {A B C F : Type 0} (r : Result A F) (f : A → Result B F) (g : B → Result C F) → and_then (and_then r f) g
    ≡ and_then r (λ a. and_then (f a) g)
then_then (Ok a) f g = refl
then_then (Err stop) f g = refl

-- two ways to go on that agree at what a result gives
pub then_same : {A B F : Type 0} (r : Result A F) (f g : A → Result B F) → ((a : A) → r ≡ Ok a → f a ≡ g a) →
    and_then r f ≡ and_then r g
then_same (Ok a) f g same = same a refl
then_same (Err stop) f g same = refl

-- two results that are taken in either order
pub either_order : {A B C F : Type 0} (x : Result A F) (y : Result B F) (f : A → B → Result C F) (g : B → A → Result C F) →
    ((a : A) (b : B) → x ≡ Ok a → y ≡ Ok b → f a b ≡ g b a) → ((stop other : F) → x ≡ Err stop → y ≡ Err other → stop ≡ other) →
    and_then x (λ a. and_then y (f a)) ≡ and_then y (λ b. and_then x (g b))
either_order (Ok a) (Ok b) f g same alike = same a b refl refl
either_order (Ok a) (Err other) f g same alike = refl
either_order (Err stop) (Ok b) f g same alike = refl
either_order (Err stop) (Err other) f g same alike = ap Err (alike stop other refl refl)

-- all values are taken in one state, and stored one by one into another
finish : {T S V F : Type 0} → Statement T S V F → List T → S → S → Result S F
finish statement [] s base = Ok base
finish statement (turn ∷ turns) s base = and_then (statement.evaluate turn s)
    (λ e. finish statement turns s (statement.store turn e.value base))

module _ {T S V F : Type 0} (statement : Statement T S V F) (Sound : S → Type 0) (May : T → V → Type 0) where
  -- later values are the same before and after a store that they ignore
  values_past : (turn : T) (v : V) → May turn v → Keeps statement Sound May turn → (later : List T) (s : S) →
      Every (Keeps statement Sound May) later → Every (Ignores statement Sound May turn) later → Sound s →
      values statement later (statement.store turn v s) ≡ and_then (values statement later s)
      (λ es. Ok (record { value = es.value; after = statement.store turn v es.after }))
  values_past turn v may keeps [] s all_keep ignores sound = refl
  values_past turn v may keeps (t ∷ later) s all_keep ignores sound =
      let go : Evaluated V S → Result (Evaluated (List V) S) F =
      λ e. and_then (values statement later e.after) (λ es. Ok (record { value = e.value ∷ es.value; after = es.after })) in
      let put : Evaluated (List V) S → Result (Evaluated (List V) S) F =
      λ es. Ok (record { value = es.value; after = statement.store turn v es.after }) in
      let moved : Evaluated V S → Result (Evaluated V S) F =
      λ e. Ok (record { value = e.value; after = statement.store turn v e.after }) in
      ap (λ r. and_then r go) (ignores.0.same v s sound may)
      ∙ then_then (statement.evaluate t s) moved go
      ∙ then_same (statement.evaluate t s) (λ e. and_then (moved e) go) (λ e. and_then (go e) put)
      (λ e is.
      ap (λ r. and_then r
      (λ es. let here : Evaluated (List V) S = record { value = e.value ∷ es.value; after = es.after } in
      let answer : Result (Evaluated (List V) S) F = Ok here in answer))
      (values_past turn v may keeps later e.after all_keep.1 ignores.1 (all_keep.0.evaluated s e sound is).0)
      ∙ then_then (values statement later e.after) put (λ es. Ok (record { value = e.value ∷ es.value; after = es.after }))
      ∙ sym (then_then (values statement later e.after) (λ es. Ok (record { value = e.value ∷ es.value; after = es.after })) put))
      ∙ sym (then_then (statement.evaluate t s) go put)

  pub direct_deferred : (turns : List T) (s : S) → Every (Keeps statement Sound May) turns →
      Pairwise (Ignores statement Sound May) turns → Sound s → direct statement turns s ≡ deferred statement turns s
  direct_deferred [] s keeps ignores sound = refl
  direct_deferred (t ∷ turns) s keeps ignores sound =
      let go : Evaluated V S → Result (Evaluated (List V) S) F =
      λ e. and_then (values statement turns e.after) (λ es. Ok (record { value = e.value ∷ es.value; after = es.after })) in
      let last : Evaluated (List V) S → Result S F = λ es. Ok (store_all statement turns es.value es.after) in
      let whole : Evaluated (List V) S → Result S F = λ es. Ok (store_all statement (t ∷ turns) es.value es.after) in
      then_same (statement.evaluate t s) (λ e. direct statement turns (statement.store t e.value e.after))
      (λ e. and_then (go e) whole)
      (λ e is.
      let known = keeps.0.evaluated s e sound is in
      direct_deferred turns (statement.store t e.value e.after) keeps.1 ignores.1 (keeps.0.stored e.value e.after known.0 known.1)
      ∙ ap (λ r. and_then r last) (values_past t e.value known.1 keeps.0 turns e.after keeps.1 ignores.0 known.0)
      ∙ then_then (values statement turns e.after)
      (λ es. Ok (record { value = es.value; after = statement.store t e.value es.after })) last
      ∙ sym (then_then (values statement turns e.after) (λ es. Ok (record { value = e.value ∷ es.value; after = es.after })) whole))
      ∙ sym (then_then (statement.evaluate t s) go whole)

  -- evaluations that leave the state alone may be taken in the state where all began
  deferred_finish : (turns : List T) (s : S) (into : S → S) → Sound s → Every (IsStill statement Sound) turns →
      and_then (values statement turns s) (λ es. Ok (store_all statement turns es.value (into es.after)))
      ≡ finish statement turns s (into s)
  unfolding finish
  deferred_finish [] s into sound still = refl
  deferred_finish (t ∷ turns) s into sound still =
      let go : Evaluated V S → Result (Evaluated (List V) S) F =
      λ e. and_then (values statement turns e.after) (λ es. Ok (record { value = e.value ∷ es.value; after = es.after })) in
      let whole : Evaluated (List V) S → Result S F = λ es. Ok (store_all statement (t ∷ turns) es.value (into es.after)) in
      then_then (statement.evaluate t s) go whole
      ∙ then_same (statement.evaluate t s) (λ e. and_then (go e) whole)
      (λ e. finish statement turns s (statement.store t e.value (into s)))
      (λ e is.
      let same : e.after ≡ s = still.0.after s e sound is in
      then_then (values statement turns e.after) (λ es. Ok (record { value = e.value ∷ es.value; after = es.after })) whole
      ∙ deferred_finish turns e.after (λ x. statement.store t e.value (into x)) (subst Sound (sym same) sound) still.1
      ∙ ap (λ x. finish statement turns x (statement.store t e.value (into x))) same)

  finish_permuted : {xs ys : List T} (s base : S) → Permuted xs ys → Sound s → Sound base → Every (Keeps statement Sound May) xs →
      Pairwise (Commutes statement Sound May) xs → Pairwise (StopsAlike statement s) xs → finish statement xs s base
      ≡ finish statement ys s base
  unfolding finish
  finish_permuted s base none sound base_sound keeps commutes alike = refl
  finish_permuted s base (skip t {xs = xs} {ys = ys} p) sound base_sound keeps commutes alike =
      then_same (statement.evaluate t s) (λ e. finish statement xs s (statement.store t e.value base))
      (λ e. finish statement ys s (statement.store t e.value base))
      (λ e is. finish_permuted s (statement.store t e.value base) p sound
      (keeps.0.stored e.value base base_sound (keeps.0.evaluated s e sound is).1) keeps.1 commutes.1 alike.1)
  finish_permuted s base (swap x y zs) sound base_sound keeps commutes alike =
      either_order (statement.evaluate x s) (statement.evaluate y s)
      (λ e d. finish statement zs s (statement.store y d.value (statement.store x e.value base)))
      (λ d e. finish statement zs s (statement.store x e.value (statement.store y d.value base)))
      (λ e d e_is d_is.
      ap (finish statement zs s)
      (sym (commutes.0.0.same e.value d.value base base_sound (keeps.0.evaluated s e sound e_is).1
      (keeps.1.0.evaluated s d sound d_is).1)))
      (λ stop other x_is y_is. alike.0.0.same stop other x_is y_is)
  finish_permuted s base (join p q) sound base_sound keeps commutes alike =
      finish_permuted s base p sound base_sound keeps commutes alike
      ∙ finish_permuted s base q sound base_sound (Permuted-Every (Keeps statement Sound May) p keeps)
      (Permuted-Pairwise (Commutes statement Sound May)
      (λ a b c. record { same = λ v w x x_sound may_v may_w. sym (c.same w v x x_sound may_w may_v) }) p commutes)
      (Permuted-Pairwise (StopsAlike statement s) (λ a b c. record { same = λ f g f_is g_is. sym (c.same g f g_is f_is) }) p alike)

  pub deferred_permuted : {xs ys : List T} (s : S) → Permuted xs ys → Sound s → Every (Keeps statement Sound May) xs →
      Every (IsStill statement Sound) xs → Pairwise (Commutes statement Sound May) xs → Pairwise (StopsAlike statement s) xs →
      deferred statement xs s ≡ deferred statement ys s
  deferred_permuted {xs} {ys} s p sound keeps still commutes alike =
      deferred_finish xs s (λ x. x) sound still
      ∙ finish_permuted s s p sound sound keeps commutes alike
      ∙ sym (deferred_finish ys s (λ x. x) sound (Permuted-Every (IsStill statement Sound) p still))
