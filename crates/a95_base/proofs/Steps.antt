-- Laws of steps.
use Rattle.std.proofs.Common.{◌≡◌, refl, ap}
use Rattle.std.specs.Prelude.{Result, Ok, Err}
use Rattle.a95_base.specs.Steps.{Ran, pure, stop, behind, ◌>>=◌, ◌>>◌}

module _ {E S : Type 0} where
  behind_behind : {A B C : Type 0} (next : A → S → Ran E S B) (last : B → S → Ran E S C) (r : Result A E) (s : S)
      → behind last (behind next r s).came (behind next r s).after ≡ behind (λ a. next a >>= last) r s
  unfolding behind ◌>>=◌
  behind_behind next last (Ok a) s = refl
  behind_behind next last (Err e) s = refl

  pub assoc : {A B C : Type 0} (step : S → Ran E S A) (next : A → S → Ran E S B) (last : B → S → Ran E S C) (s : S)
      → ((step >>= next) >>= last) s ≡ (step >>= (λ a. next a >>= last)) s
  unfolding ◌>>=◌
  assoc step next last s = behind_behind next last (step s).came (step s).after

  pub left_unit : {A B : Type 0} (a : A) (next : A → S → Ran E S B) (s : S) → (pure a >>= next) s ≡ next a s
  unfolding ◌>>=◌ pure behind
  left_unit a next s = refl

  behind_pure : {A : Type 0} (r : Result A E) (s : S) → behind pure r s ≡ record { came = r; after = s }
  unfolding behind pure
  behind_pure (Ok a) s = refl
  behind_pure (Err e) s = refl

  pub right_unit : {A : Type 0} (step : S → Ran E S A) (s : S) → (step >>= pure) s ≡ step s
  unfolding ◌>>=◌
  right_unit step s = behind_pure (step s).came (step s).after

  pub stop_ends : {A B : Type 0} (e : E) (next : A → S → Ran E S B) (s : S) → (stop e >>= next) s ≡ stop e s
  unfolding ◌>>=◌ stop behind
  stop_ends e next s = refl

  behind_same : {A B : Type 0} (next other : A → S → Ran E S B) → ((a : A) (s : S) → next a s ≡ other a s) →
      (r : Result A E) (s : S) → behind next r s ≡ behind other r s
  unfolding behind
  behind_same next other same (Ok a) s = same a s
  behind_same next other same (Err e) s = refl

  -- equal steps behind a step
  pub then_same : {A B : Type 0} (step : S → Ran E S A) (next other : A → S → Ran E S B) → ((a : A) (s : S) → next a s ≡ other a s)
      → (s : S) → (step >>= next) s ≡ (step >>= other) s
  unfolding ◌>>=◌
  then_same step next other same s = behind_same next other same (step s).came (step s).after

  -- another first step that comes to the same
  pub instead : {A B : Type 0} (step other : S → Ran E S A) (next : A → S → Ran E S B) (s : S) → step s ≡ other s →
      (step >>= next) s ≡ (other >>= next) s
  unfolding ◌>>=◌
  instead step other next s same = ap (λ r. behind next r.came r.after) same

  pub value_unread : {A B : Type 0} (step : S → Ran E S A) (next : S → Ran E S B) (s : S) →
      (step >> next) s ≡ (step >>= (λ a. next)) s
  unfolding ◌>>=◌ ◌>>◌
  value_unread step next s = refl
