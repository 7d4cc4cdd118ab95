-- The laws of steps, for one type of errors, one of states, and three of values.
use Rattle.std.specs.Prelude.{◌≡◌}
use Rattle.a95_base.specs.Steps.{Ran, pure, stop, ◌>>=◌, ◌>>◌}

module _ (E S A B C : Type 0) where
  -- where the brackets stand is no matter
  abbrev pub BracketsMove : Type 0
  BracketsMove =
      (step : S → Ran E S A) (next : A → S → Ran E S B) (last : B → S → Ran E S C) (s : S)
      → ((step >>= next) >>= last) s ≡ (step >>= (λ a. next a >>= last)) s

  -- a value in front or at the end is no step, and nothing follows an error
  abbrev pub ValuePasses : Type 0
  ValuePasses = (a : A) (next : A → S → Ran E S B) (s : S) → (pure a >>= next) s ≡ next a s

  abbrev pub ValueEnds : Type 0
  ValueEnds = (step : S → Ran E S A) (s : S) → (step >>= pure) s ≡ step s

  abbrev pub ErrorEnds : Type 0
  ErrorEnds = (e : E) (next : A → S → Ran E S B) (s : S) → (stop e >>= next) s ≡ stop e s

  -- equal steps behind a step, and another step in front that comes to the same
  abbrev pub NextSame : Type 0
  NextSame =
      (step : S → Ran E S A) (next other : A → S → Ran E S B) → ((a : A) (s : S) → next a s ≡ other a s)
      → (s : S) → (step >>= next) s ≡ (step >>= other) s

  abbrev pub FirstSame : Type 0
  FirstSame =
      (step other : S → Ran E S A) (next : A → S → Ran E S B) (s : S) → step s ≡ other s → (step >>= next) s ≡ (other >>= next) s

  -- `>>` is `>>=` that makes nothing of the value
  abbrev pub ValueUnread : Type 0
  ValueUnread = (step : S → Ran E S A) (next : S → Ran E S B) (s : S) → (step >> next) s ≡ (step >>= (λ a. next)) s
