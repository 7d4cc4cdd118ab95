-- Steps on a state. A step comes to a value or to an error, and leaves a state behind. A list of steps is written with `do`:
-- each one gets the state that the one before it left, and an error ends the list.
use Rattle.std.specs.Prelude.{Result, Ok, Err}

-- what a step came to, and the state after it
pub record Ran (E S A : Type 0) : Type 0 where
  pub came : Result A E
  pub after : S

module _ {E S : Type 0} where
  -- a value in place, and an error in place: the state is left as it is
  unfoldable pub pure : {A : Type 0} → A → S → Ran E S A
  pure a s = record { came = Ok a; after = s }

  unfoldable pub stop : {A : Type 0} → E → S → Ran E S A
  stop e s = record { came = Err e; after = s }

  -- what goes on with a value, and not with an error
  unfoldable pub behind : {A B : Type 0} → (A → S → Ran E S B) → Result A E → S → Ran E S B
  behind next (Ok a) s = next a s
  behind next (Err e) s = record { came = Err e; after = s }

  -- one step, and the next one with its value
  infixl 10 ◌>>=◌
  unfoldable pub ◌>>=◌ : {A B : Type 0} → (S → Ran E S A) → (A → S → Ran E S B) → S → Ran E S B
  (step >>= next) s = behind next (step s).came (step s).after

  -- one step, and the next one whatever the value
  infixl 10 ◌>>◌
  unfoldable pub ◌>>◌ : {A B : Type 0} → (S → Ran E S A) → (S → Ran E S B) → S → Ran E S B
  (step >> next) s = behind (λ a. next) (step s).came (step s).after
