-- Loops over dimensions that stop at the first which fails: what is asked of the whole is asked of what is left.
use Rattle.std.specs.Prelude.{◌↔◌, true, false, IsTrue, refl}
use Rattle.std.proofs.lemmas.Bool.{false≢true}

pub goes_on : (A B C D : Type 0) → (A ↔ B) → (B ↔ (C × D)) → C → (A ↔ D)
goes_on A B C D whole step here = (λ a. (step.0 (whole.0 a)).1, λ d. whole.1 (step.1 (here, d)))

pub stops : (A B C D : Type 0) → (A ↔ B) → (B ↔ (C × D)) → (C → ⊥) → A → ⊥
stops A B C D whole step fails a = fails (step.0 (whole.0 a)).0

pub and_so : (A B C : Type 0) → (A ↔ B) → (B ↔ C) → (A ↔ C)
and_so A B C f g = (λ a. g.0 (f.0 a), λ c. f.1 (g.1 c))

pub never : (A : Type 0) → (A → ⊥) → (IsTrue false ↔ A)
never A fails = (λ t. absurd (false≢true t), λ a. absurd (fails a))

pub always : (A : Type 0) → A → (IsTrue true ↔ A)
always A a = (λ t. a, λ b. refl)
