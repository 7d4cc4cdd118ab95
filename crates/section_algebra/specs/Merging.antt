-- What the steps of a merge of two sums do. No public clause cites this.
use Rattle.std.specs.Prelude.{◌≡◌, ◌⊎◌, ℕ, ℤ, ◌<◌, ◌≤◌, ◌+ℤ◌, ◌*ℤ◌, List, [], ◌∷◌, length, take, drop}
use Rattle.a95_base.specs.Lists.{Every}
use Rattle.section_algebra.specs.Form.{Term, sum_in, IsSum, IsBelow}

-- an atom with a factor is put behind a sum of lesser atoms; a factor of 0 leaves it as it is
pub record Grows (old : List Term) (atom : ℕ) (factor : ℤ) (new : List Term) : Type 0 where
  pub sum : IsSum new
  pub value : (values : ℕ → ℤ) → sum_in values new ≡ sum_in values old +ℤ factor *ℤ values atom
  pub below : (rest : List Term) → Every (λ term. IsBelow term.0.0 rest) old → IsBelow atom rest
      → Every (λ term. IsBelow term.0.0 rest) new

-- none of these atoms is less
abbrev pub IsLeast : ℕ → List Term → Type 0
IsLeast atom = Every (λ term. atom ≤ term.0.0)

-- the atom stands first
abbrev pub Starts : ℕ → List Term → Type 0
Starts atom [] = ⊥
Starts atom (term ∷ terms) = term.0.0 ≡ atom

-- the least atom of what is left of two sums
pub record IsLeastOf (terms others : List Term) (atom : ℕ) : Type 0 where
  pub first : IsLeast atom terms
  pub second : IsLeast atom others
  pub stands : Starts atom terms ⊎ Starts atom others

-- the term of this atom is taken from what is left of a sum; where it isn't there, its factor is 0
pub record Takes (terms : List Term) (from atom next : ℕ) (factor : ℤ) : Type 0 where
  pub within : next ≤ length terms
  pub onward : from ≤ next
  pub value : (values : ℕ → ℤ) → sum_in values (take next terms) ≡ sum_in values (take from terms) +ℤ factor *ℤ values atom
  pub left : IsBelow atom (drop next terms)
  pub falls : (rest : ℕ) → IsBelow rest (drop from terms) → IsBelow rest (drop next terms)
  pub takes : Starts atom (drop from terms) → from < next
