-- Linear forms: a constant and a sum of atoms, each with a factor. Numbers are exact here; what an operation gives is taken
-- modulo 2^32, into the range of an INTEGER.
use Rattle.std.specs.Prelude.{◌≢◌, ℕ, ℤ, pos, ◌<◌, ◌+ℤ◌, ◌*ℤ◌, nat_eq, if◌then◌else◌, List, [], ◌∷◌}
use Rattle.a95_base.specs.IntegerLaws.{IsInteger}
use Rattle.a95_base.specs.Lists.{Every, Pairwise}
use Rattle.section_algebra.specs.declared.atom.Atom.{Atom}

-- an atom with its factor
abbrev pub Term : Type 0
Term = Atom × ℤ

pub record Form : Type 0 where
  pub constant : ℤ
  pub terms : List Term

-- the factor of this atom in a term
abbrev pub factor_of : Term → ℕ → ℤ
factor_of term atom = if nat_eq term.0.0 atom then term.1 else pos 0

-- the factor of an atom in a sum: 0 where it doesn't stand there
abbrev pub factor_in : List Term → ℕ → ℤ
factor_in [] atom = pos 0
factor_in (term ∷ terms) atom = factor_of term atom +ℤ factor_in terms atom

-- what a sum comes to where the atoms have these values
abbrev pub sum_in : (ℕ → ℤ) → List Term → ℤ
sum_in values [] = pos 0
sum_in values (term ∷ terms) = term.1 *ℤ values term.0.0 +ℤ sum_in values terms

abbrev pub value_of : (ℕ → ℤ) → Form → ℤ
value_of values form = form.constant +ℤ sum_in values form.terms

abbrev pub IsBelow : ℕ → List Term → Type 0
IsBelow atom = Every (λ term. atom < term.0.0)

-- the atoms rise, so each stands once, and no factor is 0
pub record IsSum (terms : List Term) : Type 0 where
  pub rises : Pairwise (λ term later. term.0.0 < later.0.0) terms
  pub factors : Every (λ term. IsInteger term.1 × (term.1 ≢ pos 0)) terms

pub record IsForm (form : Form) : Type 0 where
  pub constant : IsInteger form.constant
  pub sum : IsSum form.terms
