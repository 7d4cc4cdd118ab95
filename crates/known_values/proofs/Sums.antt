-- Numbers of values and extents, put together from the front.
use Rattle.std.proofs.Common.{◌≡◌, ℕ, ◌+◌, List, [], ◌∷◌, ◌++◌, length, Option, Some, None, refl, ap, arith}
use Rattle.std.proofs.lemmas.List.{append-nil}
use Rattle.a95_base.specs.declared.scalar.Scalar.{Scalar}
use Rattle.f95_unit.specs.declared.expr.Subscript.{Subscript}
use Rattle.f95_unit.specs.declared.facts.Facts.{Facts}
use Rattle.proc_calls.specs.View.{subscripts_of}
use Rattle.well_typed.specs.declared.known.Dim.{Dim}
use Rattle.well_typed.specs.Shapes.{Extents}
use Rattle.well_typed.specs.Known.{plus, first_facts, first_or, section_extents}

pub plus_zero : (m : Option ℕ) → plus m (Some 0) ≡ m
plus_zero None = refl
plus_zero (Some m) = ap Some (omega arith)

pub plus_from_zero : (m : Option ℕ) → plus (Some 0) m ≡ m
plus_from_zero None = refl
plus_from_zero (Some m) = ap Some (omega arith)

pub plus_assoc : (k m n : Option ℕ) → plus k (plus m n) ≡ plus (plus k m) n
plus_assoc None m n = refl
plus_assoc (Some k) None n = refl
plus_assoc (Some k) (Some m) None = refl
plus_assoc (Some k) (Some m) (Some n) = ap Some (omega arith)

-- the first of two lists
pub first_appended : (fs gs : List Facts) → first_facts (fs ++ gs) ≡ first_or (first_facts fs) (first_facts gs)
first_appended [] gs = refl
first_appended (f ∷ fs) gs = refl

-- where no subscript is left
pub section_ends : (made : Extents) (constants : List Scalar) (dims : List Dim) (rest : List Subscript) → length rest ≡ 0
    → made ++ section_extents constants dims (subscripts_of rest) ≡ made
section_ends made constants [] rest e = append-nil made
section_ends made constants (d ∷ dims) [] e = append-nil made
section_ends made constants (d ∷ dims) (s ∷ more) e = absurd (omega (arith, e))
