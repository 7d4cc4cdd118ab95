-- One unit, which breaks nothing.
use Rattle.std.proofs.Common.{◌≡◌, ℕ, List, sym, ◌∙◌, ap, subst, refl}
use Rattle.f95_tree.specs.declared.source.Source.{Source}
use Rattle.f95_reader.specs.Reading.{ReadsSource}
use Rattle.f95_reader.specs.Reading as reader
use Rattle.rank_one.specs.declared.unit.Unit.{Unit}
use Rattle.rank_one.specs.Reading.{IsUnit, IsNotYet, IsUndeclared, unit_of}
use Rattle.f95_source.specs.Source.{Reads, IsBroken, before_names, not_built, in_names}

abbrev pub OneSource : Type 0
OneSource = (bytes : List ℕ) (a b : Source) → ReadsSource bytes a → ReadsSource bytes b → a ≡ b

abbrev pub NothingBroken : Type 0
NothingBroken = (bytes : List ℕ) (s : Source) (phase line rule : ℕ) → ReadsSource bytes s → reader.IsBroken bytes phase line rule →
    ⊥

module _ (one : OneSource) where
  pub one_unit : (bytes : List ℕ) (a b : Unit) → Reads bytes a → Reads bytes b → a ≡ b
  one_unit bytes a b r q = r.is.is ∙ ap unit_of (one bytes r.source q.source r.reads q.reads) ∙ sym q.is.is

module _ (one : OneSource) (none : NothingBroken) where
  pub breaks_nothing : (bytes : List ℕ) (u : Unit) (phase line rule : ℕ) → Reads bytes u → IsBroken bytes phase line rule → ⊥
  breaks_nothing bytes u phase line rule r (before_names b) = none bytes r.source phase line rule r.reads b
  breaks_nothing bytes u phase line rule r (not_built s q n) =
      r.is.built line rule (subst (λ z. IsNotYet z line rule) (one bytes s r.source q r.reads) n)
  breaks_nothing bytes u phase line rule r (in_names s q built n) =
      r.is.declared line rule (subst (λ z. IsUndeclared z line rule) (one bytes s r.source q r.reads) n)
