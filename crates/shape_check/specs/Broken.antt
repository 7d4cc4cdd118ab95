-- The rules of refusal of this phase: on which lines of a source each of them is broken.
use Rattle.std.specs.Prelude.{◌≡◌, ℕ, true}
use Rattle.a95_base.specs.Breaks.{IsLeast}
use Rattle.a95_base.specs.Lists.{Member}
use Rattle.a95_base.specs.Rules.{wrong_kind_or_rank, extents_differ, wrong_intrinsic_arguments, wrong_designator, wrong_store}
use Rattle.a95_base.specs.Rules.{wrong_case, wrong_mask, wrong_forall, wrong_constructor, wrong_read_item}
use Rattle.a95_base.specs.declared.source.PhaseError.{PhaseError}
use Rattle.a95_base.specs.declared.source.PhaseError.TheVariants.{Memory, Broken}
use Rattle.names_types.specs.Rules.{Breaks as BreaksNames}
use Rattle.f95_unit.specs.Plain.{Program}
use Rattle.shape_check.specs.Statements.{Source, declared_source}
use Rattle.well_typed.specs.Questions.{Posed}
use Rattle.well_typed.specs.Rules.{has_wrong_kinds, has_other_extents, has_wrong_arguments, has_wrong_subscripts, has_wrong_store}
use Rattle.well_typed.specs.Rules.{has_wrong_case, has_wrong_mask, has_wrong_index, has_wrong_values, has_wrong_item}
use Rattle.shape_check.specs.Units.{posed, unit_of}

-- a source breaks the rule on the line
pub data Breaks (s : Source) : ℕ → ℕ → Type 0 where
  kinds_dont_fit : (p : Posed) → Member (posed s) p → has_wrong_kinds p.question ≡ true → Breaks s p.line wrong_kind_or_rank
  extents_dont_fit : (p : Posed) → Member (posed s) p → has_other_extents p.question ≡ true → Breaks s p.line extents_differ
  arguments_dont_fit : (p : Posed) → Member (posed s) p → has_wrong_arguments p.question ≡ true
      → Breaks s p.line wrong_intrinsic_arguments
  designates_nothing : (p : Posed) → Member (posed s) p → has_wrong_subscripts p.question ≡ true → Breaks s p.line wrong_designator
  may_not_store : (p : Posed) → Member (posed s) p → has_wrong_store p.question ≡ true → Breaks s p.line wrong_store
  case_doesnt_fit : (p : Posed) → Member (posed s) p → has_wrong_case p.question ≡ true → Breaks s p.line wrong_case
  mask_doesnt_fit : (p : Posed) → Member (posed s) p → has_wrong_mask p.question ≡ true → Breaks s p.line wrong_mask
  forall_doesnt_fit : (p : Posed) → Member (posed s) p → has_wrong_index p.question ≡ true → Breaks s p.line wrong_forall
  values_dont_fit : (p : Posed) → Member (posed s) p → has_wrong_values p.question ≡ true → Breaks s p.line wrong_constructor
  item_doesnt_fit : (p : Posed) → Member (posed s) p → has_wrong_item p.question ≡ true → Breaks s p.line wrong_read_item

-- what a refusal of the source says
abbrev pub Refuses : Source → PhaseError → Type 0
Refuses s Memory = Unit {0}
Refuses s (Broken line rule) = IsLeast (Breaks s) line.0 rule.0

-- the source breaks no rule on names, and none of this phase
pub record IsUnbroken (s : Source) : Type 0 where
  pub names : (line rule : ℕ) → BreaksNames (declared_source s) line rule → ⊥
  pub shapes : (line rule : ℕ) → Breaks s line rule → ⊥

-- it has this typed unit
abbrev pub HasUnit : Source → Program → Type 0
HasUnit s u = IsUnbroken s × (unit_of s ≡ u)
