-- A rule that a call tells, by its number, and the two rules that may come one after the other.
use Rattle.std.specs.Prelude.{ℕ, Bool, not, ◌&&◌, Option, Some, None}
use Rattle.a95_base.specs.declared.source.Rule.{Rule}
use Rattle.a95_base.specs.Rules.{wrong_kind_or_rank, extents_differ, wrong_mask}
use Rattle.well_typed.specs.Rules.{rule_if}

abbrev pub told : Option Rule → Option ℕ
told None = None
told (Some r) = Some r.0

-- extents are compared only where kinds and ranks fit
abbrev pub then_extents : ℕ → (fit differ : Bool) → Option ℕ
then_extents rule fit differ = rule_if (not fit) rule (rule_if (fit && differ) extents_differ None)
