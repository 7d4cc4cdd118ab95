-- The rules of refusal of this phase, of the nested source that the reader has.
use Rattle.std.specs.Prelude.{ℕ}
use Rattle.a95_base.specs.Breaks.{IsLeast}
use Rattle.a95_base.specs.declared.source.PhaseError.{PhaseError}
use Rattle.a95_base.specs.declared.source.PhaseError.TheVariants.{Memory, Broken}
use Rattle.f95_tree.specs.declared.source.Source.{Source}
use Rattle.names_types.specs.Rules.{Breaks}
use Rattle.names_types.specs.View.{source_of}

-- the source breaks the rule on the line
abbrev pub IsBroken : Source → ℕ → ℕ → Type 0
IsBroken s line rule = Breaks (source_of s) line rule

-- what a refusal of the source says
abbrev pub Refuses : Source → PhaseError → Type 0
Refuses s Memory = Unit {0}
Refuses s (Broken line rule) = IsLeast (IsBroken s) line.0 rule.0
