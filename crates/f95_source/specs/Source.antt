-- What bytes read as, and the rules that they break, as far as the language is built: the nested forms that are of the first form.
use Rattle.std.specs.Prelude.{◌≡◌, ℕ, List}
use Rattle.a95_base.specs.Rules.{not_yet, undeclared}
use Rattle.f95_tree.specs.declared.source.Source.{Source}
use Rattle.f95_reader.specs.Reading.{ReadsSource, IsLeast}
use Rattle.f95_reader.specs.Reading as reader
use Rattle.f95_reader.specs.declared.refusal.Refusal.{Refusal}
use Rattle.f95_reader.specs.declared.refusal.Refusal.TheVariants as refusal
use Rattle.rank_one.specs.declared.unit.Unit as unit
use Rattle.rank_one.specs.Reading.{IsUnit, IsNotYet, IsUndeclared, IsBuilt}

-- the bytes read as nested forms, and those are this unit
pub record Reads (bytes : List ℕ) (u : unit.Unit) : Type 0 where
  pub source : Source
  pub reads : ReadsSource bytes source
  pub is : IsUnit source u

-- the bytes break this rule of this phase on this line
pub data IsBroken (bytes : List ℕ) : ℕ → ℕ → ℕ → Type 0 where
  -- a rule on text, forms or nesting
  before_names : {phase line rule : ℕ} → reader.IsBroken bytes phase line rule → IsBroken bytes phase line rule
  -- what isn't built yet, where the bytes break no such rule
  not_built : {line rule : ℕ} (source : Source) → ReadsSource bytes source → IsNotYet source line rule → IsBroken bytes 3 line rule
  -- a name that isn't declared, where all is built
  in_names : {line rule : ℕ} (source : Source) → ReadsSource bytes source → IsBuilt source → IsUndeclared source line rule
      → IsBroken bytes 4 line rule

-- they break none
abbrev pub IsUnbroken : List ℕ → Type 0
IsUnbroken bytes = (phase line rule : ℕ) → IsBroken bytes phase line rule → ⊥

-- what a refusal of these bytes says; want of memory is free
abbrev pub IsRefusedFor : Refusal → List ℕ → Type 0
IsRefusedFor (refusal.Refused phase line rule) bytes = IsLeast (IsBroken bytes) phase line.0 rule.0
IsRefusedFor refusal.Memory bytes = Unit {0}
