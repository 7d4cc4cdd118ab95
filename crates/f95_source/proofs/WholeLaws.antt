-- Bytes that break no rule read as a unit.
use Rattle.std.proofs.Common.{◌≡◌, ℕ, List}
use Rattle.f95_tree.specs.declared.source.Source.{Source}
use Rattle.f95_reader.specs.Reading.{ReadsSource}
use Rattle.f95_reader.specs.Reading as reader
use Rattle.rank_one.specs.declared.unit.Unit as unit
use Rattle.rank_one.specs.Reading.{IsUnit, IsBuilt, AreDeclared}
use Rattle.f95_source.specs.Source.{Reads, before_names, not_built, in_names, IsUnbroken}

-- what the reader says of bytes that break no rule before names, and `rank_one` of a source that breaks none
abbrev pub ReadsWhole : Type 0
ReadsWhole = (bytes : List ℕ) → reader.IsUnbroken bytes → (s : Source) × ReadsSource bytes s

abbrev pub UnitWhole : Type 0
UnitWhole = (s : Source) → IsBuilt s → AreDeclared s → (u : unit.Unit) × IsUnit s u

pub unbroken_read : ReadsWhole → UnitWhole → (bytes : List ℕ) → IsUnbroken bytes → (u : unit.Unit) × Reads bytes u
unbroken_read whole some bytes unbroken =
    let source = whole bytes (λ p. λ l. λ r. λ b. unbroken p l r (before_names b)) in
    let built : IsBuilt source.0 = λ l. λ r. λ n. unbroken 3 l r (not_built source.0 source.1 n) in
    let declared : AreDeclared source.0 = λ l. λ r. λ n. unbroken 4 l r (in_names source.0 source.1 built n) in
    let is = some source.0 built declared in
    (is.0, record { source = source.0; reads = source.1; is = is.1 })
