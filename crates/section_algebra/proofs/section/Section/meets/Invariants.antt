use Rattle.std.proofs.Common.{drop}
use Rattle.std.specs.Prelude.{◌↔◌}
use Rattle.section_algebra.specs.Dimensions.{EachShares}
use Rattle.section_algebra.proofs.section.Section.meets.Given as goal

abbrev pub invariant-loop-dim : goal.invariant-loop-dim
invariant-loop-dim g l = EachShares l.self l.other ↔ EachShares (drop l.dim l.self) (drop l.dim l.other)
