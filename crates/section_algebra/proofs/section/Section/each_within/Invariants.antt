use Rattle.std.proofs.Common.{drop}
use Rattle.std.specs.Prelude.{◌↔◌}
use Rattle.section_algebra.specs.Dimensions.{EachWithin}
use Rattle.section_algebra.proofs.section.Section.each_within.Given as goal

abbrev pub invariant-loop-dim : goal.invariant-loop-dim
invariant-loop-dim g l =
    EachWithin l.lower l.upper l.self ↔ EachWithin (drop l.dim l.lower) (drop l.dim l.upper) (drop l.dim l.self)
