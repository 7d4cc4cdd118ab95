use Rattle.std.proofs.Common.{◌≡◌, drop}
use Rattle.rank_shape.specs.Shape.{size_of}
use Rattle.section_algebra.specs.Section.{counts_of}
use Rattle.section_algebra.proofs.section.Section.is_empty.Given as goal

abbrev pub invariant-loop-dim : goal.invariant-loop-dim
invariant-loop-dim g l = size_of (counts_of l.self) ≡ 0 → size_of (counts_of (drop l.dim l.self)) ≡ 0
