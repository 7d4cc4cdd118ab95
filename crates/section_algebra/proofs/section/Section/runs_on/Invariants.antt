use Rattle.std.proofs.Common.{drop, true}
use Rattle.std.specs.Prelude.{◌↔◌}
use Rattle.section_algebra.specs.Dimensions.{RunsOn}
use Rattle.section_algebra.proofs.section.Section.runs_on.Given as goal

abbrev pub invariant-loop-dim : goal.invariant-loop-dim
invariant-loop-dim g l = RunsOn true l.self l.whole ↔ RunsOn l.full (drop l.dim l.self) (drop l.dim l.whole)
