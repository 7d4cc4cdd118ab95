use Rattle.std.proofs.Common.{◌≡◌, ◌≢◌, pos, ◌++◌, length, take, drop}
use Rattle.a95_base.specs.Lists.{Every}
use Rattle.section_algebra.specs.Section.{triplets}
use Rattle.section_algebra.proofs.Sections.{whole_counts}
use Rattle.section_algebra.proofs.section.Section.new.Given as goal

abbrev pub invariant-loop-dim : goal.invariant-loop-dim
invariant-loop-dim g l = record {
  long : length l.count ≡ g.row.R;
  same : take l.dim l.count ++ whole_counts (triplets (drop l.dim l.lower) (drop l.dim l.upper) (drop l.dim l.stride))
      ≡ whole_counts (triplets l.lower l.upper l.stride);
  steps : Every (λ s. s ≢ pos 0) (drop l.dim l.stride) → Every (λ s. s ≢ pos 0) l.stride;
}
