use Rattle.std.proofs.Common.{◌≡◌, ◌++◌, length, take, drop}
use Rattle.rank_shape.specs.Shape.{naturals}
use Rattle.section_algebra.specs.Section.{place_named}
use Rattle.section_algebra.proofs.section.Section.place.Given as goal

abbrev pub invariant-loop-dim : goal.invariant-loop-dim
invariant-loop-dim g l = record {
  long : length l.named ≡ g.row.R;
  same : take l.dim l.named ++ place_named (drop l.dim l.self) (drop l.dim (naturals l.at.at))
      ≡ place_named l.self (naturals l.at.at);
}
