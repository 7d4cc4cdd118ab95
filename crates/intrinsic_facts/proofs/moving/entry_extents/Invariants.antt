use Rattle.std.proofs.Common.{◌≡◌, ◌++◌, map, drop}
use Rattle.well_typed.specs.Intrinsics.{extent_in}
use Rattle.intrinsic_facts.proofs.moving.entry_extents.Given as goal

abbrev pub invariant-loop-entry : goal.invariant-loop-entry
invariant-loop-entry l = l.made ++ map extent_in (drop l.entry-index l.entries) ≡ map extent_in l.entries
