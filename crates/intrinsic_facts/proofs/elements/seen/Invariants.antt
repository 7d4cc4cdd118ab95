use Rattle.std.proofs.Common.{◌≡◌, ◌++◌, map, drop}
use Rattle.well_typed.specs.Intrinsics.{seen}
use Rattle.intrinsic_facts.proofs.elements.seen.Given as goal

abbrev pub invariant-loop-g : goal.invariant-loop-g
invariant-loop-g l = l.seen.items ++ map seen (drop l.g-index l.gs) ≡ map seen l.gs
