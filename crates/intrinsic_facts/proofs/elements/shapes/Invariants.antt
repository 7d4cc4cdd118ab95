use Rattle.std.proofs.Common.{◌≡◌, ◌++◌, drop}
use Rattle.well_typed.specs.Intrinsics.{shapes}
use Rattle.intrinsic_facts.proofs.elements.shapes.Given as goal

abbrev pub invariant-loop-g : goal.invariant-loop-g
invariant-loop-g l = l.shapes.items ++ shapes (drop l.g-index l.gs) ≡ shapes l.gs
