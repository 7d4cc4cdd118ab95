use Rattle.std.proofs.Common.{◌≡◌, drop}
use Rattle.std.specs.List.{list_any}
use Rattle.well_typed.specs.declared.known.Given.{Given}
use Rattle.intrinsic_facts.proofs.asking.some_allocatable.Given as goal

abbrev pub invariant-loop-g : goal.invariant-loop-g
invariant-loop-g l = list_any (λ (g : Given). g.allocatable) (drop l.g-index l.gs) ≡ list_any (λ (g : Given). g.allocatable) l.gs
