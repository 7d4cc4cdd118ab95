use Rattle.std.proofs.Common.{◌≡◌, ◌&&◌, drop, map}
use Rattle.std.specs.List.{list_all}
use Rattle.f95_unit.specs.View.{expr_of}
use Rattle.control_lower.specs.Lowers.{lowers}
use Rattle.control_nests.proofs.lowers.lowers_items.Given as goal

abbrev pub invariant-loop-e : goal.invariant-loop-e
invariant-loop-e l = (l.all && list_all lowers (map expr_of (drop l.e-index l.es))) ≡ list_all lowers (map expr_of l.es)
