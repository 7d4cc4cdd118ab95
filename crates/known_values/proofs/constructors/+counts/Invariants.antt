use Rattle.std.proofs.Common.{◌≡◌, drop}
use Rattle.proc_calls.specs.View.{items_of}
use Rattle.well_typed.specs.Known.{plus, count_of}
use Rattle.known_values.proofs.constructors.+counts.Given as goal

abbrev pub invariant-count_of-loop-item : goal.invariant-count_of-loop-item
invariant-count_of-loop-item l =
    plus l.total (count_of l.constants (items_of (drop l.item-index l.items))) ≡ count_of l.constants (items_of l.items)
