use Rattle.std.proofs.Common.{◌≡◌, ◌++◌, drop}
use Rattle.proc_calls.specs.View.{items_of}
use Rattle.well_typed.specs.Known.{entries_of}
use Rattle.known_values.proofs.constructors.entries_of.Given as goal

abbrev pub invariant-loop-item : goal.invariant-loop-item
invariant-loop-item l =
    l.made ++ entries_of l.constants (items_of (drop l.item-index l.items)) ≡ entries_of l.constants (items_of l.items)
