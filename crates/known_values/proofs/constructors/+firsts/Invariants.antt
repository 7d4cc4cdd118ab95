use Rattle.std.proofs.Common.{◌≡◌, drop}
use Rattle.proc_calls.specs.View.{items_of}
use Rattle.well_typed.specs.Known.{values_facts, first_facts}
use Rattle.known_values.proofs.constructors.+firsts.Given as goal

abbrev pub invariant-first_facts-loop-item : goal.invariant-first_facts-loop-item
invariant-first_facts-loop-item l =
    first_facts (values_facts (items_of (drop l.item-index l.items))) ≡ first_facts (values_facts (items_of l.items))
