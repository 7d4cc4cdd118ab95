use Rattle.std.proofs.Common.{◌≡◌, ◌≤◌, length, take}
use Rattle.loop_heap.specs.Slots.{living}
use Rattle.loop_heap.proofs.blocks.end_of_living.Given as goal

abbrev pub invariant-loop-end : goal.invariant-loop-end
invariant-loop-end l = record {
  within : l.end ≤ length l.slots;
  same : living (take l.end l.slots) ≡ living l.slots;
}

abbrev pub decreases-loop-end : goal.decreases-loop-end
decreases-loop-end l = l.end
