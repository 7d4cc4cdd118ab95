use Rattle.std.proofs.Common.{◌≡◌, ◌≤◌, length, take}
use Rattle.loop_tree.specs.State.{made_before}
use Rattle.loop_heap.specs.Slots.{living}
use Rattle.loop_heap.proofs.blocks.end_before.Given as goal

abbrev pub invariant-loop-end : goal.invariant-loop-end
invariant-loop-end l = record {
  within : l.end ≤ length l.slots;
  same : made_before (living (take l.end l.slots)) l.mark ≡ made_before (living l.slots) l.mark;
}

abbrev pub decreases-loop-end : goal.decreases-loop-end
decreases-loop-end l = l.end
