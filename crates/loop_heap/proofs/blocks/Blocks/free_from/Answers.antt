use Rattle.loop_heap.proofs.Slots.{rising_take}
use Rattle.loop_heap.proofs.blocks.Blocks.free_from.Goals as goal

pub give_back-self-inside-requires : goal.give_back-self-inside-requires
give_back-self-inside-requires c =
    rw c.truncate.ensures.items
    (rising_take 0 c.self.inside.made c.end_before-end.result c.self.inside.slots.items c.self.invariant)
