use Rattle.std.proofs.Common.{◌<◌, length, arith}
use Rattle.loop_heap.proofs.Slots.{free_slot}
use Rattle.loop_heap.proofs.blocks.free_at.Goals as goal

pub returns-clause-freed : goal.returns-clause-freed
returns-clause-freed c done =
    let k = c.index_mut.result.now in
    let below : c.args.at < length c.args.slots.now.items = omega arith in
    free_slot c.args.slots.now.items c.args.at k c.free.new.self below c.index_mut.ensures.value c.free.ensures.number
    c.free.ensures.cells
