use Rattle.std.proofs.Common.{arith}
use Rattle.std.proofs.lemmas.Grind.{common_steps}
use Rattle.loop_tree.specs.Values.{grown}
use Rattle.loop_heap.proofs.Slots.{changed_blocks, rising_set}
use Rattle.loop_heap.proofs.blocks.Blocks.grow.Goals as goal

pub invariant_of-self : goal.invariant_of-self
invariant_of-self c = rising_set 0 c.self.inside.made c.self.inside.slots.items c.place_of-at.result c.index_mut.result.now _
    c.self.invariant c.index_mut.ensures.value c.grow.ensures.number

pub returns : goal.returns
returns c =
    let place = rw c.deref.ensures.value at c.place_of-at.ensures in
    let blocks = changed_blocks (λ cells. grown cells c.args.count) c.self.view_is c.self.invariant place (omega arith)
    c.index_mut.ensures.value in
    grind (arith, common_steps)
