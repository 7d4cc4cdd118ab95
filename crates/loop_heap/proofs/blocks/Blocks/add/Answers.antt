use Rattle.loop_heap.specs.Contents.{cells_in}
use Rattle.loop_heap.proofs.Slots.{add_living, rising_push}
use Rattle.loop_heap.proofs.blocks.Blocks.add.Goals as goal

pub invariant_of-self-2 : goal.invariant_of-self-2
invariant_of-self-2 c =
    rw c.in_ok-push.ensures.items
    (rising_push 0 c.self.inside.made c.self.inside.slots.items c.new.result c.self.invariant c.new.ensures.number)

pub returns-clause-ok : goal.returns-clause-ok
returns-clause-ok c =
    rw c.in_ok-push.ensures.items
    (add_living c.self.inside.slots.items (cells_in c.args.contents) c.new.result c.self.view_is c.requires
    c.new.ensures.number c.new.ensures.cells)
