use Rattle.std.proofs.Common.{ap, ◌∙◌}
use Rattle.loop_heap.specs.Slots.{living, is_living}
use Rattle.loop_heap.proofs.Slots.{living_filter, rising_filter, rising_take}
use Rattle.loop_heap.proofs.blocks.give_back.Goals as goal

pub returns-then-left-lt-MANY-clause-rising : goal.returns-then-left-lt-MANY-clause-rising
returns-then-left-lt-MANY-clause-rising c =
    rw c.truncate.ensures.items (rising_take 0 c.args.made c.end_of_living-end.result c.args.slots.now.items c.requires)

pub returns-clause-living : goal.returns-clause-living
returns-clause-living c =
    let kept = rw c.deref.ensures.value at c.end_of_living-end.ensures.living in
    ap living c.keep_living.ensures ∙ living_filter c.truncate.new.self.items ∙ ap living c.truncate.ensures.items ∙ kept

pub returns-clause-rising : goal.returns-clause-rising
returns-clause-rising c =
    rw (c.keep_living.ensures, c.truncate.ensures.items)
    (rising_filter is_living 0 c.args.made _
    (rising_take 0 c.args.made c.end_of_living-end.result c.args.slots.now.items c.requires))
