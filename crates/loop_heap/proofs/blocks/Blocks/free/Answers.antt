use Rattle.std.proofs.Common.{ap, refl, sym, ◌∙◌}
use Rattle.loop_tree.specs.Values.{is_live}
use Rattle.loop_heap.specs.Slots.{living}
use Rattle.loop_heap.proofs.Slots.{place_slot, dead_place, rising_without, free_place}
use Rattle.loop_heap.proofs.blocks.Blocks.free.Goals as goal

pub returns-then-not-free_at-clause-live : goal.returns-then-not-free_at-clause-live
returns-then-not-free_at-clause-live c =
    let place = rw c.deref.ensures.value at c.place_of-at.ensures in
    c.if-not-free_at.ensures.live ∙ ap is_live (sym (place_slot c.self.view_is c.self.invariant place))

pub returns-then-not-free_at-clause-err : goal.returns-then-not-free_at-clause-err
returns-then-not-free_at-clause-err c =
    let place = rw c.deref.ensures.value at c.place_of-at.ensures in
    dead_place c.self.view_is c.self.invariant place (sym c.if-not-free_at.ensures.live)

pub give_back-self-inside-requires : goal.give_back-self-inside-requires
give_back-self-inside-requires c =
    rw (c.if-not-free_at.ensures.freed refl)
    (rising_without 0 c.self.inside.made c.self.inside.slots.items c.place_of-at.result c.self.invariant)

pub returns-clause-ok : goal.returns-clause-ok
returns-clause-ok c =
    let place = rw c.deref.ensures.value at c.place_of-at.ensures in
    c.give_back-self-inside.ensures.living ∙ ap living (c.if-not-free_at.ensures.freed refl)
    ∙ free_place c.self.view_is c.self.invariant place (sym c.if-not-free_at.ensures.live)

pub returns-clause-live : goal.returns-clause-live
returns-clause-live c =
    let place = rw c.deref.ensures.value at c.place_of-at.ensures in
    c.if-not-free_at.ensures.live ∙ ap is_live (sym (place_slot c.self.view_is c.self.invariant place))
