use Rattle.std.proofs.Common.{ap, sym, refl, ◌∙◌}
use Rattle.loop_heap.specs.Slots.{slot_cells}
use Rattle.loop_heap.proofs.Slots.{place_slot}
use Rattle.loop_heap.proofs.blocks.slot_of.Goals as goal

pub returns : goal.returns
returns c = place_slot {top = c.args.made} refl c.requires c.place_of.ensures ∙ ap slot_cells (sym c.nth.ensures)
