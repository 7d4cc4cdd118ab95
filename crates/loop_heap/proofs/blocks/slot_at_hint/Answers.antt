use Rattle.std.proofs.Common.{ap, sym, refl, ◌∙◌}
use Rattle.loop_heap.specs.Slots.{slot_cells}
use Rattle.loop_heap.proofs.Slots.{place_slot}
use Rattle.loop_heap.proofs.blocks.slot_at_hint.Goals as goal

pub returns-in-Some : goal.returns-in-Some
returns-in-Some c = λ _. place_slot {top = c.args.made} refl c.requires c.in-Some.ensures.place ∙ ap slot_cells (sym c.nth.ensures)
