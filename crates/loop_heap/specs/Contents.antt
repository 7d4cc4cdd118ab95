-- What a slot holds. No public clause cites this.
use Rattle.std.specs.Prelude.{Option, None, Some}
use Rattle.loop_tree.specs.State.{Cells, Ints, Texts}
use Rattle.loop_heap.specs.declared.slot.Contents.{Contents}
use Rattle.loop_heap.specs.declared.slot.Contents.TheVariants as contents

abbrev pub cells_in : Contents → Option Cells
cells_in (contents.Ints cells) = Some (Ints cells.items)
cells_in (contents.Texts cells) = Some (Texts cells.items)
cells_in contents.Freed = None
