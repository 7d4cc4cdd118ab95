-- Bounds of arrays without elements, choices, shifts, copies, and new shapes. Each row holds by computation.
use Rattle.std.proofs.Common.{refl}
use Rattle.array_meaning.proofs.Running.{running}
use Rattle.array_meaning_rows.specs.IntrinsicsFour.{bounds_of_no_elements, merge_of_shapes, shifts_of_a_matrix, logical_shifts}
use Rattle.array_meaning_rows.specs.IntrinsicsFour.{copies_of_copies, copies_of_none, order_with_pad, pad_of_a_matrix}
use Rattle.array_meaning_rows.specs.IntrinsicsFour.{pack_and_unpack, BoundsOfNoElements, MergeOfShapes, ShiftsOfAMatrix}
use Rattle.array_meaning_rows.specs.IntrinsicsFour.{LogicalShifts, CopiesOfCopies, CopiesOfNone, OrderWithPad, PadOfAMatrix}
use Rattle.array_meaning_rows.specs.IntrinsicsFour.{PackAndUnpack}

pub bounds_of_no_elements_row : BoundsOfNoElements
unfolding running bounds_of_no_elements
bounds_of_no_elements_row = record { is = refl }

pub merge_of_shapes_row : MergeOfShapes
unfolding running merge_of_shapes
merge_of_shapes_row = record { is = refl }

pub shifts_of_a_matrix_row : ShiftsOfAMatrix
unfolding running shifts_of_a_matrix
shifts_of_a_matrix_row = record { is = refl }

pub logical_shifts_row : LogicalShifts
unfolding running logical_shifts
logical_shifts_row = record { is = refl }

pub copies_of_copies_row : CopiesOfCopies
unfolding running copies_of_copies
copies_of_copies_row = record { is = refl }

pub copies_of_none_row : CopiesOfNone
unfolding running copies_of_none
copies_of_none_row = record { is = refl }

pub order_with_pad_row : OrderWithPad
unfolding running order_with_pad
order_with_pad_row = record { is = refl }

pub pad_of_a_matrix_row : PadOfAMatrix
unfolding running pad_of_a_matrix
pad_of_a_matrix_row = record { is = refl }

pub pack_and_unpack_row : PackAndUnpack
unfolding running pack_and_unpack
pack_and_unpack_row = record { is = refl }
