-- Assignments of whole arrays, sections, texts and scalars, and initial values. Each row holds by computation.
use Rattle.std.proofs.Common.{refl}
use Rattle.array_meaning.proofs.Running.{running}
use Rattle.array_meaning_rows.specs.AssignmentsOne.{whole_arrays, both_neighbours, reversed_onto_itself, block_moved}
use Rattle.array_meaning_rows.specs.AssignmentsOne.{first_element_read_once, no_places_no_bounds, vector_subscript}
use Rattle.array_meaning_rows.specs.AssignmentsOne.{bounds_and_negative_stride, texts_fit, WholeArrays, BothNeighbours}
use Rattle.array_meaning_rows.specs.AssignmentsOne.{ReversedOntoItself, BlockMoved, FirstElementReadOnce, NoPlacesNoBounds}
use Rattle.array_meaning_rows.specs.AssignmentsOne.{VectorSubscript, BoundsAndNegativeStride, TextsFit}

pub whole_arrays_row : WholeArrays
unfolding running whole_arrays
whole_arrays_row = record { is = refl }

pub both_neighbours_row : BothNeighbours
unfolding running both_neighbours
both_neighbours_row = record { is = refl }

pub reversed_onto_itself_row : ReversedOntoItself
unfolding running reversed_onto_itself
reversed_onto_itself_row = record { is = refl }

pub block_moved_row : BlockMoved
unfolding running block_moved
block_moved_row = record { is = refl }

pub first_element_read_once_row : FirstElementReadOnce
unfolding running first_element_read_once
first_element_read_once_row = record { is = refl }

pub no_places_no_bounds_row : NoPlacesNoBounds
unfolding running no_places_no_bounds
no_places_no_bounds_row = record { is = refl }

pub vector_subscript_row : VectorSubscript
unfolding running vector_subscript
vector_subscript_row = record { is = refl }

pub bounds_and_negative_stride_row : BoundsAndNegativeStride
unfolding running bounds_and_negative_stride
bounds_and_negative_stride_row = record { is = refl }

pub texts_fit_row : TextsFit
unfolding running texts_fit
texts_fit_row = record { is = refl }
