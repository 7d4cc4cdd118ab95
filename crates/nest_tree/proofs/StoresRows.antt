-- Each row holds by computation.
use Rattle.std.proofs.Common.{refl}
use Rattle.nest_tree.proofs.Running.{running}
use Rattle.nest_tree.specs.StoresRows.{whole_row, shifted_backwards, shifted_forwards, shifted_through_a_temporary}
use Rattle.nest_tree.specs.StoresRows.{two_pieces_of_one_nest, outside_its_array, nothing_where_false, fault_at_its_line}
use Rattle.nest_tree.specs.StoresRows.{no_elements_no_entries, columns_from_the_last, subscripts_from_a_list, freed_is_not_read}
use Rattle.nest_tree.specs.StoresRows.{grown_and_given_a_shape, texts_padded_and_kept, exact_beyond_64_bits, WholeRow}
use Rattle.nest_tree.specs.StoresRows.{ShiftedBackwards, ShiftedForwards, ShiftedThroughATemporary, TwoPiecesOfOneNest}
use Rattle.nest_tree.specs.StoresRows.{OutsideItsArray, NothingWhereFalse, FaultAtItsLine, NoElementsNoEntries, ColumnsFromTheLast}
use Rattle.nest_tree.specs.StoresRows.{SubscriptsFromAList, FreedIsNotRead, GrownAndGivenAShape, TextsPaddedAndKept}
use Rattle.nest_tree.specs.StoresRows.{ExactBeyond64Bits}

pub whole_row_row : WholeRow
unfolding running whole_row
whole_row_row = record { runs = refl; counts = refl }

pub shifted_backwards_row : ShiftedBackwards
unfolding running shifted_backwards
shifted_backwards_row = record { runs = refl; counts = refl }

pub shifted_forwards_row : ShiftedForwards
unfolding running shifted_forwards
shifted_forwards_row = record { runs = refl; counts = refl }

pub shifted_through_a_temporary_row : ShiftedThroughATemporary
unfolding running shifted_through_a_temporary
shifted_through_a_temporary_row = record { runs = refl; counts = refl }

pub two_pieces_of_one_nest_row : TwoPiecesOfOneNest
unfolding running two_pieces_of_one_nest
two_pieces_of_one_nest_row = record { runs = refl; counts = refl }

pub outside_its_array_row : OutsideItsArray
unfolding running outside_its_array
outside_its_array_row = record { runs = refl; counts = refl }

pub nothing_where_false_row : NothingWhereFalse
unfolding running nothing_where_false
nothing_where_false_row = record { runs = refl; counts = refl }

pub fault_at_its_line_row : FaultAtItsLine
unfolding running fault_at_its_line
fault_at_its_line_row = record { runs = refl; counts = refl }

pub no_elements_no_entries_row : NoElementsNoEntries
unfolding running no_elements_no_entries
no_elements_no_entries_row = record { runs = refl; counts = refl }

pub columns_from_the_last_row : ColumnsFromTheLast
unfolding running columns_from_the_last
columns_from_the_last_row = record { runs = refl; counts = refl }

pub subscripts_from_a_list_row : SubscriptsFromAList
unfolding running subscripts_from_a_list
subscripts_from_a_list_row = record { runs = refl; counts = refl }

pub freed_is_not_read_row : FreedIsNotRead
unfolding running freed_is_not_read
freed_is_not_read_row = record { runs = refl; counts = refl }

pub grown_and_given_a_shape_row : GrownAndGivenAShape
unfolding running grown_and_given_a_shape
grown_and_given_a_shape_row = record { runs = refl; counts = refl }

pub texts_padded_and_kept_row : TextsPaddedAndKept
unfolding running texts_padded_and_kept
texts_padded_and_kept_row = record { runs = refl; counts = refl }

pub exact_beyond_64_bits_row : ExactBeyond64Bits
unfolding running exact_beyond_64_bits
exact_beyond_64_bits_row = record { runs = refl; counts = refl }
