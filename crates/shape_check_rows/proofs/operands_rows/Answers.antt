use Rattle.shape_check_rows.proofs.OperandsRows.{fits_row, other_kinds_row, other_ranks_row, other_extents_row, no_further_row}
use Rattle.shape_check_rows.proofs.OperandsRows.{kinds_first_row, unknown_extents_row, strides_row, declared_bounds_row}
use Rattle.shape_check_rows.proofs.OperandsRows.{conditions_row, counters_row}
use Rattle.shape_check_rows.proofs.operands_rows.Goals as goal

pub returns : goal.returns
returns c = record {
  fits = fits_row;
  other_kinds = other_kinds_row;
  other_ranks = other_ranks_row;
  other_extents = other_extents_row;
  no_further = no_further_row;
  kinds_first = kinds_first_row;
  unknown_extents = unknown_extents_row;
  strides = strides_row;
  declared_bounds = declared_bounds_row;
  conditions = conditions_row;
  counters = counters_row;
}
