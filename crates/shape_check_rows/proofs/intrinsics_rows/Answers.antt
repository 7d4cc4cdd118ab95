use Rattle.shape_check_rows.proofs.IntrinsicsRows.{good_arguments_row, other_arguments_row, dims_row, argument_ranks_row}
use Rattle.shape_check_rows.proofs.IntrinsicsRows.{argument_extents_row, results_row, shapes_row, allocated_row, six_ranks_row}
use Rattle.shape_check_rows.proofs.IntrinsicsRows.{hidden_row}
use Rattle.shape_check_rows.proofs.intrinsics_rows.Goals as goal

pub returns : goal.returns
returns c = record {
  good_arguments = good_arguments_row;
  other_arguments = other_arguments_row;
  dims = dims_row;
  argument_ranks = argument_ranks_row;
  argument_extents = argument_extents_row;
  results = results_row;
  shapes = shapes_row;
  allocated = allocated_row;
  six_ranks = six_ranks_row;
  hidden = hidden_row;
}
