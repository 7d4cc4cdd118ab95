use Rattle.shape_check_rows.proofs.BlocksRows.{good_cases_row, other_cases_row, ill_typed_case_row, shared_values_row}
use Rattle.shape_check_rows.proofs.BlocksRows.{good_masks_row, other_masks_row, good_indices_row, other_indices_row}
use Rattle.shape_check_rows.proofs.BlocksRows.{hidden_index_row, stored_index_row, many_indices_row, cut_target_row}
use Rattle.shape_check_rows.proofs.blocks_rows.Goals as goal

pub returns : goal.returns
returns c = record {
  good_cases = good_cases_row;
  other_cases = other_cases_row;
  ill_typed_case = ill_typed_case_row;
  shared_values = shared_values_row;
  good_masks = good_masks_row;
  other_masks = other_masks_row;
  good_indices = good_indices_row;
  other_indices = other_indices_row;
  hidden_index = hidden_index_row;
  stored_index = stored_index_row;
  many_indices = many_indices_row;
  cut_target = cut_target_row;
}
