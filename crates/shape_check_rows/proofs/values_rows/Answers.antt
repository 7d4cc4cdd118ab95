use Rattle.shape_check_rows.proofs.ValuesRows.{good_values_row, other_values_row, other_counts_row, no_rounds_row}
use Rattle.shape_check_rows.proofs.ValuesRows.{initial_values_row, read_items_row, elemental_function_row, wrong_calls_row}
use Rattle.shape_check_rows.proofs.values_rows.Goals as goal

pub returns : goal.returns
returns c = record {
  good_values = good_values_row;
  other_values = other_values_row;
  other_counts = other_counts_row;
  no_rounds = no_rounds_row;
  initial_values = initial_values_row;
  read_items = read_items_row;
  elemental_function = elemental_function_row;
  wrong_calls = wrong_calls_row;
}
