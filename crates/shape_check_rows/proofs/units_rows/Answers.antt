use Rattle.shape_check_rows.proofs.UnitsRows.{brought_row, first_row, shifted_row, functions_row, no_function_row}
use Rattle.shape_check_rows.proofs.units_rows.Goals as goal

pub returns : goal.returns
returns c = record {
  brought = brought_row;
  first = first_row;
  shifted = shifted_row;
  functions = functions_row;
  no_function = no_function_row;
}
