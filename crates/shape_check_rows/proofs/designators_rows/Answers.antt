use Rattle.shape_check_rows.proofs.DesignatorsRows.{good_places_row, other_subscripts_row, other_cuts_row, other_bounds_row}
use Rattle.shape_check_rows.proofs.DesignatorsRows.{wrong_reference_row, allocation_row, stores_row, stored_items_row}
use Rattle.shape_check_rows.proofs.DesignatorsRows.{values_of_functions_row}
use Rattle.shape_check_rows.proofs.designators_rows.Goals as goal

pub returns : goal.returns
returns c = record {
  good_places = good_places_row;
  other_subscripts = other_subscripts_row;
  other_cuts = other_cuts_row;
  other_bounds = other_bounds_row;
  wrong_reference = wrong_reference_row;
  allocation = allocation_row;
  stores = stores_row;
  stored_items = stored_items_row;
  values_of_functions = values_of_functions_row;
}
