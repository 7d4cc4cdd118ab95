use Rattle.names_types_rows.proofs.CornersRows.{assumed_prefix_row, hidden_size_row, own_module_row, nearest_module_row}
use Rattle.names_types_rows.proofs.CornersRows.{constant_bounds_row, undeclared_bound_row, prefix_before_use_row, no_dummies_row}
use Rattle.names_types_rows.proofs.CornersRows.{keywords_row}
use Rattle.names_types_rows.proofs.corners_rows.Goals as goal

pub returns : goal.returns
returns c = record {
  assumed_prefix = assumed_prefix_row;
  hidden_size = hidden_size_row;
  own_module = own_module_row;
  nearest_module = nearest_module_row;
  constant_bounds = constant_bounds_row;
  undeclared_bound = undeclared_bound_row;
  prefix_before_use = prefix_before_use_row;
  no_dummies = no_dummies_row;
  keywords = keywords_row;
}
