use Rattle.names_types_rows.proofs.ShapesRows.{attributes_row, entity_bounds_win_row, intended_row, ranks_row, lengths_row}
use Rattle.names_types_rows.proofs.ShapesRows.{known_lengths_row, sizes_row}
use Rattle.names_types_rows.proofs.shapes_rows.Goals as goal

pub returns : goal.returns
returns c = record {
  attributes = attributes_row;
  entity_bounds_win = entity_bounds_win_row;
  intended = intended_row;
  ranks = ranks_row;
  lengths = lengths_row;
  known_lengths = known_lengths_row;
  sizes = sizes_row;
}
