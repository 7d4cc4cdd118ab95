use Rattle.names_types_rows.proofs.ScalarsRows.{twice_row, undeclared_row, constants_row, too_early_row, other_kind_row}
use Rattle.names_types_rows.proofs.ScalarsRows.{overflow_row, one_fault_row, char_range_row, constructors_row}
use Rattle.names_types_rows.proofs.scalars_rows.Goals as goal

pub returns : goal.returns
returns c = record {
  twice = twice_row;
  undeclared = undeclared_row;
  constants = constants_row;
  too_early = too_early_row;
  other_kind = other_kind_row;
  overflow = overflow_row;
  one_fault = one_fault_row;
  char_range = char_range_row;
  constructors = constructors_row;
}
