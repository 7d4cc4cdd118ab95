use Rattle.names_types_rows.proofs.ModulesRows.{life_row, brought_again_row, brought_twice_row, not_above_row, module_variable_row}
use Rattle.names_types_rows.proofs.ModulesRows.{prefix_of_use_row}
use Rattle.names_types_rows.proofs.modules_rows.Goals as goal

pub returns : goal.returns
returns c = record {
  life = life_row;
  brought_again = brought_again_row;
  brought_twice = brought_twice_row;
  not_above = not_above_row;
  module_variable = module_variable_row;
  prefix_of_use = prefix_of_use_row;
}
