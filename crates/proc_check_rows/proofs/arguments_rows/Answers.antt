use Rattle.proc_check_rows.proofs.ArgumentsRows.{numbers_row, kinds_row, elementals_row, outs_row, sections_row, lengths_row}
use Rattle.proc_check_rows.proofs.arguments_rows.Goals as goal

pub returns : goal.returns
returns c = record {
  numbers = numbers_row;
  kinds = kinds_row;
  elementals = elementals_row;
  outs = outs_row;
  sections = sections_row;
  lengths = lengths_row;
}
