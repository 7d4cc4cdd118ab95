use Rattle.loop_laws.proofs.Braces.{split, first_row, first_if, first_if_else, first_up, first_down, first_forever}
use Rattle.loop_laws.proofs.flow.lines_of_statements.Goals as goal

pub returns : goal.returns
returns c = record {
  both = split;
  row = first_row;
  choice = first_if;
  choice_of_two = first_if_else;
  upward = first_up;
  downward = first_down;
  endless = first_forever;
}
