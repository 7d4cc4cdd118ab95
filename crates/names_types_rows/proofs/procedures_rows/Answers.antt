use Rattle.names_types_rows.proofs.ProceduresRows.{dummy_alone_row, intent_later_row, listed_twice_row, no_result_row}
use Rattle.names_types_rows.proofs.ProceduresRows.{typed_twice_row, assumed_result_row, of_the_host_row, bounds_row, unread_row}
use Rattle.names_types_rows.proofs.procedures_rows.Goals as goal

pub returns : goal.returns
returns c = record {
  dummy_alone = dummy_alone_row;
  intent_later = intent_later_row;
  listed_twice = listed_twice_row;
  no_result = no_result_row;
  typed_twice = typed_twice_row;
  assumed_result = assumed_result_row;
  of_the_host = of_the_host_row;
  bounds = bounds_row;
  unread = unread_row;
}
