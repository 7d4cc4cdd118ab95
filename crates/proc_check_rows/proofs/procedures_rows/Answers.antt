use Rattle.proc_check_rows.proofs.ProceduresRows.{functions_row, transfers_row, scalars_row, recursions_row}
use Rattle.proc_check_rows.proofs.procedures_rows.Goals as goal

pub returns : goal.returns
returns c = record {
  functions = functions_row;
  transfers = transfers_row;
  scalars = scalars_row;
  recursions = recursions_row;
}
