use Rattle.loop_laws.proofs.Rows.{step_put_int, step_put_log, step_put_text, step_write, step_skip, step_source_line, step_stop}
use Rattle.loop_laws.proofs.Rows.{step_fault}
use Rattle.loop_laws.proofs.steps.records_and_ends.Goals as goal

pub returns : goal.returns
returns c = record {
  put_int = step_put_int;
  put_log = step_put_log;
  put_text = step_put_text;
  write = step_write;
  skip = step_skip;
  source_line = step_source_line;
  stop = step_stop;
  fault = step_fault;
}
