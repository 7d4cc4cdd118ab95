use Rattle.loop_laws.proofs.Rows.{step_call, step_return, step_last_brace, step_no_line, leaves_to_caller, leaves_program}
use Rattle.loop_laws.proofs.steps.calls.Goals as goal

pub returns : goal.returns
returns c = record {
  call = step_call;
  ret = step_return;
  last_brace = step_last_brace;
  no_line = step_no_line;
  to_caller = leaves_to_caller;
  out_of_program = leaves_program;
}
