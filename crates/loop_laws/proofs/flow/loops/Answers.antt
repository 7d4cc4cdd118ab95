use Rattle.loop_laws.proofs.Braces.{step_up, step_up_end, step_down, step_down_end, step_forever, step_forever_end}
use Rattle.loop_laws.proofs.flow.loops.Goals as goal

pub returns : goal.returns
returns c = record {
  upward = step_up;
  upward_end = step_up_end;
  downward = step_down;
  downward_end = step_down_end;
  endless = step_forever;
  endless_end = step_forever_end;
}
