use Rattle.loop_laws.proofs.Rows.{step_new, step_temp, step_copy, step_mark, step_new_text, step_temp_text, step_copy_text}
use Rattle.loop_laws.proofs.steps.new_blocks.Goals as goal

pub returns : goal.returns
returns c = record {
  new = step_new;
  temporary = step_temp;
  copy = step_copy;
  mark = step_mark;
  new_text = step_new_text;
  temporary_text = step_temp_text;
  copy_text = step_copy_text;
}
