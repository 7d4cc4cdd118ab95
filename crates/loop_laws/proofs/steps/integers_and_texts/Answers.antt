use Rattle.loop_laws.proofs.Rows.{step_int, step_text}
use Rattle.loop_laws.proofs.steps.integers_and_texts.Goals as goal

pub returns : goal.returns
returns c = record {
  int = step_int;
  text = step_text;
}
