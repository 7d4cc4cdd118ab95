use Rattle.loop_laws.proofs.Braces.{step_if, step_if_else, step_else, step_choice_end}
use Rattle.loop_laws.proofs.flow.choices.Goals as goal

pub returns : goal.returns
returns c = record {
  choice = step_if;
  choice_of_two = step_if_else;
  other_branch = step_else;
  last_brace = step_choice_end;
}
