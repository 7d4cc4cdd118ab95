use Rattle.f95_statements.proofs.ActionLaws.{action_sound, action_again}
use Rattle.f95_statements.proofs.laws.actions_as_spelled.Goals as goal

pub returns : goal.returns
returns c = record {
  sound = λ ts a h. let is = action_sound ts a h in (is.spelled, is.kept);
  again = action_again;
}
