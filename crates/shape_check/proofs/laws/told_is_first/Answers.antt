use Rattle.shape_check.proofs.Telling.{told_is_first}
use Rattle.shape_check.proofs.laws.told_is_first.Goals as goal

pub returns : goal.returns
returns c = told_is_first
