use Rattle.array_meaning.proofs.laws.pure_functions_see_actuals.Goals as goal
use Rattle.array_meaning.proofs.SparedReads.{pure_functions_see_actuals}

pub returns : goal.returns
returns c = pure_functions_see_actuals
