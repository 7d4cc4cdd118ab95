use Rattle.well_typed.proofs.Ranks.{ranks_are_small}
use Rattle.well_typed.proofs.laws.ranks_are_small.Goals as goal

pub returns : goal.returns
returns c = ranks_are_small
