use Rattle.array_meaning.proofs.laws.values_are_full.Goals as goal
use Rattle.array_meaning.proofs.Wholeness.{values_full}

pub returns : goal.returns
returns c = values_full
