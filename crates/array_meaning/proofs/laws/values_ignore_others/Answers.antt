use Rattle.array_meaning.proofs.laws.values_ignore_others.Goals as goal
use Rattle.array_meaning.proofs.Ignored.{values_ignore_others}

pub returns : goal.returns
returns c = values_ignore_others
