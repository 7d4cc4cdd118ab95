use Rattle.array_meaning.proofs.laws.values_ignore_stores.Goals as goal
use Rattle.array_meaning.proofs.SparedReads.{values_ignore_stores}

pub returns : goal.returns
returns c = values_ignore_stores
