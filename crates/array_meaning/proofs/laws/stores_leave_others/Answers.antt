use Rattle.array_meaning.proofs.laws.stores_leave_others.Goals as goal
use Rattle.array_meaning.proofs.Ignored.{stores_leave_others}

pub returns : goal.returns
returns c = stores_leave_others
