use Rattle.well_typed.proofs.Settled.{settled_breaks_none}
use Rattle.well_typed.proofs.laws.settled_breaks_none.Goals as goal

pub returns : goal.returns
returns c = settled_breaks_none
