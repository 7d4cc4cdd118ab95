use Rattle.nest_tree.proofs.laws.others_stay.Goals as goal
use Rattle.nest_tree.proofs.Stays.{called_apart}

pub returns-clause-calls : goal.returns-clause-calls
returns-clause-calls c = called_apart
