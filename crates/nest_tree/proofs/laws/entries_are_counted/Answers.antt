use Rattle.nest_tree.proofs.laws.entries_are_counted.Goals as goal
use Rattle.nest_tree.proofs.PaidRuns.{turns_are_paid}

pub returns-clause-turns : goal.returns-clause-turns
returns-clause-turns c = turns_are_paid
