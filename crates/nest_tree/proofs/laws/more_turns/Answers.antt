use Rattle.nest_tree.proofs.laws.more_turns.Goals as goal
use Rattle.nest_tree.proofs.TurnsOfRuns.{more_turns}

pub returns : goal.returns
returns c = more_turns
