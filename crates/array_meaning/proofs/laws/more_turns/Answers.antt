use Rattle.array_meaning.proofs.laws.more_turns.Goals as goal
use Rattle.array_meaning.proofs.TurnsOfStatements.{more_turns}

pub returns : goal.returns
returns c = more_turns
