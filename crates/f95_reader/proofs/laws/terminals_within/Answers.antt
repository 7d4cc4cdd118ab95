use Rattle.f95_reader.proofs.TerminalCounts.{terminals_within}
use Rattle.f95_reader.proofs.laws.terminals_within.Goals as goal

pub returns : goal.returns
returns c = terminals_within
