use Rattle.f95_reader.proofs.Lines.{lines_within}
use Rattle.f95_reader.proofs.laws.lines_within.Goals as goal

pub returns : goal.returns
returns c = lines_within
