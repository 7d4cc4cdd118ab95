use Rattle.array_meaning.proofs.examples.examples_rows.Goals as goal
use Rattle.array_meaning.proofs.ExamplesRows.{reads_elsewhere}

pub returns-clause-reads_elsewhere : goal.returns-clause-reads_elsewhere
returns-clause-reads_elsewhere c = reads_elsewhere
