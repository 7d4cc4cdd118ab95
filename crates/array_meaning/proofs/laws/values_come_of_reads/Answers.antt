use Rattle.array_meaning.proofs.laws.values_come_of_reads.Goals as goal
use Rattle.array_meaning.proofs.SameReads.{parts_come_of_reads, values_come_of_reads}

pub returns : goal.returns
returns c = record { parts = parts_come_of_reads; values = values_come_of_reads }
