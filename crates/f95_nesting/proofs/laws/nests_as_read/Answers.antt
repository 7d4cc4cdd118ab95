use Rattle.f95_nesting.proofs.Exact.{nests_read, read_nests, unstopped_begins, stopped_begins_none}
use Rattle.f95_nesting.proofs.laws.nests_as_read.Goals as goal

pub returns : goal.returns
returns c = record { read = nests_read; only = read_nests; begins = unstopped_begins; stops = stopped_begins_none }
