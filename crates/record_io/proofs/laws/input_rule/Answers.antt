use Rattle.record_io.proofs.Reading.{found, only, end_found, end_only}
use Rattle.record_io.proofs.laws.input_rule.Goals as goal

pub returns-clause-integer : goal.returns-clause-integer
returns-clause-integer c comma rest value used = (only comma rest value used, found comma rest value used)

pub returns-clause-end : goal.returns-clause-end
returns-clause-end c comma rest = (end_only comma rest, end_found comma rest)
