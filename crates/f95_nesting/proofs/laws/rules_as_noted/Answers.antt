use Rattle.f95_nesting.proofs.Judged.{broken_is, is_broken}
use Rattle.f95_nesting.proofs.laws.rules_as_noted.Goals as goal

pub returns : goal.returns
returns c = record { noted = broken_is; broken = is_broken }
