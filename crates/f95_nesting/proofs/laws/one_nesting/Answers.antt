use Rattle.f95_nesting.proofs.Exact.{one_nesting}
use Rattle.f95_nesting.proofs.laws.one_nesting.Goals as goal

pub returns : goal.returns
returns c = one_nesting
