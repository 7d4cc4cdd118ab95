use Rattle.f95_nesting.proofs.Least.{unbroken_nests}
use Rattle.f95_nesting.proofs.laws.unbroken_forms_nest.Goals as goal

pub returns : goal.returns
returns c = λ forms feeds none. let n = unbroken_nests forms feeds none in (n.source, n.nests)
