use Rattle.std.proofs.Common.{arith}
use Rattle.loop_values.proofs.Spread.{store_low}
use Rattle.loop_values.proofs.table.Table.set_dense.Goals as goal

pub returns-clause-set : goal.returns-clause-set
returns-clause-set g c = λ _. store_low g.T.First.first c.self.inside.low.items _ c.self.inside.high.entries c.args.n c.args.value
    c.self.view_is (omega arith)
