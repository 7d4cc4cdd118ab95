use Rattle.std.proofs.Common.{◌∙◌}
use Rattle.loop_values.proofs.Spread.{push_end}
use Rattle.loop_values.proofs.table.Table.push.Goals as goal

pub returns-in-Ok-clause-ok : goal.returns-in-Ok-clause-ok
returns-in-Ok-clause-ok g c =
    push_end c.set.result g.T.First.first c.args.self.now c.set.new.self c.in-Ok.n c.args.value
    (c.in-Ok.ensures.1 ∙ c.len-length.ensures) c.set.ensures.ok
