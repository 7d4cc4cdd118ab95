use Rattle.std.proofs.Common.{refl}
use Rattle.loop_values.proofs.Spread.{length_table}
use Rattle.loop_values.proofs.table.Table.len.Goals as goal

pub returns-in-Some : goal.returns-in-Some
returns-in-Some g c =
    length_table g.T.First.first c.self.inside.low.items _ c.self.inside.high.entries (c.in-Some.n.now, c.in-Some.field-0-1.now)
    c.self.view_is c.self.invariant.0 c.self.invariant.1 c.in-Some.ensures.last (c.in-Some.ensures.variant.0 refl)
