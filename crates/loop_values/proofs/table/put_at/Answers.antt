use Rattle.std.proofs.Common.{◌≡◌, ◌++◌, ◌-◌, length, replicate, arith}
use Rattle.loop_values.proofs.Spread.{filled, when_ok, when_pushed}
use Rattle.loop_values.proofs.table.put_at.Goals as goal

pub returns-clause-ok : goal.returns-clause-ok
returns-clause-ok g c =
    let first = g.T.First.first in
    let low = c.args.low.now.items in
    let long : c.len-length.result ≡ length low = omega arith in
    let fills : c.fill.new.low.items ≡ low ++ replicate (c.args.at - c.len-length.result) first =
    when_ok c.fill.result c.fill.ensures.ok c.if-is_err.ensures.value in
    filled first low c.fill.new.low.items c.push.new.self.items c.args.at c.len-length.result c.args.value long c.requires fills
    (when_pushed c.push.result c.fill.new.low.items c.push.new.self.items c.args.value c.push.ensures.items
    c.if-is_err-2.ensures.value)
