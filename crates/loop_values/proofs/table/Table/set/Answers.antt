use Rattle.std.proofs.Common.{◌≤◌, length, arith}
use Rattle.loop_values.proofs.Spread.{store_low, stored_past, short_store, stored_high, spaced_store}
use Rattle.loop_values.proofs.table.Table.set.Goals as goal

pub returns-then-at-len-clause-ok : goal.returns-then-at-len-clause-ok
returns-then-at-len-clause-ok g c =
    store_low g.T.First.first c.self.inside.low.items _ c.self.inside.high.entries c.args.n c.args.value c.self.view_is
    (omega arith)

pub invariant_of-self-then-at-lt-DENSE : goal.invariant_of-self-then-at-lt-DENSE
invariant_of-self-then-at-lt-DENSE g c =
    let past : length c.self.inside.low.items ≤ c.args.n = omega arith in (
      short_store c.put_at.result g.T.First.first c.self.inside.low.items c.put_at.new.low.items c.args.n c.args.value
          c.put_at.ensures.ok c.put_at.ensures.err past c.if-at-lt-DENSE.true,
      c.self.invariant.1,
    )

pub returns-then-at-lt-DENSE-clause-ok : goal.returns-then-at-lt-DENSE-clause-ok
returns-then-at-lt-DENSE-clause-ok g c =
    stored_past c.put_at.result g.T.First.first c.self.inside.low.items c.put_at.new.low.items _ c.self.inside.high.entries c.args.n
    c.args.value
    c.self.view_is c.self.invariant.1 (omega arith) c.if-at-lt-DENSE.true c.put_at.ensures.ok

pub invariant_of-self-2 : goal.invariant_of-self-2
invariant_of-self-2 g c = (
  c.self.invariant.0,
  spaced_store c.put_in.result c.self.inside.high.entries c.put_in.new.high.entries c.args.n c.args.value
      c.self.invariant.1 c.if-at-lt-DENSE.false c.put_in.ensures.ok c.put_in.ensures.err,
)

pub returns-clause-ok : goal.returns-clause-ok
returns-clause-ok g c =
    stored_high c.put_in.result g.T.First.first c.self.inside.low.items _ c.self.inside.high.entries c.put_in.new.high.entries
    c.args.n c.args.value
    c.self.view_is c.self.invariant.0 c.self.invariant.1 (omega arith) c.put_in.ensures.ok
