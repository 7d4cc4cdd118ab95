use Rattle.std.proofs.Common.{◌≤◌, ◌<◌, arith}
use Rattle.loop_heap.proofs.Slots.{before_drop, before_stop}
use Rattle.loop_heap.proofs.blocks.end_before.Goals as goal

pub loop-end-preserved : goal.loop-end-preserved
loop-end-preserved c =
    let past : c.args.mark ≤ c.index-slots-end.result.number = omega (arith, c.number.ensures) in
    record {
      within = omega (arith, c.loop-end.invariant.within);
      same = before_drop c.args.mark c.args.slots.now c.loop-end.end c.index-slots-end.result c.loop-end-test.true
          c.loop-end.invariant.within c.index-slots-end.is past c.loop-end.invariant.same;
    }

pub returns-else-number-mark-clause-before : goal.returns-else-number-mark-clause-before
returns-else-number-mark-clause-before c =
    let less : c.index-slots-end.result.number < c.args.mark = omega (arith, c.number.ensures) in
    before_stop c.args.mark c.args.made c.args.slots.now c.loop-end.end c.index-slots-end.result c.requires c.loop-end-test.true
    c.loop-end.invariant.within c.index-slots-end.is less c.loop-end.invariant.same
