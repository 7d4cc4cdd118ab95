use Rattle.std.proofs.Common.{◌≡◌, false, arith}
use Rattle.loop_heap.specs.Slots.{is_living}
use Rattle.loop_heap.proofs.Slots.{hole_drop}
use Rattle.loop_heap.proofs.blocks.end_of_living.Goals as goal

pub loop-end-preserved : goal.loop-end-preserved
loop-end-preserved c =
    let hole : is_living c.index-slots-end.result ≡ false = cc in
    record {
      within = omega (arith, c.loop-end.invariant.within);
      same = hole_drop c.args.slots.now c.loop-end.end c.index-slots-end.result c.loop-end-test.true c.loop-end.invariant.within
          c.index-slots-end.is hole c.loop-end.invariant.same;
    }
