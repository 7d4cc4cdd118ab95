use Rattle.std.proofs.Common.{◌≢◌, ◌<◌, ◌+◌, ◌-◌, ◌/◌, length, arith}
use Rattle.loop_heap.proofs.Slots.{less_on, more_on, missed, no_place}
use Rattle.loop_heap.proofs.blocks.search.Goals as goal

pub loop-low-preserved-then-found-number-2 : goal.loop-low-preserved-then-found-number-2
loop-low-preserved-then-found-number-2 c =
    let within : c.loop-low.low + (c.loop-low.high - c.loop-low.low) / 2 < length c.args.slots.now =
    omega (arith, c.loop-low.invariant.within) in
    let less : c.index-slots-middle.result.number < c.args.number = omega (arith, c.number-found.ensures) in
    record {
      ordered = omega arith;
      within = c.loop-low.invariant.within;
      less = less_on c.args.made c.args.slots.now _ c.args.number c.index-slots-middle.result c.requires within
          c.index-slots-middle.is less;
      more = c.loop-low.invariant.more;
    }

pub loop-low-preserved : goal.loop-low-preserved
loop-low-preserved c =
    let within : c.loop-low.low + (c.loop-low.high - c.loop-low.low) / 2 < length c.args.slots.now =
    omega (arith, c.loop-low.invariant.within) in
    let differs : c.number-found.result ≢ c.args.number = c.if-found-number.false in
    let more : c.args.number < c.index-slots-middle.result.number = omega (arith, c.number-found.ensures) in
    record {
      ordered = omega arith;
      within = omega arith;
      less = c.loop-low.invariant.less;
      more = more_on c.args.made c.args.slots.now _ c.args.number c.index-slots-middle.result c.requires within
          c.index-slots-middle.is more;
    }

pub returns : goal.returns
returns c =
    no_place c.args.slots.now c.args.number
    (missed c.args.slots.now c.loop-low.low c.loop-low.high c.args.number c.loop-low-test.false c.loop-low.invariant.less
    c.loop-low.invariant.more)
