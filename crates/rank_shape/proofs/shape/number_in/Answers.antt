use Rattle.std.proofs.Common.{◌+◌, ◌*◌, ◌<◌, arith}
use Rattle.rank_shape.specs.Shape.{naturals, size_of}
use Rattle.rank_shape.proofs.Shapes.{length-naturals}
use Rattle.rank_shape.proofs.Numbers.{step_below}
use Rattle.rank_shape.proofs.shape.number_in.Goals as goal

below : (g : _) (c : goal.After-natural_at-in-loop-k g) → c.natural_at.result + c.natural_at-in-loop-k.result * c.loop-k.number
    < size_of (naturals c.args.extents.now)
below g c =
    step_below (naturals c.args.extents.now) (naturals c.args.at.now) c.loop-k.k c.loop-k.number c.natural_at.result
    c.natural_at-in-loop-k.result
    c.loop-k-test.true (omega (arith, length-naturals c.args.extents.now)) c.requires.within c.loop-k.invariant c.natural_at.ensures
    c.natural_at-in-loop-k.ensures

pub overflow_mul-number : goal.overflow_mul-number
overflow_mul-number g c = omega (arith, below g c)

pub overflow_add-number : goal.overflow_add-number
overflow_add-number g c = omega (arith, below g c)
