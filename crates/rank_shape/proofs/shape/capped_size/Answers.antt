use Rattle.std.proofs.Common.{◌∙◌, arith, ap, min, ◌*◌, ◌-◌, ◌^◌, ◌+◌}
use Rattle.rank_shape.specs.Shape.{naturals}
use Rattle.rank_shape.proofs.Shapes.{capped_step, length-naturals}
use Rattle.rank_shape.proofs.shape.capped_size.Goals as goal

pub loop-k-preserved : goal.loop-k-preserved
loop-k-preserved g c = record {
  left =
      capped_step (naturals c.args.extents.now) c.loop-k.k c.loop-k.size c.min-size.result
      (omega (arith, length-naturals c.args.extents.now))
      (c.min-size.ensures
      ∙ ap (λ x. min x (2 ^ 24 + 1))
      (c.saturating_mul.ensures ∙ ap (λ x. min (c.loop-k.size * x) (2 ^ 64 - 1)) c.natural_at.ensures))
      ∙ c.loop-k.invariant.left;
  small = omega (arith, c.min-size.ensures);
}
