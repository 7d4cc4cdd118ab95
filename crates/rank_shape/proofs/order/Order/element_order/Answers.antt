use Rattle.std.proofs.Common.{ap, ◌∙◌, arith, ◌≡◌, replicate, false}
use Rattle.std.proofs.lemmas.List.{length-set}
use Rattle.a95_base.specs.Lists.{down_to_one}
use Rattle.rank_shape.specs.Order.{levels}
use Rattle.rank_shape.proofs.Orders.{element_step, element_end, element_fields, element_levels}
use Rattle.rank_shape.proofs.order.Order.element_order.Goals as goal

pub loop-level-preserved : goal.loop-level-preserved
loop-level-preserved g c = record {
  long = length-set c.loop-level.loops c.loop-level.level _ ∙ c.loop-level.invariant.long;
  same = element_step g.row.R c.loop-level.level c.loop-level.loops c.loop-level-test.true (omega arith)
      ∙ c.loop-level.invariant.same;
}

whole : (g : _) (c : goal.After-loop-level g) → c.loop-level.loops ≡ down_to_one g.row.R
whole g c = element_end g.row.R c.loop-level.level c.loop-level.loops (omega arith) (omega arith) c.loop-level.invariant.long
    c.loop-level.invariant.same

pub invariant_of-result : goal.invariant_of-result
invariant_of-result g c = element_fields g.row.R c.loop-level.loops c.requires (whole g c)

pub returns : goal.returns
returns g c = ap (λ loops. levels loops (replicate g.row.R false)) (whole g c) ∙ element_levels g.row.R
