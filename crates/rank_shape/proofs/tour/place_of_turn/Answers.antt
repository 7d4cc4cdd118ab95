use Rattle.std.proofs.Common.{◌≡◌, ◌-◌, ◌+◌, ◌/◌, ◌%◌, pos, to_z, w64, set, map, drop, sym, ap, ◌∙◌, subst, arith}
use Rattle.std.proofs.lemmas.Int.{ints, to_z_pos}
use Rattle.std.proofs.lemmas.List.{length-set, length-replicate, drop_all}
use Rattle.rank_shape.specs.Shape.{naturals, AreNatural}
use Rattle.rank_shape.specs.Turn.{visited, subscript_at}
use Rattle.rank_shape.specs.Fields.{pos_naturals}
use Rattle.rank_shape.proofs.Steps.{CodeStep, code_step, order_length, naturals_set, natural_set, start_natural, start_is}
use Rattle.rank_shape.proofs.tour.place_of_turn.Goals as goal

pub loop-level-init : goal.loop-level-init
loop-level-init g c = record {
  long = length-replicate g.row.R (pos 0);
  natural = start_natural g.row.R;
  turns = c.requires.turns;
  small = c.requires.small;
  below = c.requires.below;
  same = ap (λ place. visited c.args.order.now c.args.shape.now place c.args.turn)
      (start_is c.args.shape.now g.row.R c.known.ensures.long);
}

step : (g : _) (c : goal.After-natural_extent-extent g) → CodeStep c.args.order.now c.args.shape.now (naturals c.loop-level.at)
    c.loop-level.level c.loop-level.left c.loop-level.inner c.loop_at.result c.natural_extent-extent.result
step g c =
    code_step c.args.order.now c.args.shape.now (naturals c.loop-level.at) c.loop-level.level c.loop-level.left c.loop-level.inner
    c.loop_at.result c.natural_extent-extent.result
    (omega (arith, order_length g.row.R c.args.order.now c.known-2.ensures.order, c.loop-level-test.true))
    c.loop-level.invariant.turns c.loop-level.invariant.below c.loop_at.ensures.number c.natural_extent-extent.ensures

pub nonzero_div-inner : goal.nonzero_div-inner
nonzero_div-inner g c = (step g c).some

pub nonzero_div-left : goal.nonzero_div-left
nonzero_div-left g c = (step g c.before).inner_some

pub subscript-requires : goal.subscript-requires
subscript-requires g c = (step g c.before).turn_below

pub overflow_cast-at : goal.overflow_cast-at
overflow_cast-at g c =
    let known = step g c.before.before in
    omega (arith, ints, c.subscript.ensures.below, known.smaller, c.loop-level.invariant.small)

pub nonzero_rem-left : goal.nonzero_rem-left
nonzero_rem-left g c = (step g c.before.before).inner_some

pub loop-level-preserved : goal.loop-level-preserved
loop-level-preserved g c =
    let known = step g c.before.before in
    let place_is : set c.loop-level.at (c.loop_at.result - 1) (to_z w64 c.subscript.result)
    ≡ set c.loop-level.at (c.loop_at.result - 1) (pos c.subscript.result) =
    ap (λ z. set c.loop-level.at (c.loop_at.result - 1) z)
    (to_z_pos w64 c.subscript.result (omega (arith, c.subscript.ensures.below, known.smaller, c.loop-level.invariant.small))) in
    record {
      long = length-set c.loop-level.at (c.loop_at.result - 1) _ ∙ c.loop-level.invariant.long;
      natural =
          (let P : _ → Type 0 = λ xs. AreNatural xs in subst P (sym place_is)
          (natural_set c.loop-level.at (c.loop_at.result - 1) c.subscript.result c.loop-level.invariant.natural));
      turns = known.turns;
      small = omega (arith, known.inner_smaller, c.loop-level.invariant.small);
      below = known.left_below;
      same =
          ap (λ place. visited (drop (c.loop-level.level + 1) c.args.order.now) c.args.shape.now place
          (c.loop-level.left % (c.loop-level.inner / c.natural_extent-extent.result)))
          (ap naturals place_is ∙ naturals_set c.loop-level.at (c.loop_at.result - 1) c.subscript.result)
          ∙ known.same c.subscript.result
          (c.subscript.ensures.subscript
          ∙ ap (λ down. subscript_at down c.natural_extent-extent.result
          (c.loop-level.left / (c.loop-level.inner / c.natural_extent-extent.result))) c.is_down.ensures)
          ∙ c.loop-level.invariant.same;
    }

pub returns : goal.returns
returns g c =
    let order_done = drop_all c.loop-level.level c.args.order.now
    (omega (arith, order_length g.row.R c.args.order.now c.known-2.ensures.order)) in
    sym (pos_naturals c.loop-level.at c.loop-level.invariant.natural)
    ∙ ap (map pos)
    (sym (ap (λ ls. visited ls c.args.shape.now (naturals c.loop-level.at) c.loop-level.left) order_done)
    ∙ c.loop-level.invariant.same)
