use Rattle.std.proofs.Common.{◌-◌, arith, false, ◌∙◌, replicate}
use Rattle.std.proofs.lemmas.List.{length-replicate, length-set}
use Rattle.loop_order.specs.Legal.{distances_of}
use Rattle.loop_order.specs.Choice.{suits}
use Rattle.loop_order.specs.Left.{open_distances}
use Rattle.loop_order.proofs.Greedy.{found_left, start_level, one_more_level, gives_up, whole_choice, made_is}
use Rattle.loop_order.proofs.choice.greedy.Goals as goal

pub loop-level-init : goal.loop-level-init
loop-level-init g c = record {
  loops_long = length-replicate g.row.R 0;
  down_long = length-replicate g.row.R false;
  taken_long = length-replicate g.row.R false;
  same = start_level g.row.R (replicate g.row.R 0) (replicate g.row.R false) (distances_of g.row.R c.args.dists.now);
}

pub returns-in_default : goal.returns-in_default
returns-in_default g c =
    gives_up g.row.R c.loop-level.level c.loop-level.taken _ (distances_of g.row.R c.args.dists.now) _ c.loop-level-test.true
    c.loop-level.invariant.same c.in_default.ensures.first

pub overflow_sub-taken : goal.overflow_sub-taken
overflow_sub-taken g c =
    (found_left g.row.R c.loop-level.taken
    (λ l. suits l (open_distances c.loop-level.taken (distances_of g.row.R c.args.dists.now))) c.in-Some.next.number
    c.in-Some.ensures.first).least

pub bounds-taken-next : goal.bounds-taken-next
bounds-taken-next g c =
    let known =
    found_left g.row.R c.loop-level.taken
    (λ l. suits l (open_distances c.loop-level.taken (distances_of g.row.R c.args.dists.now))) c.in-Some.next.number
    c.in-Some.ensures.first in
    omega (arith, known.least, known.most)

pub loop-level-preserved : goal.loop-level-preserved
loop-level-preserved g c = record {
  loops_long = length-set c.loop-level.loops c.loop-level.level _ ∙ c.loop-level.invariant.loops_long;
  down_long = length-set c.loop-level.down c.loop-level.level _ ∙ c.loop-level.invariant.down_long;
  taken_long = length-set c.loop-level.taken (c.in-Some.next.number - 1) _ ∙ c.loop-level.invariant.taken_long;
  same =
      one_more_level g.row.R c.loop-level.level c.in-Some.next.number c.loop-level.taken c.loop-level.down c.loop-level.loops
      (distances_of g.row.R c.args.dists.now) c.in-Some.next.down _
      c.loop-level-test.true c.loop-level.invariant.loops_long c.loop-level.invariant.down_long c.loop-level.invariant.taken_long
      c.loop-level.invariant.same c.in-Some.ensures.first c.in-Some.ensures.direction;
}

pub returns : goal.returns
returns g c =
    made_is g.row.R c.loop-level.loops c.loop-level.down (distances_of g.row.R c.args.dists.now) c.new.result
    c.loop-level.invariant.loops_long c.loop-level.invariant.down_long
    (whole_choice g.row.R c.loop-level.level c.loop-level.taken c.loop-level.down c.loop-level.loops
    (distances_of g.row.R c.args.dists.now) (omega arith) c.loop-level.invariant.loops_long c.loop-level.invariant.down_long
    c.loop-level.invariant.same)
    c.new.ensures.named.1 c.new.ensures.order
