use Rattle.std.proofs.Common.{arith, true, false}
use Rattle.std.proofs.lemmas.Grind.{common_steps}
use Rattle.loop_order.specs.Legal.{distances_of}
use Rattle.loop_order.proofs.Lefts.{legal_is}
use Rattle.loop_order.proofs.order.legal.Goals as goal

pub returns-then-not-is_settled-clause-legal : goal.returns-then-not-is_settled-clause-legal
returns-then-not-is_settled-clause-legal g c = legal_is c.args.order.now (distances_of g.row.R c.args.dists.now) false
    (grind (arith, common_steps))

pub returns-clause-legal : goal.returns-clause-legal
returns-clause-legal g c = legal_is c.args.order.now (distances_of g.row.R c.args.dists.now) true (grind (arith, common_steps))
