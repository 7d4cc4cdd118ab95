use Rattle.std.proofs.Common.{Bool, subst, sym}
use Rattle.std.specs.Prelude.{IfSome, IfNone, List}
use Rattle.rank_shape.specs.Order.{Level}
use Rattle.loop_order.specs.Legal.{IsLegal, distances_of}
use Rattle.loop_order.specs.Choice.{IsAllowed}
use Rattle.loop_order.proofs.Greedy.{choice_allowed, choice_misses_none}
use Rattle.loop_order.proofs.choice.choose.Goals as goal

pub returns-then-free-clause-some : goal.returns-then-free-clause-some
returns-then-free-clause-some g c =
    let P : Bool → Type 0 =
    λ free. IfSome c.greedy.result
    (λ order. IsAllowed free g.row.R order × IsLegal order (distances_of g.row.R c.args.dists.now)) in
    subst P (sym c.if-free.true) (choice_allowed g.row.R (distances_of g.row.R c.args.dists.now) c.greedy.result c.greedy.ensures)

pub returns-then-free-clause-none : goal.returns-then-free-clause-none
returns-then-free-clause-none g c =
    let P : Bool → Type 0 =
    λ free. IfNone c.greedy.result
    ((order : List Level) → IsAllowed free g.row.R order → IsLegal order (distances_of g.row.R c.args.dists.now) → ⊥) in
    subst P (sym c.if-free.true)
    (choice_misses_none g.row.R (distances_of g.row.R c.args.dists.now) c.greedy.result c.greedy.ensures)
