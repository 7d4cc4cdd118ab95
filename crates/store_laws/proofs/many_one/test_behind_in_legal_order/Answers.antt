use Rattle.std.specs.Prelude.{IsTrue}
use Rattle.loop_order.specs.Legal.{distances_of}
use Rattle.store_laws.proofs.ManyOneLaws.{legal_tested}
use Rattle.store_laws.proofs.many_one.test_behind_in_legal_order.Goals as goal

pub returns : goal.returns
returns g c =
    λ statement element twice fault sound may s known keeps free tells is.
    legal_tested statement element fault (λ x. IsTrue (sound x)) (λ t v. IsTrue (may t v)) g.row.R c.args.shape.now c.args.order.now
    twice (distances_of g.row.R c.args.dists.now) s c.known.ensures.long c.known-2.ensures.order c.requires known keeps free
    tells is
