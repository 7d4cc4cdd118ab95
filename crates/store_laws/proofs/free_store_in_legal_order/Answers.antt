use Rattle.std.specs.Prelude.{IsTrue}
use Rattle.loop_order.specs.Legal.{distances_of}
use Rattle.store_laws.proofs.LegalLaws.{legal_assigned}
use Rattle.store_laws.proofs.free_store_in_legal_order.Goals as goal

pub returns : goal.returns
returns g c =
    λ statement sound may s known keeps free is.
    legal_assigned statement (λ x. IsTrue (sound x)) (λ t v. IsTrue (may t v)) g.row.R c.args.shape.now c.args.order.now
    (distances_of g.row.R c.args.dists.now) s c.known.ensures.long c.known-2.ensures.order c.requires known keeps free is
