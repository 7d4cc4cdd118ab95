use Rattle.std.specs.Prelude.{IsTrue}
use Rattle.loop_order.specs.Legal.{distances_of}
use Rattle.store_laws.proofs.FusionLaws.{group_is_one}
use Rattle.store_laws.proofs.fusion.nests_of_group_made_one.Goals as goal

pub returns : goal.returns
returns g c =
    λ bodies sound s keeps fusable is.
    group_is_one (λ x. IsTrue (sound x)) g.row.R c.args.shape.now c.args.order.now (distances_of g.row.R c.args.dists.now) bodies s
    c.known.ensures.long c.known-2.ensures.order c.requires keeps fusable is
