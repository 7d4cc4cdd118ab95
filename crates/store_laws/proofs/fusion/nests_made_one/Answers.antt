use Rattle.std.specs.Prelude.{IsTrue}
use Rattle.loop_order.specs.Legal.{distances_of}
use Rattle.store_laws.proofs.FusionLaws.{nests_are_one, accesses_fuse}
use Rattle.store_laws.proofs.fusion.nests_made_one.Goals as goal

pub returns-clause-by_turns : goal.returns-clause-by_turns
returns-clause-by_turns g c =
    λ first second sound s fusable is.
    nests_are_one (λ x. IsTrue (sound x)) g.row.R c.args.shape.now c.args.order.now (distances_of g.row.R c.args.dists.now) first
    second s c.known.ensures.long c.known-2.ensures.order c.requires fusable is

pub returns-clause-by_accesses : goal.returns-clause-by_accesses
returns-clause-by_accesses g c =
    λ first second sound firsts seconds s quiet keeps measured all is.
    nests_are_one (λ x. IsTrue (sound x)) g.row.R c.args.shape.now c.args.order.now (distances_of g.row.R c.args.dists.now) first
    second s c.known.ensures.long c.known-2.ensures.order c.requires
    (accesses_fuse first second (λ x. IsTrue (sound x)) c.args.shape.now (distances_of g.row.R c.args.dists.now) firsts seconds
    quiet keeps measured all) is
