use Rattle.std.specs.Prelude.{IsTrue}
use Rattle.store_laws.proofs.FusionLaws.{accesses_fuse}
use Rattle.store_laws.proofs.fusion.fusable_by_accesses.Goals as goal

pub returns : goal.returns
returns g c = λ first second sound extents distances firsts seconds quiet keeps measured all. accesses_fuse first second
    (λ x. IsTrue (sound x)) extents distances firsts seconds quiet keeps measured all
