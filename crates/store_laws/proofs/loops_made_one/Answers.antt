use Rattle.std.specs.Prelude.{IsTrue}
use Rattle.store_laws.proofs.LoopLaws.{loops_fused}
use Rattle.store_laws.proofs.loops_made_one.Goals as goal

pub returns : goal.returns
returns g c = λ first second sound turns s quiet keeps passes is. loops_fused first (λ x. IsTrue (sound x)) second turns s quiet
    keeps passes is
