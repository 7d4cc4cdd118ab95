use Rattle.std.specs.Prelude.{IsTrue}
use Rattle.store_laws.proofs.LoopLaws.{step_passes}
use Rattle.store_laws.proofs.step_before_loop.Goals as goal

pub returns : goal.returns
returns g c = λ step body sound turns s quiet passes is. step_passes body (λ x. IsTrue (sound x)) step turns s quiet passes is
