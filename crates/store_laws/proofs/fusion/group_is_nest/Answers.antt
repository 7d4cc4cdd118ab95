use Rattle.std.specs.Prelude.{IsTrue}
use Rattle.store_laws.proofs.FusionLaws.{both_quiet, both_keep, both_let_pass, both_pass}
use Rattle.store_laws.proofs.fusion.group_is_nest.Goals as goal

pub returns-clause-quiet : goal.returns-clause-quiet
returns-clause-quiet g c = λ first second sound turn quiet also. both_quiet (λ x. IsTrue (sound x)) first second turn quiet also

pub returns-clause-sound : goal.returns-clause-sound
returns-clause-sound g c = λ first second sound turn keeps also. both_keep (λ x. IsTrue (sound x)) first second turn keeps also

pub returns-clause-lets_pass : goal.returns-clause-lets_pass
returns-clause-lets_pass g c = λ first second step sound turn keeps passes also. both_let_pass (λ x. IsTrue (sound x)) first second
    step turn keeps passes also

pub returns-clause-passes : goal.returns-clause-passes
returns-clause-passes g c = λ first second body sound turn later keeps passes also. both_pass (λ x. IsTrue (sound x)) (first turn)
    (second turn) body later keeps passes also
