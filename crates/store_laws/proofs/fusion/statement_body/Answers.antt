use Rattle.std.specs.Prelude.{IsTrue}
use Rattle.store_laws.proofs.BodyLaws.{body_quiet, body_keeps, bodies_pass}
use Rattle.store_laws.proofs.fusion.statement_body.Goals as goal

pub returns-clause-quiet : goal.returns-clause-quiet
returns-clause-quiet g c = λ statement sound may turn keeps never. body_quiet statement (λ x. IsTrue (sound x))
    (λ t v. IsTrue (may t v)) turn keeps never

pub returns-clause-sound : goal.returns-clause-sound
returns-clause-sound g c = λ statement sound may turn keeps. body_keeps statement (λ x. IsTrue (sound x)) (λ t v. IsTrue (may t v))
    turn keeps

pub returns-clause-passes : goal.returns-clause-passes
returns-clause-passes g c =
    λ statement other sound may might turn later keeps keeps_too apart.
    bodies_pass statement other (λ x. IsTrue (sound x)) (λ t v. IsTrue (may t v)) (λ t w. IsTrue (might t w)) turn later keeps
    keeps_too apart
