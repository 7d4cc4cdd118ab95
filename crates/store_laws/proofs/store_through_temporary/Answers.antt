use Rattle.std.specs.Prelude.{IsTrue}
use Rattle.store_laws.proofs.TemporaryLaws.{through_deferred}
use Rattle.store_laws.proofs.store_through_temporary.Goals as goal

pub returns : goal.returns
returns g c =
    λ statement temporary sound may turns s apart keeps fills ignores others is.
    through_deferred statement temporary (λ x. IsTrue (sound x)) (λ t v. IsTrue (may t v)) apart turns s keeps fills ignores others
    is
