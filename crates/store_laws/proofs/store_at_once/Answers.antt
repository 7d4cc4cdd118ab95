use Rattle.std.specs.Prelude.{IsTrue}
use Rattle.store_laws.proofs.StoreLaws.{direct_deferred}
use Rattle.store_laws.proofs.store_at_once.Goals as goal

pub returns : goal.returns
returns g c = λ statement sound may turns s keeps ignores is. direct_deferred statement (λ x. IsTrue (sound x))
    (λ t v. IsTrue (may t v)) turns s keeps ignores is
