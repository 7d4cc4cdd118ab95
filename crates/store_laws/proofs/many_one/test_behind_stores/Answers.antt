use Rattle.std.specs.Prelude.{IsTrue}
use Rattle.store_laws.proofs.ManyOneLaws.{behind_is_before}
use Rattle.store_laws.proofs.many_one.test_behind_stores.Goals as goal

pub returns : goal.returns
returns g c = λ statement element twice fault sound may turns s keeps ignores tells is. behind_is_before statement element fault
    (λ x. IsTrue (sound x)) (λ t v. IsTrue (may t v)) twice turns s keeps ignores tells is
