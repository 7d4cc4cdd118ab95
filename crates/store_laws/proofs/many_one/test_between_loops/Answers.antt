use Rattle.std.specs.Prelude.{IsTrue}
use Rattle.store_laws.proofs.ManyOneLaws.{between_is_before}
use Rattle.store_laws.proofs.many_one.test_between_loops.Goals as goal

pub returns : goal.returns
returns g c =
    λ statement temporary elements twice fault sound may turns s apart keeps fills ignores others tells is.
    between_is_before statement temporary elements fault (λ x. IsTrue (sound x)) (λ t v. IsTrue (may t v)) twice apart turns s keeps
    fills ignores others tells is
