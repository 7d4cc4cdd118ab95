use Rattle.std.specs.Prelude.{IsTrue}
use Rattle.store_laws.proofs.StoreLaws.{deferred_permuted}
use Rattle.store_laws.proofs.store_in_any_order.Goals as goal

pub returns : goal.returns
returns g c = λ statement sound may turns others s p keeps still commutes alike is. deferred_permuted statement
    (λ x. IsTrue (sound x)) (λ t v. IsTrue (may t v)) s p is keeps still commutes alike
