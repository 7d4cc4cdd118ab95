use Rattle.std.specs.Prelude.{IsTrue}
use Rattle.store_laws.proofs.ManyOneLaws.{marks_tell}
use Rattle.store_laws.proofs.many_one.marks_tell.Goals as goal

pub returns : goal.returns
returns g c = λ statement element marks sound may turns s keeps marking unmarked is. marks_tell statement element marks
    (λ x. IsTrue (sound x)) (λ t v. IsTrue (may t v)) turns s keeps marking unmarked is
