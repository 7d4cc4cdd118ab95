use Rattle.store_laws.proofs.LoopLaws.{direct_runs}
use Rattle.store_laws.proofs.BodyLaws.{deferred_runs, through_runs}
use Rattle.store_laws.proofs.fusion.statement_is_runs.Goals as goal

pub returns-clause-direct : goal.returns-clause-direct
returns-clause-direct g c = λ statement turns s. direct_runs statement turns s

pub returns-clause-deferred : goal.returns-clause-deferred
returns-clause-deferred g c = λ statement turns s. deferred_runs statement turns s

pub returns-clause-through : goal.returns-clause-through
returns-clause-through g c = λ statement temporary turns s. through_runs statement temporary turns s
