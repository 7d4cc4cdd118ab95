use Rattle.store_laws.specs.Loops.{start_of}
use Rattle.store_laws.proofs.LoopLaws.{nested_runs}
use Rattle.store_laws.proofs.nested_loops_walk.Goals as goal

pub returns : goal.returns
returns g c = λ body s. nested_runs body c.args.order.now c.args.shape.now (start_of c.args.shape.now) s
