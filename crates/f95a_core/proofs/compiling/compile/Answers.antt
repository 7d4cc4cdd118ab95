use Rattle.f95a_core.proofs.Built.{compiles}
use Rattle.f95a_core.proofs.compiling.compile.Goals as goal

pub returns-in-Ok-collect-clause-compiled : goal.returns-in-Ok-collect-clause-compiled
returns-in-Ok-collect-clause-compiled c =
    compiles c.args.source.now c.in-Ok.unit _ c.in-Ok-collect.program
    (record { reads = c.in-Ok.ensures.reads; typed = c.in-Ok.ensures.typed; size = c.in-Ok.ensures.size }) c.new.ensures
    c.in-Ok-collect.ensures
