use Rattle.std.proofs.Common.{arith}
use Rattle.f95_expressions.proofs.Runs.{row_on}
use Rattle.f95_fields.proofs.run.row.Goals as goal

pub loop-terminal-preserved : goal.loop-terminal-preserved
loop-terminal-preserved c =
    row_on c.loop-terminal.machine c.in_ok-machine-2.machine c.terminal-item.result c.args.terminals.now
    c.loop-terminal.terminal-index _
    (omega arith) c.terminal-item.is c.in_ok-machine-2.ensures c.loop-terminal.invariant
