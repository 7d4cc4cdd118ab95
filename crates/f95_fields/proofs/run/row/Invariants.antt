use Rattle.std.proofs.Common.{◌≡◌, drop}
use Rattle.std.specs.Prelude.{option_and_then}
use Rattle.f95_fields.proofs.run.row.Given as goal
use Rattle.f95_expressions.specs.Machine.{run, row_found, row}

abbrev pub invariant-loop-terminal : goal.invariant-loop-terminal
invariant-loop-terminal l = option_and_then row_found (run l.machine (drop l.terminal-index l.terminals)) ≡ row l.terminals
