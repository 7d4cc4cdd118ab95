use Rattle.std.proofs.Common.{◌≡◌, drop, fold, map}
use Rattle.f95_unit.specs.View.{procedure_of, program_of}
use Rattle.proc_calls.specs.Interfaces.{interfaces_of}
use Rattle.proc_check.specs.Rules.{numbered}
use Rattle.proc_check.specs.Walk.{through_home, through_unit}
use Rattle.proc_check.proofs.check.first_break.Given as goal

abbrev pub invariant-loop-number : goal.invariant-loop-number
invariant-loop-number l =
    (fold (through_home l.c.interfaces) l.found (numbered l.number (map procedure_of (drop l.number l.unit.procedures)))
    ≡ through_unit (program_of l.unit))
    × (l.c.interfaces ≡ interfaces_of (program_of l.unit))
