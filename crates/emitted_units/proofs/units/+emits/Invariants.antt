use Rattle.std.proofs.Common.{◌≡◌, drop}
use Rattle.nest_emit.specs.Emits.{emits_all}
use Rattle.nest_tree.specs.View.{procedure_of, statements_of}
use Rattle.emitted_units.proofs.units.+emits.Given as goal

abbrev pub invariant-emits_all-loop-statement : goal.invariant-emits_all-loop-statement
invariant-emits_all-loop-statement l =
    emits_all (procedure_of l.own) (statements_of (drop l.statement-index l.statements))
    ≡ emits_all (procedure_of l.own) (statements_of l.statements)
