use Rattle.std.proofs.Common.{◌≡◌, ◌++◌, drop}
use Rattle.names_types.specs.View.{assignments_mentions}
use Rattle.statement_names.proofs.lines.note_assignments.Given as goal

abbrev pub invariant-loop-assignment : goal.invariant-loop-assignment
invariant-loop-assignment l =
    l.mentions.items ++ assignments_mentions (drop l.assignment-index l.assignments)
    ≡ l.initial.mentions.items ++ assignments_mentions l.assignments
