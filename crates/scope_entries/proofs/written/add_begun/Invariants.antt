use Rattle.std.proofs.Common.{◌≡◌, ◌++◌, drop, map}
use Rattle.names_types.specs.Scopes.{begun_by}
use Rattle.names_types.specs.View.{procedure_of}
use Rattle.scope_entries.specs.View.{entries_of}
use Rattle.scope_entries.proofs.written.add_begun.Given as goal

abbrev pub invariant-loop-procedure : goal.invariant-loop-procedure
invariant-loop-procedure l =
    entries_of l.entries.items ++ map begun_by (map procedure_of (drop l.procedure-index l.procedures))
    ≡ entries_of l.initial.entries.items ++ map begun_by (map procedure_of l.procedures)
