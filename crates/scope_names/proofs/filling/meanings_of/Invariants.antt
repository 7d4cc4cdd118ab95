use Rattle.scope_entries.specs.View.{entries_of}
use Rattle.scope_names.specs.Tables.{meant_in}
use Rattle.scope_names.proofs.Filled.{Filled}
use Rattle.scope_names.proofs.filling.meanings_of.Given as goal

abbrev pub invariant-loop-entry : goal.invariant-loop-entry
invariant-loop-entry l = Filled (meant_in l.host) (entries_of l.entries) l.own.names l.own.meanings.items l.entry-index
