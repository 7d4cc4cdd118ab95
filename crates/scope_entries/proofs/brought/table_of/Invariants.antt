use Rattle.std.proofs.Common.{◌≡◌, ◌++◌, drop}
use Rattle.scope_entries.proofs.brought.table_of.Given as goal

abbrev pub invariant-loop-name : goal.invariant-loop-name
invariant-loop-name l = l.names ++ drop l.name-index l.listed ≡ l.listed
