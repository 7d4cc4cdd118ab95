use Rattle.std.proofs.Common.{[], drop}
use Rattle.names_types.specs.Scopes.{brought_once}
use Rattle.scope_entries.specs.View.{all_brought}
use Rattle.scope_entries.proofs.Again.{Kept}
use Rattle.scope_entries.proofs.brought.once.Given as goal

abbrev pub invariant-loop-one : goal.invariant-loop-one
invariant-loop-one l = Kept l.seen.keys l.kept.items (drop l.one-index l.brought) (brought_once [] (all_brought l.brought))
