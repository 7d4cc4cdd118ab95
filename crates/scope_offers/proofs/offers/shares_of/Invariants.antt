use Rattle.std.proofs.Common.{◌≡◌, ◌++◌, drop}
use Rattle.scope_entries.specs.View.{entries_of}
use Rattle.scope_offers.specs.Shares.{shares_by}
use Rattle.scope_offers.proofs.offers.shares_of.Given as goal

abbrev pub invariant-loop-entry : goal.invariant-loop-entry
invariant-loop-entry l =
    l.shares.items ++ shares_by l.place (entries_of (drop l.entry-index l.entries)) l.left
    ≡ shares_by l.place (entries_of l.entries) l.meanings
