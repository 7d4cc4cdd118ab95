use Rattle.std.proofs.Common.{◌≡◌, ◌++◌, drop, map}
use Rattle.std.specs.List.{flat_map}
use Rattle.names_types.specs.Scopes.{declared_by}
use Rattle.names_types.specs.View.{declaration_of}
use Rattle.scope_entries.specs.View.{entries_of}
use Rattle.scope_entries.proofs.written.add_declared.Given as goal

abbrev pub invariant-loop-declaration : goal.invariant-loop-declaration
invariant-loop-declaration l =
    entries_of l.entries.items ++ flat_map declared_by (map declaration_of (drop l.declaration-index l.declarations))
    ≡ entries_of l.initial.entries.items ++ flat_map declared_by (map declaration_of l.declarations)
