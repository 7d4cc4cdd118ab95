use Rattle.std.proofs.Common.{◌≡◌, drop}
use Rattle.names_types.specs.View.{type_in}
use Rattle.scope_entries.proofs.written.type_in.Given as goal

abbrev pub invariant-loop-prefix : goal.invariant-loop-prefix
invariant-loop-prefix l = type_in (drop l.prefix-index l.prefixes) ≡ type_in l.prefixes
