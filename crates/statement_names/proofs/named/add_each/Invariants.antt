use Rattle.std.proofs.Common.{◌≡◌, ◌++◌, drop}
use Rattle.std.specs.List.{flat_map}
use Rattle.statement_names.proofs.named.add_each.Given as goal

abbrev pub invariant-loop-part : goal.invariant-loop-part
invariant-loop-part g l =
    l.names.items ++ flat_map g.T.Named.named (drop l.part-index l.parts) ≡ l.initial.names.items
    ++ flat_map g.T.Named.named l.parts
