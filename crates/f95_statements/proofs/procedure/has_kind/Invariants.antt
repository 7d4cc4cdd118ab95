use Rattle.std.proofs.Common.{◌≡◌, map, drop}
use Rattle.f95_statements.proofs.procedure.has_kind.Given as goal
use Rattle.f95_tree.specs.WellFormed.{is_among, prefix_kind}

abbrev pub invariant-loop-prefix : goal.invariant-loop-prefix
invariant-loop-prefix l = is_among (map prefix_kind (drop l.prefix-index l.prefixes)) l.kind
    ≡ is_among (map prefix_kind l.prefixes) l.kind
