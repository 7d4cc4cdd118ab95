use Rattle.std.proofs.Common.{◌≡◌, drop}
use Rattle.std.specs.List.{list_any}
use Rattle.names_types.specs.Constants.{Seen, is_spoilt}
use Rattle.elemental_values.proofs.elemental.has_spoilt.Given as goal

abbrev pub invariant-loop-argument : goal.invariant-loop-argument
invariant-loop-argument l =
    list_any (λ (a : Seen). is_spoilt a.1.worth) (drop l.argument-index l.seen)
    ≡ list_any (λ (a : Seen). is_spoilt a.1.worth) l.seen
