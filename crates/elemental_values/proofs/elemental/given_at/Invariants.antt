use Rattle.std.proofs.Common.{◌≡◌, drop}
use Rattle.std.specs.List.{filter_map}
use Rattle.names_types.specs.Constants.{given_at, given_in}
use Rattle.elemental_values.proofs.elemental.given_at.Given as goal

abbrev pub invariant-loop-argument : goal.invariant-loop-argument
invariant-loop-argument l =
    given_at l.place (filter_map given_in (drop l.argument-index l.seen)) ≡ given_at l.place (filter_map given_in l.seen)
