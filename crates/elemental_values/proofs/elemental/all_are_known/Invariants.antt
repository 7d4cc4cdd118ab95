use Rattle.std.proofs.Common.{◌≡◌, drop}
use Rattle.std.specs.List.{list_all}
use Rattle.std.specs.Option.{is_some}
use Rattle.names_types.specs.Constants.{Seen, scalar_in}
use Rattle.elemental_values.proofs.elemental.all_are_known.Given as goal

abbrev pub invariant-loop-argument : goal.invariant-loop-argument
invariant-loop-argument l =
    list_all (λ (a : Seen). is_some (scalar_in a.1.worth)) (drop l.argument-index l.seen)
    ≡ list_all (λ (a : Seen). is_some (scalar_in a.1.worth)) l.seen
