use Rattle.std.proofs.Common.{◌≡◌, drop, fold}
use Rattle.std.specs.List.{filter_map}
use Rattle.a95_base.specs.Integer.{greater_of}
use Rattle.names_types.specs.Constants.{Filled, given_in, integer_of, best}
use Rattle.elemental_values.proofs.elemental.greatest.Given as goal

abbrev pub invariant-loop-argument : goal.invariant-loop-argument
invariant-loop-argument l =
    fold (λ z (a : Filled). greater_of z (integer_of a.1)) l.greatest (filter_map given_in (drop l.argument-index l.seen))
    ≡ best greater_of (filter_map given_in l.seen)
