use Rattle.std.proofs.Common.{◌≡◌, length}
use Rattle.names_types.specs.Constants.{have_own_places}
use Rattle.constant_values.proofs.arguments.have_own_places.Given as goal

abbrev pub invariant-looking : goal.invariant-looking
invariant-looking l = have_own_places l.rest ≡ have_own_places l.placed

abbrev pub decreases-looking : goal.decreases-looking
decreases-looking l = length l.rest
