use Rattle.std.proofs.Common.{◌≡◌, length}
use Rattle.names_types.specs.Constants.{keywords_last}
use Rattle.constant_values.proofs.arguments.keywords_last.Given as goal

abbrev pub invariant-looking : goal.invariant-looking
invariant-looking l = keywords_last l.rest ≡ keywords_last l.arguments

abbrev pub decreases-looking : goal.decreases-looking
decreases-looking l = length l.rest
