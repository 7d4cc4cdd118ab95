use Rattle.shape_check.proofs.Listing.{first_is_least_of, none_is_unbroken}
use Rattle.shape_check.proofs.laws.first_is_least.Goals as goal

pub returns : goal.returns
returns c = record { least = first_is_least_of; unbroken = none_is_unbroken }
