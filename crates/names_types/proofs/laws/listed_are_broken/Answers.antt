use Rattle.names_types.proofs.Listing.{listed_are_broken}
use Rattle.names_types.proofs.laws.listed_are_broken.Goals as goal

pub returns : goal.returns
returns c = listed_are_broken
