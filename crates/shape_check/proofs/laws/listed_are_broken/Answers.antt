use Rattle.shape_check.proofs.Listing.{listed_are_broken}
use Rattle.shape_check.proofs.laws.listed_are_broken.Goals as goal

pub returns : goal.returns
returns c = listed_are_broken
