use Rattle.std.proofs.Common.{length}
use Rattle.element_atoms.proofs.places.+place_lines.Given as goal

abbrev pub decreases-place_lines : goal.decreases-place_lines
decreases-place_lines l = length l.dimensions.now
