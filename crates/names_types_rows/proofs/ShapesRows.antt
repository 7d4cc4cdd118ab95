-- Each row holds by computation.
use Rattle.std.proofs.Common.{refl}
use Rattle.a95_base.specs.Integer.{wrapped}
use Rattle.names_types_rows.specs.Shapes.{Attributes, EntityBoundsWin, Intended, Ranks, Lengths, KnownLengths, Sizes}

pub attributes_row : Attributes
unfolding wrapped
attributes_row = refl

pub entity_bounds_win_row : EntityBoundsWin
unfolding wrapped
entity_bounds_win_row = refl

pub intended_row : Intended
unfolding wrapped
intended_row = refl

pub ranks_row : Ranks
unfolding wrapped
ranks_row = refl

pub lengths_row : Lengths
unfolding wrapped
lengths_row = refl

pub known_lengths_row : KnownLengths
unfolding wrapped
known_lengths_row = refl

pub sizes_row : Sizes
unfolding wrapped
sizes_row = refl
