-- Each row holds by computation.
use Rattle.std.proofs.Common.{refl}
use Rattle.a95_base.specs.Integer.{wrapped}
use Rattle.shape_check_rows.specs.Operands.{Fits, OtherKinds, OtherRanks, OtherExtents, NoFurther, KindsFirst, UnknownExtents}
use Rattle.shape_check_rows.specs.Operands.{Strides, DeclaredBounds, Conditions, Counters}

pub fits_row : Fits
unfolding wrapped
fits_row = refl

pub other_kinds_row : OtherKinds
unfolding wrapped
other_kinds_row = refl

pub other_ranks_row : OtherRanks
unfolding wrapped
other_ranks_row = refl

pub other_extents_row : OtherExtents
unfolding wrapped
other_extents_row = refl

pub no_further_row : NoFurther
unfolding wrapped
no_further_row = refl

pub kinds_first_row : KindsFirst
unfolding wrapped
kinds_first_row = refl

pub unknown_extents_row : UnknownExtents
unfolding wrapped
unknown_extents_row = refl

pub strides_row : Strides
unfolding wrapped
strides_row = refl

pub declared_bounds_row : DeclaredBounds
unfolding wrapped
declared_bounds_row = refl

pub conditions_row : Conditions
unfolding wrapped
conditions_row = refl

pub counters_row : Counters
unfolding wrapped
counters_row = refl
