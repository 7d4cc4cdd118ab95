-- Each row holds by computation.
use Rattle.std.proofs.Common.{refl}
use Rattle.a95_base.specs.Integer.{wrapped}
use Rattle.shape_check_rows.specs.Intrinsics.{GoodArguments, OtherArguments, Dims, ArgumentRanks, ArgumentExtents, Results, Shapes}
use Rattle.shape_check_rows.specs.Intrinsics.{Allocated, SixRanks, Hidden}

pub good_arguments_row : GoodArguments
unfolding wrapped
good_arguments_row = refl

pub other_arguments_row : OtherArguments
unfolding wrapped
other_arguments_row = refl

pub dims_row : Dims
unfolding wrapped
dims_row = refl

pub argument_ranks_row : ArgumentRanks
unfolding wrapped
argument_ranks_row = refl

pub argument_extents_row : ArgumentExtents
unfolding wrapped
argument_extents_row = refl

pub results_row : Results
unfolding wrapped
results_row = refl

pub shapes_row : Shapes
unfolding wrapped
shapes_row = refl

pub allocated_row : Allocated
unfolding wrapped
allocated_row = refl

pub six_ranks_row : SixRanks
unfolding wrapped
six_ranks_row = refl

pub hidden_row : Hidden
unfolding wrapped
hidden_row = refl
