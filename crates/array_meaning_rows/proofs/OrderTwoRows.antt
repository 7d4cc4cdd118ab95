-- What is evaluated and tested before what. Each row holds by computation.
use Rattle.std.proofs.Common.{refl}
use Rattle.array_meaning.proofs.Running.{running}
use Rattle.array_meaning_rows.specs.OrderTwo.{mask_of_another_shape, nested_mask_of_another_shape, mask_shape_before_many_one}
use Rattle.array_meaning_rows.specs.OrderTwo.{left_parts_behind_right_in_forall, MaskOfAnotherShape, NestedMaskOfAnotherShape}
use Rattle.array_meaning_rows.specs.OrderTwo.{MaskShapeBeforeManyOne, LeftPartsBehindRightInForall}

pub mask_of_another_shape_row : MaskOfAnotherShape
unfolding running mask_of_another_shape
mask_of_another_shape_row = record { is = refl }

pub nested_mask_of_another_shape_row : NestedMaskOfAnotherShape
unfolding running nested_mask_of_another_shape
nested_mask_of_another_shape_row = record { is = refl }

pub mask_shape_before_many_one_row : MaskShapeBeforeManyOne
unfolding running mask_shape_before_many_one
mask_shape_before_many_one_row = record { is = refl }

pub left_parts_behind_right_in_forall_row : LeftPartsBehindRightInForall
unfolding running left_parts_behind_right_in_forall
left_parts_behind_right_in_forall_row = record { is = refl }
