-- WHERE and FORALL. Each row holds by computation.
use Rattle.std.proofs.Common.{refl}
use Rattle.array_meaning.proofs.Running.{running}
use Rattle.array_meaning_rows.specs.MasksOne.{where_and_elsewhere, masked_elsewhere_and_nested, mask_evaluated_once}
use Rattle.array_meaning_rows.specs.MasksOne.{division_at_true_places, forall_with_mask, forall_two_assignments, forall_backwards}
use Rattle.array_meaning_rows.specs.MasksOne.{masks_of_another_shape, many_one_at_false_places, WhereAndElsewhere}
use Rattle.array_meaning_rows.specs.MasksOne.{MaskedElsewhereAndNested, MaskEvaluatedOnce, DivisionAtTruePlaces, ForallWithMask}
use Rattle.array_meaning_rows.specs.MasksOne.{ForallTwoAssignments, ForallBackwards, MasksOfAnotherShape, ManyOneAtFalsePlaces}

pub where_and_elsewhere_row : WhereAndElsewhere
unfolding running where_and_elsewhere
where_and_elsewhere_row = record { is = refl }

pub masked_elsewhere_and_nested_row : MaskedElsewhereAndNested
unfolding running masked_elsewhere_and_nested
masked_elsewhere_and_nested_row = record { is = refl }

pub mask_evaluated_once_row : MaskEvaluatedOnce
unfolding running mask_evaluated_once
mask_evaluated_once_row = record { is = refl }

pub division_at_true_places_row : DivisionAtTruePlaces
unfolding running division_at_true_places
division_at_true_places_row = record { is = refl }

pub forall_with_mask_row : ForallWithMask
unfolding running forall_with_mask
forall_with_mask_row = record { is = refl }

pub forall_two_assignments_row : ForallTwoAssignments
unfolding running forall_two_assignments
forall_two_assignments_row = record { is = refl }

pub forall_backwards_row : ForallBackwards
unfolding running forall_backwards
forall_backwards_row = record { is = refl }

pub masks_of_another_shape_row : MasksOfAnotherShape
unfolding running masks_of_another_shape
masks_of_another_shape_row = record { is = refl }

pub many_one_at_false_places_row : ManyOneAtFalsePlaces
unfolding running many_one_at_false_places
many_one_at_false_places_row = record { is = refl }
