-- WHERE whose body changes its mask, and FORALL without combinations or with negative strides. Each row holds by computation.
use Rattle.std.proofs.Common.{refl}
use Rattle.array_meaning.proofs.Running.{running}
use Rattle.array_meaning_rows.specs.MasksThree.{mask_changed_in_its_body, masked_elsewheres_in_order, where_within_elsewhere}
use Rattle.array_meaning_rows.specs.MasksThree.{where_without_any_place, where_of_no_elements, forall_without_combinations}
use Rattle.array_meaning_rows.specs.MasksThree.{forall_backwards_by_two, forall_transposes, MaskChangedInItsBody}
use Rattle.array_meaning_rows.specs.MasksThree.{MaskedElsewheresInOrder, WhereWithinElsewhere, WhereWithoutAnyPlace}
use Rattle.array_meaning_rows.specs.MasksThree.{WhereOfNoElements, ForallWithoutCombinations, ForallBackwardsByTwo}
use Rattle.array_meaning_rows.specs.MasksThree.{ForallTransposes}

pub mask_changed_in_its_body_row : MaskChangedInItsBody
unfolding running mask_changed_in_its_body
mask_changed_in_its_body_row = record { is = refl }

pub masked_elsewheres_in_order_row : MaskedElsewheresInOrder
unfolding running masked_elsewheres_in_order
masked_elsewheres_in_order_row = record { is = refl }

pub where_within_elsewhere_row : WhereWithinElsewhere
unfolding running where_within_elsewhere
where_within_elsewhere_row = record { is = refl }

pub where_without_any_place_row : WhereWithoutAnyPlace
unfolding running where_without_any_place
where_without_any_place_row = record { is = refl }

pub where_of_no_elements_row : WhereOfNoElements
unfolding running where_of_no_elements
where_of_no_elements_row = record { is = refl }

pub forall_without_combinations_row : ForallWithoutCombinations
unfolding running forall_without_combinations
forall_without_combinations_row = record { is = refl }

pub forall_backwards_by_two_row : ForallBackwardsByTwo
unfolding running forall_backwards_by_two
forall_backwards_by_two_row = record { is = refl }

pub forall_transposes_row : ForallTransposes
unfolding running forall_transposes
forall_transposes_row = record { is = refl }
