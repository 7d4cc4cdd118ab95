-- Each row holds by computation.
use Rattle.std.proofs.Common.{refl}
use Rattle.a95_base.specs.Integer.{wrapped}
use Rattle.shape_check_rows.specs.Blocks.{GoodCases, OtherCases, IllTypedCase, SharedValues, GoodMasks, OtherMasks, GoodIndices}
use Rattle.shape_check_rows.specs.Blocks.{OtherIndices, HiddenIndex, StoredIndex, ManyIndices, CutTarget}

pub good_cases_row : GoodCases
unfolding wrapped
good_cases_row = refl

pub other_cases_row : OtherCases
unfolding wrapped
other_cases_row = refl

pub ill_typed_case_row : IllTypedCase
unfolding wrapped
ill_typed_case_row = refl

pub shared_values_row : SharedValues
unfolding wrapped
shared_values_row = refl

pub good_masks_row : GoodMasks
unfolding wrapped
good_masks_row = refl

pub other_masks_row : OtherMasks
unfolding wrapped
other_masks_row = refl

pub good_indices_row : GoodIndices
unfolding wrapped
good_indices_row = refl

pub other_indices_row : OtherIndices
unfolding wrapped
other_indices_row = refl

pub hidden_index_row : HiddenIndex
unfolding wrapped
hidden_index_row = refl

pub stored_index_row : StoredIndex
unfolding wrapped
stored_index_row = refl

pub many_indices_row : ManyIndices
unfolding wrapped
many_indices_row = refl

pub cut_target_row : CutTarget
unfolding wrapped
cut_target_row = refl
