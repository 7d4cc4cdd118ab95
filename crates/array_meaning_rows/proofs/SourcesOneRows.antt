-- Small whole sources. Each row holds by computation.
use Rattle.std.proofs.Common.{refl}
use Rattle.array_meaning.proofs.Running.{running}
use Rattle.array_meaning_rows.specs.SourcesOne.{texts_and_truth, steps_of_four, section_past_the_end, section_too_long}
use Rattle.array_meaning_rows.specs.SourcesOne.{section_without_stride, where_in_where, forall_reverses, forall_inverts}
use Rattle.array_meaning_rows.specs.SourcesOne.{matrix_and_vector, TextsAndTruth, StepsOfFour, SectionPastTheEnd, SectionTooLong}
use Rattle.array_meaning_rows.specs.SourcesOne.{SectionWithoutStride, WhereInWhere, ForallReverses, ForallInverts, MatrixAndVector}

pub texts_and_truth_row : TextsAndTruth
unfolding running texts_and_truth
texts_and_truth_row = record { is = refl }

pub steps_of_four_row : StepsOfFour
unfolding running steps_of_four
steps_of_four_row = record { is = refl }

pub section_past_the_end_row : SectionPastTheEnd
unfolding running section_past_the_end
section_past_the_end_row = record { is = refl }

pub section_too_long_row : SectionTooLong
unfolding running section_too_long
section_too_long_row = record { is = refl }

pub section_without_stride_row : SectionWithoutStride
unfolding running section_without_stride
section_without_stride_row = record { is = refl }

pub where_in_where_row : WhereInWhere
unfolding running where_in_where
where_in_where_row = record { is = refl }

pub forall_reverses_row : ForallReverses
unfolding running forall_reverses
forall_reverses_row = record { is = refl }

pub forall_inverts_row : ForallInverts
unfolding running forall_inverts
forall_inverts_row = record { is = refl }

pub matrix_and_vector_row : MatrixAndVector
unfolding running matrix_and_vector
matrix_and_vector_row = record { is = refl }
