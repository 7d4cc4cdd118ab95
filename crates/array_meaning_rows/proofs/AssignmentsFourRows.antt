-- Sections without elements, with negative strides, and by subscripts that stand twice on the right. Each row holds by computation.
use Rattle.std.proofs.Common.{refl}
use Rattle.array_meaning.proofs.Running.{running}
use Rattle.array_meaning_rows.specs.AssignmentsFour.{empty_sections, backwards_onto_itself, stride_past_the_end}
use Rattle.array_meaning_rows.specs.AssignmentsFour.{repeats_on_the_right, vector_of_no_subscripts, EmptySections}
use Rattle.array_meaning_rows.specs.AssignmentsFour.{BackwardsOntoItself, StridePastTheEnd, RepeatsOnTheRight, VectorOfNoSubscripts}

pub empty_sections_row : EmptySections
unfolding running empty_sections
empty_sections_row = record { is = refl }

pub backwards_onto_itself_row : BackwardsOntoItself
unfolding running backwards_onto_itself
backwards_onto_itself_row = record { is = refl }

pub stride_past_the_end_row : StridePastTheEnd
unfolding running stride_past_the_end
stride_past_the_end_row = record { is = refl }

pub repeats_on_the_right_row : RepeatsOnTheRight
unfolding running repeats_on_the_right
repeats_on_the_right_row = record { is = refl }

pub vector_of_no_subscripts_row : VectorOfNoSubscripts
unfolding running vector_of_no_subscripts
vector_of_no_subscripts_row = record { is = refl }
