-- Assignments of whole arrays, sections, texts and scalars, and initial values. Each row holds by computation.
use Rattle.std.proofs.Common.{refl}
use Rattle.array_meaning.proofs.Running.{running}
use Rattle.array_meaning_rows.specs.AssignmentsThree.{trial_of_one, TrialOfOne}

pub trial_of_one_row : TrialOfOne
unfolding running trial_of_one
trial_of_one_row = record { is = refl }
