-- DO and SELECT at their edges, dummies with bounds of their own, and faults behind what was written. Each row holds by
-- computation.
use Rattle.std.proofs.Common.{refl}
use Rattle.array_meaning.proofs.Running.{running}
use Rattle.array_meaning_rows.specs.ControlThree.{negative_do, select_by_ranges, select_by_texts, select_without_a_case}
use Rattle.array_meaning_rows.specs.ControlThree.{exit_of_the_outer_loop, step_of_zero, stride_of_zero_in_nothing}
use Rattle.array_meaning_rows.specs.ControlThree.{element_of_a_shrunk_section, shapes_differ_before_stores}
use Rattle.array_meaning_rows.specs.ControlThree.{elemental_over_a_section, lower_bounds_of_dummies, NegativeDo, SelectByRanges}
use Rattle.array_meaning_rows.specs.ControlThree.{SelectByTexts, SelectWithoutACase, ExitOfTheOuterLoop, StepOfZero}
use Rattle.array_meaning_rows.specs.ControlThree.{StrideOfZeroInNothing, ElementOfAShrunkSection, ShapesDifferBeforeStores}
use Rattle.array_meaning_rows.specs.ControlThree.{ElementalOverASection, LowerBoundsOfDummies}

pub negative_do_row : NegativeDo
unfolding running negative_do
negative_do_row = record { is = refl }

pub select_by_ranges_row : SelectByRanges
unfolding running select_by_ranges
select_by_ranges_row = record { is = refl }

pub select_by_texts_row : SelectByTexts
unfolding running select_by_texts
select_by_texts_row = record { is = refl }

pub select_without_a_case_row : SelectWithoutACase
unfolding running select_without_a_case
select_without_a_case_row = record { is = refl }

pub exit_of_the_outer_loop_row : ExitOfTheOuterLoop
unfolding running exit_of_the_outer_loop
exit_of_the_outer_loop_row = record { is = refl }

pub step_of_zero_row : StepOfZero
unfolding running step_of_zero
step_of_zero_row = record { is = refl }

pub stride_of_zero_in_nothing_row : StrideOfZeroInNothing
unfolding running stride_of_zero_in_nothing
stride_of_zero_in_nothing_row = record { is = refl }

pub element_of_a_shrunk_section_row : ElementOfAShrunkSection
unfolding running element_of_a_shrunk_section
element_of_a_shrunk_section_row = record { is = refl }

pub shapes_differ_before_stores_row : ShapesDifferBeforeStores
unfolding running shapes_differ_before_stores
shapes_differ_before_stores_row = record { is = refl }

pub elemental_over_a_section_row : ElementalOverASection
unfolding running elemental_over_a_section
elemental_over_a_section_row = record { is = refl }

pub lower_bounds_of_dummies_row : LowerBoundsOfDummies
unfolding running lower_bounds_of_dummies
lower_bounds_of_dummies_row = record { is = refl }
