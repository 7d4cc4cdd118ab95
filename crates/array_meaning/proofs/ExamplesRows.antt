-- Small sources that show what acts when. Each row holds by computation.
use Rattle.std.proofs.Common.{◌≡◌, refl, ap, subst, true}
use Rattle.std.specs.Prelude.{[], ◌∷◌, Result, Ok, Err}
use Rattle.a95_base.specs.Lists.{Every}
use Rattle.array_meaning.specs.State.{Halt}
use Rattle.array_meaning.specs.Sections.{Section}
use Rattle.array_meaning.specs.Reads.{is_spared}
use Rattle.array_meaning.specs.Build.{num}
use Rattle.array_meaning.proofs.Running.{running}
use Rattle.array_meaning.specs.Examples.{shifted_section, sum_without_mask, pending_places_alone, forall_before_any_store}
use Rattle.array_meaning.specs.Examples.{turns_run_out, shifts, shape_before_many_one, many_one_before_elements}
use Rattle.array_meaning.specs.Examples.{scalar_mask_by_itself, order_of_three, ShiftedSection, SumWithoutMask, PendingPlacesAlone}
use Rattle.array_meaning.specs.Examples.{ForallBeforeAnyStore, TurnsRunOut, Shifts, ShapeBeforeManyOne, ManyOneBeforeElements}
use Rattle.array_meaning.specs.Examples.{ScalarMaskByItself, OrderOfThree, ReadsElsewhere}

pub shifted_section_row : ShiftedSection
unfolding running shifted_section
shifted_section_row = record { is = refl }

pub sum_without_mask_row : SumWithoutMask
unfolding running sum_without_mask
sum_without_mask_row = record { is = refl }

pub pending_places_alone_row : PendingPlacesAlone
unfolding running pending_places_alone
pending_places_alone_row = record { is = refl }

pub forall_before_any_store_row : ForallBeforeAnyStore
unfolding running forall_before_any_store
forall_before_any_store_row = record { is = refl }

pub turns_run_out_row : TurnsRunOut
unfolding running turns_run_out
turns_run_out_row = record { is = refl }

pub shifts_row : Shifts
unfolding running shifts
shifts_row = record { is = refl }

pub shape_before_many_one_row : ShapeBeforeManyOne
unfolding running shape_before_many_one
shape_before_many_one_row = record { is = refl }

pub many_one_before_elements_row : ManyOneBeforeElements
unfolding running many_one_before_elements
many_one_before_elements_row = record { is = refl }

pub scalar_mask_by_itself_row : ScalarMaskByItself
unfolding running scalar_mask_by_itself
scalar_mask_by_itself_row = record { is = refl }

pub order_of_three_row : OrderOfThree
unfolding running order_of_three
order_of_three_row = record { is = refl }

value_or : Section → Result Section Halt → Section
value_or d (Ok named) = named
value_or d (Err halt) = d

pub reads_elsewhere : ReadsElsewhere
unfolding running value_or
reads_elsewhere unit calls line turns = (
  (
    ((tt, tt), tt),
    (λ left most named e. subst (λ (x : Section). Every (λ k. is_spared 0 ((1, num 9) ∷ []) x.variable k ≡ true) x.places)
        (ap (value_or named) e) (refl, tt)),
  ),
  (((tt, tt, tt), tt), tt),
)
