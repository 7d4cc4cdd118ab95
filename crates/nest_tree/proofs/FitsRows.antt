-- Each row holds by computation.
use Rattle.std.proofs.Common.{refl, arith}
use Rattle.std.proofs.lemmas.Bool.{false≢true}
use Rattle.a95_base.specs.Lists.{none, skip}
use Rattle.nest_tree.specs.Plain.{Procedure}
use Rattle.nest_tree.specs.Build.{row}
use Rattle.nest_tree.specs.Sound.{FitsFrame}
use Rattle.nest_tree.specs.StoresRows.{whole_row}
use Rattle.nest_tree.specs.ControlRows.{steps_of_four}
use Rattle.nest_tree.specs.CallsRows.{elemental_reference}
use Rattle.nest_tree.specs.FitsRows.{WholeRowFits, StepsOfFourFit, ElementalReferenceFits, value_stored, ValueStored, no_loop_left}
use Rattle.nest_tree.specs.FitsRows.{NoLoopLeft, wrong_sort, WrongSort, passed_twice, PassedTwice}

row_fits : (q : Procedure) → FitsFrame q (row 3)
row_fits q = record { amounts = refl; ordered = skip 1 none; ranked = refl }

pub whole_row_fits : WholeRowFits
unfolding whole_row
whole_row_fits = record {
  main = record {
    body = (refl, ((row_fits _, tt, (refl, tt)), ((row_fits _, tt, (refl, tt)), (tt, tt))));
    declared = refl;
    few_braces = omega arith;
    small_numbers = omega arith;
  };
  no_dummies = refl;
  procedures = tt;
  constants = refl;
  few = omega arith;
}

pub steps_of_four_fit : StepsOfFourFit
unfolding steps_of_four
steps_of_four_fit = record {
  main = record {
    body = (refl, (refl, (refl, (((refl, tt), refl, (refl, (refl, (refl, (tt, tt))))), (refl, (tt, tt))))));
    declared = refl;
    few_braces = omega arith;
    small_numbers = omega arith;
  };
  no_dummies = refl;
  procedures = tt;
  constants = refl;
  few = omega arith;
}

pub elemental_reference_fits : ElementalReferenceFits
unfolding elemental_reference
elemental_reference_fits = record {
  main = record {
    body = (
      refl,
      ((row_fits _, tt, (refl, tt)), ((row_fits _, tt, (refl, tt)), ((row_fits _, tt, (refl, tt)), (tt, tt)))),
    );
    declared = refl;
    few_braces = omega arith;
    small_numbers = omega arith;
  };
  no_dummies = refl;
  procedures = (
    record {
      body = (refl, tt);
      declared = refl;
      few_braces = omega arith;
      small_numbers = omega arith;
    },
    tt,
  );
  constants = refl;
  few = omega arith;
}

pub value_stored_row : ValueStored
unfolding value_stored
value_stored_row h = false≢true h.procedures.0.body.0

pub no_loop_left_row : NoLoopLeft
unfolding no_loop_left
no_loop_left_row h = false≢true h.main.body.0

pub wrong_sort_row : WrongSort
unfolding wrong_sort
wrong_sort_row h = false≢true h.main.body.0

pub passed_twice_row : PassedTwice
unfolding passed_twice
passed_twice_row h = false≢true h.main.body.0
