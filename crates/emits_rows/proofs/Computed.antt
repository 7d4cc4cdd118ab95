-- Each row holds by computation.
use Rattle.std.proofs.Common.{◌≡◌, ℕ, zero, suc, List, refl, arith}
use Rattle.a95_base.specs.Outcome.{Finished}
use Rattle.nest_tree.specs.Run.{Strayed, nest_run}
use Rattle.nest_tree.specs.StoresRows.{whole_row, texts_padded_and_kept}
use Rattle.nest_tree.specs.ControlRows.{outer_loop_left, two_integers_read}
use Rattle.nest_tree.proofs.Running.{running}
use Rattle.nest_tree.proofs.FitsRows.{whole_row_fits}
use Rattle.emits_rows.specs.Rows.{WholeRow, OuterLoopLeft, TwoIntegersRead, TextsPaddedAndKept, WholeRowIsSound, OuterLoopLeftIsSound, TextsPaddedAndKeptAreSound}

pub whole_row_row : WholeRow
unfolding whole_row
whole_row_row = record { emits = record { main = refl }; program = refl }

pub outer_loop_left_row : OuterLoopLeft
unfolding outer_loop_left
outer_loop_left_row = record { emits = record { main = refl }; program = refl }

pub two_integers_read_row : TwoIntegersRead
unfolding two_integers_read
two_integers_read_row = record { emits = record { main = refl }; program = refl }

pub texts_padded_and_kept_row : TextsPaddedAndKept
unfolding texts_padded_and_kept
texts_padded_and_kept_row = record { emits = record { main = refl }; program = refl }

whole_row_stays : (input : List ℕ) (turns : ℕ) → (nest_run whole_row input turns).outcome ≡ Finished Strayed → ⊥
unfolding running whole_row
whole_row_stays input turns h = cc

pub whole_row_sound : WholeRowIsSound
whole_row_sound = record { fits = whole_row_fits; never_strays = whole_row_stays }

outer_loop_stays : (input : List ℕ) (turns : ℕ) → (nest_run outer_loop_left input turns).outcome ≡ Finished Strayed → ⊥
unfolding running outer_loop_left
outer_loop_stays input zero h = cc
outer_loop_stays input (suc zero) h = cc
outer_loop_stays input (suc (suc turns)) h = cc

pub outer_loop_left_sound : OuterLoopLeftIsSound
unfolding outer_loop_left
outer_loop_left_sound = record {
  fits = record {
    main = record {
      body = ((tt, refl, ((tt, refl, (refl, tt)), (refl, (tt, tt)))), (refl, (tt, tt)));
      declared = refl;
      few_braces = omega arith;
      small_numbers = omega arith;
    };
    no_dummies = refl;
    procedures = tt;
    constants = refl;
    few = omega arith;
  };
  never_strays = outer_loop_stays;
}

texts_stay : (input : List ℕ) (turns : ℕ) → (nest_run texts_padded_and_kept input turns).outcome ≡ Finished Strayed → ⊥
unfolding running texts_padded_and_kept
texts_stay input turns h = cc

pub texts_padded_and_kept_sound : TextsPaddedAndKeptAreSound
unfolding texts_padded_and_kept
texts_padded_and_kept_sound = record {
  fits = record {
    main = record {
      body = (refl, (refl, (refl, (refl, (refl, (refl, (refl, (tt, tt))))))));
      declared = refl;
      few_braces = omega arith;
      small_numbers = omega arith;
    };
    no_dummies = refl;
    procedures = tt;
    constants = refl;
    few = omega arith;
  };
  never_strays = texts_stay;
}
