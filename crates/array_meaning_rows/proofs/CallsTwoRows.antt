-- Subroutines and functions. Each row holds by computation.
use Rattle.std.proofs.Common.{refl}
use Rattle.array_meaning.proofs.Running.{running}
use Rattle.array_meaning_rows.specs.CallsTwo.{brackets_pass_a_value, blinker, one_scalar_twice, vector_subscript_is_a_value}
use Rattle.array_meaning_rows.specs.CallsTwo.{out_starts_with_the_actual, length_differs, locals_begin_anew, each_element_is_a_call}
use Rattle.array_meaning_rows.specs.CallsTwo.{keywords_and_text_result, BracketsPassAValue, Blinker, OneScalarTwice}
use Rattle.array_meaning_rows.specs.CallsTwo.{VectorSubscriptIsAValue, OutStartsWithTheActual, LengthDiffers, LocalsBeginAnew}
use Rattle.array_meaning_rows.specs.CallsTwo.{EachElementIsACall, KeywordsAndTextResult}

pub brackets_pass_a_value_row : BracketsPassAValue
unfolding running brackets_pass_a_value
brackets_pass_a_value_row = record { is = refl }

pub blinker_row : Blinker
unfolding running blinker
blinker_row = record { is = refl }

pub one_scalar_twice_row : OneScalarTwice
unfolding running one_scalar_twice
one_scalar_twice_row = record { is = refl }

pub vector_subscript_is_a_value_row : VectorSubscriptIsAValue
unfolding running vector_subscript_is_a_value
vector_subscript_is_a_value_row = record { is = refl }

pub out_starts_with_the_actual_row : OutStartsWithTheActual
unfolding running out_starts_with_the_actual
out_starts_with_the_actual_row = record { is = refl }

pub length_differs_row : LengthDiffers
unfolding running length_differs
length_differs_row = record { is = refl }

pub locals_begin_anew_row : LocalsBeginAnew
unfolding running locals_begin_anew
locals_begin_anew_row = record { is = refl }

pub each_element_is_a_call_row : EachElementIsACall
unfolding running each_element_is_a_call
each_element_is_a_call_row = record { is = refl }

pub keywords_and_text_result_row : KeywordsAndTextResult
unfolding running keywords_and_text_result
keywords_and_text_result_row = record { is = refl }
