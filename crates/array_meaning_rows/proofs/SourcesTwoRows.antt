-- Small whole sources. Each row holds by computation.
use Rattle.std.proofs.Common.{refl}
use Rattle.array_meaning.proofs.Running.{running}
use Rattle.array_meaning_rows.specs.SourcesTwo.{packed_and_padded, not_padded, backwards_through_two_calls}
use Rattle.array_meaning_rows.specs.SourcesTwo.{apart_where_none_is_modified, stop_in_a_procedure, return_in_a_loop, two_commas}
use Rattle.array_meaning_rows.specs.SourcesTwo.{carriage_returns, PackedAndPadded, NotPadded, BackwardsThroughTwoCalls}
use Rattle.array_meaning_rows.specs.SourcesTwo.{ApartWhereNoneIsModified, StopInAProcedure, ReturnInALoop, TwoCommas}
use Rattle.array_meaning_rows.specs.SourcesTwo.{CarriageReturns}

pub packed_and_padded_row : PackedAndPadded
unfolding running packed_and_padded
packed_and_padded_row = record { is = refl }

pub not_padded_row : NotPadded
unfolding running not_padded
not_padded_row = record { is = refl }

pub backwards_through_two_calls_row : BackwardsThroughTwoCalls
unfolding running backwards_through_two_calls
backwards_through_two_calls_row = record { is = refl }

pub apart_where_none_is_modified_row : ApartWhereNoneIsModified
unfolding running apart_where_none_is_modified
apart_where_none_is_modified_row = record { is = refl }

pub stop_in_a_procedure_row : StopInAProcedure
unfolding running stop_in_a_procedure
stop_in_a_procedure_row = record { is = refl }

pub return_in_a_loop_row : ReturnInALoop
unfolding running return_in_a_loop
return_in_a_loop_row = record { is = refl }

pub two_commas_row : TwoCommas
unfolding running two_commas
two_commas_row = record { is = refl }

pub carriage_returns_row : CarriageReturns
unfolding running carriage_returns
carriage_returns_row = record { is = refl }
