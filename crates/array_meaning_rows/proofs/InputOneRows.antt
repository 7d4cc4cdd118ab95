-- READ and PRINT. Each row holds by computation.
use Rattle.std.proofs.Common.{refl}
use Rattle.array_meaning.proofs.Running.{running}
use Rattle.array_meaning_rows.specs.InputOne.{read_and_print, item_by_item, nothing_left, no_integer, comma_first}
use Rattle.array_meaning_rows.specs.InputOne.{record_of_nothing, empty_record, read_into_vector_twice, number_too_great}
use Rattle.array_meaning_rows.specs.InputOne.{ReadAndPrint, ItemByItem, NothingLeft, NoInteger, CommaFirst, RecordOfNothing}
use Rattle.array_meaning_rows.specs.InputOne.{EmptyRecord, ReadIntoVectorTwice, NumberTooGreat}

pub read_and_print_row : ReadAndPrint
unfolding running read_and_print
read_and_print_row = record { is = refl }

pub item_by_item_row : ItemByItem
unfolding running item_by_item
item_by_item_row = record { is = refl }

pub nothing_left_row : NothingLeft
unfolding running nothing_left
nothing_left_row = record { is = refl }

pub no_integer_row : NoInteger
unfolding running no_integer
no_integer_row = record { is = refl }

pub comma_first_row : CommaFirst
unfolding running comma_first
comma_first_row = record { is = refl }

pub record_of_nothing_row : RecordOfNothing
unfolding running record_of_nothing
record_of_nothing_row = record { is = refl }

pub empty_record_row : EmptyRecord
unfolding running empty_record
empty_record_row = record { is = refl }

pub read_into_vector_twice_row : ReadIntoVectorTwice
unfolding running read_into_vector_twice
read_into_vector_twice_row = record { is = refl }

pub number_too_great_row : NumberTooGreat
unfolding running number_too_great
number_too_great_row = record { is = refl }
