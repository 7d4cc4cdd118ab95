-- The rules of refusal by name, with the numbers that the product prints: file_too_long is P1.
-- docs/REFUSALS.md says when each is broken.
use Rattle.std.specs.Prelude.{ℕ}

abbrev pub file_too_long : ℕ
file_too_long = 1

abbrev pub stray_byte : ℕ
stray_byte = 2

abbrev pub line_too_long : ℕ
line_too_long = 3

abbrev pub too_many_continuations : ℕ
too_many_continuations = 4

abbrev pub open_text : ℕ
open_text = 5

abbrev pub broken_continuation : ℕ
broken_continuation = 6

abbrev pub word_too_long : ℕ
word_too_long = 7

abbrev pub number_too_great : ℕ
number_too_great = 8

abbrev pub number_runs_on : ℕ
number_runs_on = 9

abbrev pub unknown_dotted_word : ℕ
unknown_dotted_word = 10

abbrev pub no_form : ℕ
no_form = 11

abbrev pub left_out_form : ℕ
left_out_form = 12

abbrev pub too_many_brackets : ℕ
too_many_brackets = 13

abbrev pub wrong_nesting : ℕ
wrong_nesting = 14

abbrev pub wrong_construct_name : ℕ
wrong_construct_name = 15

abbrev pub too_many_blocks : ℕ
too_many_blocks = 16

abbrev pub no_end : ℕ
no_end = 17

abbrev pub declared_twice : ℕ
declared_twice = 18

abbrev pub undeclared : ℕ
undeclared = 19

abbrev pub wrong_attributes : ℕ
wrong_attributes = 20

abbrev pub wrong_dummy : ℕ
wrong_dummy = 21

abbrev pub not_constant : ℕ
not_constant = 22

abbrev pub constant_faults : ℕ
constant_faults = 23

abbrev pub rank_too_great : ℕ
rank_too_great = 24

abbrev pub wrong_length : ℕ
wrong_length = 25

abbrev pub shape_too_large : ℕ
shape_too_large = 26

abbrev pub unknown_use : ℕ
unknown_use = 27

abbrev pub host_variable : ℕ
host_variable = 28

abbrev pub wrong_result : ℕ
wrong_result = 29

abbrev pub no_specification_expression : ℕ
no_specification_expression = 30

abbrev pub wrong_kind_or_rank : ℕ
wrong_kind_or_rank = 31

abbrev pub extents_differ : ℕ
extents_differ = 32

abbrev pub wrong_intrinsic_arguments : ℕ
wrong_intrinsic_arguments = 33

abbrev pub wrong_designator : ℕ
wrong_designator = 34

abbrev pub wrong_store : ℕ
wrong_store = 35

abbrev pub wrong_case : ℕ
wrong_case = 36

abbrev pub wrong_mask : ℕ
wrong_mask = 37

abbrev pub wrong_forall : ℕ
wrong_forall = 38

abbrev pub wrong_constructor : ℕ
wrong_constructor = 39

abbrev pub wrong_read_item : ℕ
wrong_read_item = 40

abbrev pub wrong_arguments : ℕ
wrong_arguments = 41

abbrev pub wrong_out_argument : ℕ
wrong_out_argument = 42

abbrev pub not_pure : ℕ
not_pure = 43

abbrev pub not_elemental : ℕ
not_elemental = 44

abbrev pub not_recursive : ℕ
not_recursive = 45

abbrev pub lengths_differ : ℕ
lengths_differ = 46

abbrev pub not_yet : ℕ
not_yet = 47
