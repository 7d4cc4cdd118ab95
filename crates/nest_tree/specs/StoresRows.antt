-- Small nest units: stores, places, masks, blocks.
use Rattle.std.specs.Prelude.{ℕ, pos, true, false, ◌^◌, Some, None, [], ◌∷◌}
use Rattle.a95_base.specs.declared.fault.FaultKind.TheVariants as fault
use Rattle.a95_base.specs.declared.scalar.Scalar.TheVariants as scalar
use Rattle.f95_unit.specs.declared.operation.BinaryOp.TheVariants as binary
use Rattle.nest_tree.specs.declared.access.Access.{Access}
use Rattle.nest_tree.specs.declared.access.Along.TheVariants as along
use Rattle.nest_tree.specs.declared.access.Name.TheVariants as name
use Rattle.nest_tree.specs.declared.statement.Made.TheVariants as made
use Rattle.nest_tree.specs.declared.tree.Blank.TheVariants as blank
use Rattle.nest_tree.specs.declared.tree.Exact.TheVariants as exact
use Rattle.nest_tree.specs.declared.tree.Question.TheVariants as question
use Rattle.nest_tree.specs.declared.unit.Role.TheVariants as role
use Rattle.nest_tree.specs.declared.unit.Sort.TheVariants as sort
use Rattle.nest_tree.specs.Plain.{Literal, Number, Read, Cell, Turn, Place, Asked, Binary, Exactly, Wrapped, Statement, Set, Test}
use Rattle.nest_tree.specs.Plain.{Store, StoreCell, Grow, Rebound, Free, MakeList, StoreEntry, Put, Write, NestUnit}
use Rattle.nest_tree.specs.Build.{num, int, amount, from, access, row, backwards, piece, piece_where, nest, shown, span, make}
use Rattle.nest_tree.specs.Build.{integers, text_of_length, procedure, unit_of, ended, faulted, strayed, Gives}

abbrev a : Access
a = access (name.Own 0) (from 1 1 ∷ [])

abbrev b : Access
b = access (name.Own 1) (from 1 1 ∷ [])

abbrev t : Access
t = access (name.Temp 0) (from 1 1 ∷ [])

-- a row of integers that is made
abbrev new_row : ℕ → ℕ → ℕ → Statement
new_row line n extent = make line made.New (name.Own n) blank.Int (span 1 extent ∷ [])

-- each element is the number of its turn, and so much more
abbrev counted_row : ℕ → Access → ℕ → ℕ → Statement
counted_row line target extent more =
    nest (row extent) (piece line target (Binary binary.Add (Wrapped (Turn 1)) (int more)) ∷ [])

-- integer :: a(3); a = 2; print *, a
unfoldable pub whole_row : NestUnit
whole_row = unit_of (procedure (integers 1 role.Own ∷ []) [] [] 0 (new_row 1 0 3 ∷ nest (row 3) (piece 1 a (int 2) ∷ []) ∷
    shown 1 3 a ∷ Write ∷ [])) []

abbrev pub WholeRow : Type 0
WholeRow = Gives whole_row [] 0 (ended ((num 2 ∷ num 2 ∷ num 2 ∷ []) ∷ [])) 6

-- a = (/1,2,3,4,5/); a(2:5) = a(1:4), stored at once, the last element first
unfoldable pub shifted_backwards : NestUnit
shifted_backwards =
    unit_of (procedure (integers 1 role.Own ∷ []) [] [] 0 (new_row 1 0 5 ∷ counted_row 2 a 5 1 ∷
    nest (backwards 4) (piece 3 (access (name.Own 0) (from 2 1 ∷ [])) (Read a) ∷ []) ∷ shown 4 5 a ∷ Write ∷ [])) []

abbrev pub ShiftedBackwards : Type 0
ShiftedBackwards = Gives shifted_backwards [] 0 (ended ((num 1 ∷ num 1 ∷ num 2 ∷ num 3 ∷ num 4 ∷ []) ∷ [])) 14

-- the same, the first element first: this is another unit, which no lowering may give
unfoldable pub shifted_forwards : NestUnit
shifted_forwards =
    unit_of (procedure (integers 1 role.Own ∷ []) [] [] 0 (new_row 1 0 5 ∷ counted_row 2 a 5 1 ∷
    nest (row 4) (piece 3 (access (name.Own 0) (from 2 1 ∷ [])) (Read a) ∷ []) ∷ shown 4 5 a ∷ Write ∷ [])) []

abbrev pub ShiftedForwards : Type 0
ShiftedForwards = Gives shifted_forwards [] 0 (ended ((num 1 ∷ num 1 ∷ num 1 ∷ num 1 ∷ num 1 ∷ []) ∷ [])) 14

-- the same through a temporary
unfoldable pub shifted_through_a_temporary : NestUnit
shifted_through_a_temporary =
    unit_of (procedure (integers 1 role.Own ∷ []) [] (sort.Int ∷ []) 0 (new_row 1 0 5 ∷ counted_row 2 a 5 1 ∷
    make 3 made.Temporary (name.Temp 0) blank.Int (span 1 4 ∷ []) ∷ nest (row 4) (piece 3 t (Read a) ∷ []) ∷
    nest (row 4) (piece 3 (access (name.Own 0) (from 2 1 ∷ [])) (Read t) ∷ []) ∷ Free 3 (name.Temp 0) ∷ shown 4 5 a ∷
    Write ∷ [])) []

abbrev pub ShiftedThroughATemporary : Type 0
ShiftedThroughATemporary = Gives shifted_through_a_temporary [] 0 (ended ((num 1 ∷ num 1 ∷ num 2 ∷ num 3 ∷ num 4 ∷ []) ∷ [])) 18

-- a and b in one nest: b takes what a has just been given
unfoldable pub two_pieces_of_one_nest : NestUnit
two_pieces_of_one_nest =
    unit_of (procedure (integers 1 role.Own ∷ integers 1 role.Own ∷ []) [] [] 0 (new_row 1 0 3 ∷ new_row 1 1 3 ∷
    nest (row 3) (piece 2 a (Wrapped (Turn 1)) ∷ piece 3 b (Binary binary.Multiply (Read a) (Read a)) ∷ []) ∷ shown 4 3 b ∷
    Write ∷ [])) []

abbrev pub TwoPiecesOfOneNest : Type 0
TwoPiecesOfOneNest = Gives two_pieces_of_one_nest [] 0 (ended ((num 0 ∷ num 1 ∷ num 4 ∷ []) ∷ [])) 6

-- a(4) of an array with three elements: no meaning, though the guard is false
unfoldable pub outside_its_array : NestUnit
outside_its_array =
    unit_of (procedure (integers 1 role.Own ∷ []) [] [] 0 (new_row 1 0 3 ∷
    nest (row 1) (piece_where 2 (access (name.Own 0) (along.Alone (amount 4) ∷ [])) (Literal (scalar.Log false)) (int 1) ∷
    []) ∷ [])) []

abbrev pub OutsideItsArray : Type 0
OutsideItsArray = Gives outside_its_array [] 0 (strayed []) 1

-- where (a /= 0) b = 6 / a, for a = (/0,1,2/)
unfoldable pub nothing_where_false : NestUnit
nothing_where_false =
    unit_of (procedure (integers 1 role.Own ∷ integers 1 role.Own ∷ []) [] [] 0 (new_row 1 0 3 ∷ new_row 1 1 3 ∷
    counted_row 2 a 3 0 ∷
    nest (row 3) (piece_where 3 b (Binary binary.NotEqual (Read a) (int 0)) (Binary binary.Divide (int 6) (Read a)) ∷
    []) ∷ shown 4 3 b ∷ Write ∷ [])) []

abbrev pub NothingWhereFalse : Type 0
NothingWhereFalse = Gives nothing_where_false [] 0 (ended ((num 0 ∷ num 6 ∷ num 3 ∷ []) ∷ [])) 9

-- the same without a mask: the fault has the line of its piece, and what was printed before stays
unfoldable pub fault_at_its_line : NestUnit
fault_at_its_line =
    unit_of (procedure (integers 1 role.Own ∷ integers 1 role.Own ∷ []) [] [] 0 (new_row 1 0 3 ∷ new_row 1 1 3 ∷
    counted_row 2 a 3 0 ∷ shown 3 3 a ∷ Write ∷ nest (row 3) (piece 4 b (Binary binary.Divide (int 6) (Read a)) ∷ []) ∷ [])) []

abbrev pub FaultAtItsLine : Type 0
FaultAtItsLine = Gives fault_at_its_line [] 0 (faulted fault.ZeroDivide 4 ((num 0 ∷ num 1 ∷ num 2 ∷ []) ∷ [])) 7

-- a(0,10) = 1: no loop is entered
unfoldable pub no_elements_no_entries : NestUnit
no_elements_no_entries =
    unit_of (procedure (integers 2 role.Own ∷ []) [] [] 0 (make 1 made.New (name.Own 0) blank.Int (span 1 0 ∷ span 1 10 ∷
    []) ∷ nest (record {
      extents = amount 0 ∷ amount 10 ∷ [];
      order = record {
        number = 2;
        down =
            false;
      } ∷ record {
        number = 1;
        down =
            false;
      } ∷ [];
    }) (piece 1 (access (name.Own 0) (from 1 1 ∷ from 1 2 ∷ [])) (int 1) ∷ []) ∷ [])) []

abbrev pub NoElementsNoEntries : Type 0
NoElementsNoEntries = Gives no_elements_no_entries [] 0 (ended []) 0

-- the numbers of the elements of a(2,2), the second loop outermost and backwards
unfoldable pub columns_from_the_last : NestUnit
columns_from_the_last =
    unit_of (procedure (integers 2 role.Own ∷ []) [] [] 0 (make 1 made.New (name.Own 0) blank.Int (span 1 2 ∷ span 1 2 ∷
    []) ∷ nest (record {
      extents = amount 2 ∷ amount 2 ∷ [];
      order = record { number = 2; down = true } ∷ record {
        number =
            1;
        down = false;
      } ∷ [];
    }) (Put 1 (Wrapped (Place (access (name.Own 0) (from 1 1 ∷ from 1 2 ∷ [])))) ∷ []) ∷ Write ∷
    [])) []

abbrev pub ColumnsFromTheLast : Type 0
ColumnsFromTheLast = Gives columns_from_the_last [] 0 (ended ((num 2 ∷ num 3 ∷ num 0 ∷ num 1 ∷ []) ∷ [])) 6

-- a(v) = (/5,6/) for v = (/3,3/), with marks: the test finds the element that is named twice
unfoldable pub subscripts_from_a_list : NestUnit
subscripts_from_a_list =
    unit_of (procedure (integers 1 role.Own ∷ []) [] (sort.Int ∷ []) 1 (new_row 1 0 3 ∷ MakeList 2 0 (amount 2) ∷
    nest (row 2) (StoreEntry 2 0 (Turn 1) (int 3) ∷ []) ∷ make 2 made.Mark (name.Temp 0) blank.Int (span 1 3 ∷ []) ∷
    nest (row 2) (Test 2 fault.ManyOne (Binary binary.Equal (Cell (name.Temp 0) (Place (access (name.Own 0)
    (along.Listed 1 0 ∷ [])))) (int 0)) ∷ StoreCell 2 (name.Temp 0) (Place (access (name.Own 0) (along.Listed 1 0 ∷
    []))) (int 1) ∷ []) ∷ [])) []

abbrev pub SubscriptsFromAList : Type 0
SubscriptsFromAList = Gives subscripts_from_a_list [] 0 (faulted fault.ManyOne 2 []) 4

-- a block that was freed is not read
unfoldable pub freed_is_not_read : NestUnit
freed_is_not_read =
    unit_of (procedure (integers 1 role.Own ∷ []) [] (sort.Int ∷
    []) 0 (make 1 made.Temporary (name.Temp 0) blank.Int (span 1 2 ∷ []) ∷ Free 1 (name.Temp 0) ∷ shown 2 2 t ∷ [])) []

abbrev pub FreedIsNotRead : Type 0
FreedIsNotRead = Gives freed_is_not_read [] 0 (strayed []) 1

-- a block that grows twice, and then has two rows of two
unfoldable pub grown_and_given_a_shape : NestUnit
grown_and_given_a_shape =
    unit_of (procedure [] [] (sort.Int ∷ []) 0 (make 1 made.Temporary (name.Temp 0) blank.Int (span 1 0 ∷ []) ∷
    Grow 1 (name.Temp 0) (amount 1) ∷ StoreCell 1 (name.Temp 0) (Number (pos 0)) (int 7) ∷
    Grow 1 (name.Temp 0) (amount 3) ∷ StoreCell 1 (name.Temp 0) (Number (pos 3)) (int 9) ∷
    Rebound 1 (name.Temp 0) (span 1 2 ∷ span 1 2 ∷ []) ∷
    Put 1 (Read (access (name.Temp 0) (along.Alone (amount 1) ∷ along.Alone (amount 1) ∷ []))) ∷
    Put 1 (Read (access (name.Temp 0) (along.Alone (amount 2) ∷ along.Alone (amount 2) ∷ []))) ∷
    Put 1 (Wrapped (Asked (question.Extent 2) (name.Temp 0))) ∷ Write ∷ [])) []

abbrev pub GrownAndGivenAShape : Type 0
GrownAndGivenAShape = Gives grown_and_given_a_shape [] 0 (ended ((num 7 ∷ num 9 ∷ num 2 ∷ []) ∷ [])) 0

-- a variable of length 3 pads what it is given, a block of the lowering keeps it; then two bytes of the variable
unfoldable pub texts_padded_and_kept : NestUnit
texts_padded_and_kept =
    unit_of (procedure (text_of_length 3 role.Own ∷ []) [] (sort.Text ∷
    []) 0 (make 1 made.New (name.Own 0) (blank.Text (amount 3)) [] ∷
    make 1 made.Temporary (name.Temp 0) (blank.Text (amount 3)) [] ∷ Store (record {
      line = 2;
      target =
          access (name.Own 0) [];
      guard = None;
      value = Literal (scalar.Text (97 ∷ []));
    }) ∷ Store (record {
      line =
          2;
      target = access (name.Temp 0) [];
      guard = None;
      value =
          Literal (scalar.Text (97 ∷ []));
    }) ∷ Store (record {
      line = 3;
      target =
          record (access (name.Own 0) []) {
            portion = Some (record {
              first = amount 2;
              last =
                  amount 3;
            });
          };
      guard = None;
      value =
          Literal (scalar.Text (98 ∷ 99 ∷ 100 ∷ []));
    }) ∷ Put 4 (Read (access (name.Own 0) [])) ∷
    Put 4 (Read (access (name.Temp 0) [])) ∷ Write ∷ [])) []

abbrev pub TextsPaddedAndKept : Type 0
TextsPaddedAndKept =
    Gives texts_padded_and_kept [] 0 (ended ((scalar.Text (97 ∷ 98 ∷ 99 ∷ []) ∷ scalar.Text (97 ∷ []) ∷ []) ∷ [])) 0

-- 2 ^ 62 and 2 ^ 62 are no exact integer of 64 bits
unfoldable pub exact_beyond_64_bits : NestUnit
exact_beyond_64_bits =
    unit_of (procedure [] (sort.Exact ∷
    []) [] 0 (Set 1 0 (Exactly exact.Plus (Number (pos (2 ^ 62))) (Number (pos (2 ^ 62)))) ∷ [])) []

abbrev pub ExactBeyond64Bits : Type 0
ExactBeyond64Bits = Gives exact_beyond_64_bits [] 0 (strayed []) 0
