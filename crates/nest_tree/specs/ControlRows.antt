-- Small nest units: loops that ask a condition, branches, input and output.
use Rattle.std.specs.Prelude.{ℕ, pos, true, [], ◌∷◌}
use Rattle.a95_base.specs.declared.fault.FaultKind.TheVariants as fault
use Rattle.a95_base.specs.declared.scalar.Scalar.TheVariants as scalar
use Rattle.f95_unit.specs.declared.operation.BinaryOp.TheVariants as binary
use Rattle.nest_tree.specs.declared.access.Access.{Access}
use Rattle.nest_tree.specs.declared.access.Name.TheVariants as name
use Rattle.nest_tree.specs.declared.statement.Made.TheVariants as made
use Rattle.nest_tree.specs.declared.tree.Blank.TheVariants as blank
use Rattle.nest_tree.specs.declared.tree.Exact.TheVariants as exact
use Rattle.nest_tree.specs.declared.unit.Role.TheVariants as role
use Rattle.nest_tree.specs.declared.unit.Sort.TheVariants as sort
use Rattle.nest_tree.specs.Plain.{Literal, Number, Fixed, Read, Turn, Binary, Exactly, Wrapped, Statement, Set, If, While, Put}
use Rattle.nest_tree.specs.Plain.{Write, Take, Skip, Exit, Cycle, no_statement, NestUnit}
use Rattle.nest_tree.specs.Build.{num, int, from, access, row, all_of, piece, nest, span, make, integers, procedure, unit_of, ended}
use Rattle.nest_tree.specs.Build.{faulted, going, Gives}

abbrev a : Access
a = access (name.Own 0) (from 1 1 ∷ [])

abbrev b : Access
b = access (name.Own 1) (from 1 1 ∷ [])

abbrev t : Access
t = access (name.Temp 0) (from 1 1 ∷ [])

-- a row of integers that is made
abbrev new_row : ℕ → ℕ → ℕ → Statement
new_row line n extent = make line made.New (name.Own n) blank.Int (span 1 extent ∷ [])

-- each element is the number of its turn, and so much more
abbrev counted_row : ℕ → Access → ℕ → ℕ → Statement
counted_row line target extent more =
    nest (row extent) (piece line target (Binary binary.Add (Wrapped (Turn 1)) (int more)) ∷ [])

-- do i = 1, 10, 4; print *, i; end do; print *, i: three turns, and four entries
unfoldable pub steps_of_four : NestUnit
steps_of_four =
    unit_of (procedure (integers 0 role.Own ∷ []) (sort.Exact ∷ sort.Exact ∷
    []) [] 0 (make 1 made.New (name.Own 0) blank.Int [] ∷ Set 2 0 (Number (pos 1)) ∷ Set 2 1 (Number (pos 3)) ∷
    While 2 (all_of (piece 2 (access (name.Own 0) []) (Wrapped (Fixed 0)) ∷
    [])) (Exactly exact.Below (Number (pos 0)) (Fixed 1)) (all_of (Set 2 1 (Exactly exact.Minus (Fixed 1) (Number
    (pos 1))) ∷ Set 2 0 (Exactly exact.Plus (Fixed 0) (Number (pos 4))) ∷
    Put 3 (Read (access (name.Own 0) [])) ∷ Write ∷ [])) ∷ Put 5 (Read (access (name.Own 0) [])) ∷ Write ∷
    [])) []

abbrev pub StepsOfFour : Type 0
StepsOfFour = Gives steps_of_four [] 3 (ended ((num 1 ∷ []) ∷ (num 5 ∷ []) ∷ (num 9 ∷ []) ∷ (num 13 ∷ []) ∷ [])) 4

-- do; i = i + 1; print *, i; end do, within three turns: the fourth round is entered and waits
unfoldable pub turns_run_out : NestUnit
turns_run_out =
    unit_of (procedure (integers 0 role.Own ∷ []) [] [] 0 (make 1 made.New (name.Own 0) blank.Int [] ∷
    While 2 no_statement (Literal (scalar.Log true)) (all_of (piece 3 (access (name.Own 0) []) (Binary binary.Add (Read
    (access (name.Own 0) [])) (int 1)) ∷ Put 4 (Read (access (name.Own 0) [])) ∷ Write ∷ [])) ∷ [])) []

abbrev pub TurnsRunOut : Type 0
TurnsRunOut = Gives turns_run_out [] 3 (going ((num 1 ∷ []) ∷ (num 2 ∷ []) ∷ (num 3 ∷ []) ∷ [])) 4

-- the outer of two loops is left from within the inner one
unfoldable pub outer_loop_left : NestUnit
outer_loop_left =
    unit_of (procedure [] [] [] 0 (While 1 no_statement (Literal (scalar.Log true)) (all_of (While 2 no_statement
    (Literal (scalar.Log true)) (all_of (Exit 1 ∷ [])) ∷ Put 3 (int 8) ∷ Write ∷ [])) ∷ Put 4 (int 9) ∷ Write ∷ [])) []

abbrev pub OuterLoopLeft : Type 0
OuterLoopLeft = Gives outer_loop_left [] 5 (ended ((num 9 ∷ []) ∷ [])) 2

-- the turn of the outer loop is ended from within the inner one
unfoldable pub outer_turn_ended : NestUnit
outer_turn_ended =
    unit_of (procedure [] (sort.Exact ∷
    []) [] 0 (While 1 (all_of (Set 1 0 (Exactly exact.Plus (Fixed 0) (Number (pos 1))) ∷
    [])) (Exactly exact.Below (Fixed 0) (Number (pos 3))) (all_of (While 2 no_statement (Literal (scalar.Log true))
    (all_of (Cycle 1 ∷ [])) ∷ Put 3 (int 8) ∷ Write ∷ [])) ∷ Put 4 (Wrapped (Fixed 0)) ∷ Write ∷ [])) []

abbrev pub OuterTurnEnded : Type 0
OuterTurnEnded = Gives outer_turn_ended [] 5 (ended ((num 3 ∷ []) ∷ [])) 5

-- if (2 < 1) then; print *, 8; else; print *, 9; end if
unfoldable pub branches : NestUnit
branches = unit_of (procedure [] [] [] 0 (If 1 (Binary binary.Less (int 2) (int 1)) (all_of (Put 2 (int 8) ∷ Write ∷
    [])) (all_of (Put 4 (int 9) ∷ Write ∷ [])) ∷ [])) []

abbrev pub Branches : Type 0
Branches = Gives branches [] 0 (ended ((num 9 ∷ []) ∷ [])) 0

-- read *, i, j on `3 , 4 x`: a comma may stand before the second one
unfoldable pub two_integers_read : NestUnit
two_integers_read =
    unit_of (procedure [] (sort.Int ∷ sort.Int ∷ sort.Log ∷ []) [] 0 (Take 1 0 2 ∷ Set 1 2 (Literal (scalar.Log true)) ∷
    Take 1 1 2 ∷ Skip 1 2 ∷ Put 2 (Fixed 0) ∷ Put 2 (Fixed 1) ∷ Write ∷ [])) []

abbrev pub TwoIntegersRead : Type 0
TwoIntegersRead = Gives two_integers_read (51 ∷ 32 ∷ 44 ∷ 32 ∷ 52 ∷ 32 ∷ 120 ∷ 10 ∷ []) 0 (ended ((num 3 ∷ num 4 ∷ []) ∷ [])) 0

-- read *, i on an empty input
unfoldable pub input_at_its_end : NestUnit
input_at_its_end = unit_of (procedure [] (sort.Int ∷ sort.Log ∷ []) [] 0 (Take 7 0 1 ∷ [])) []

abbrev pub InputAtItsEnd : Type 0
InputAtItsEnd = Gives input_at_its_end [] 0 (faulted fault.EndOfInput 7 []) 0

-- read *, i on `x`
unfoldable pub input_without_integer : NestUnit
input_without_integer = unit_of (procedure [] (sort.Int ∷ sort.Log ∷ []) [] 0 (Take 7 0 1 ∷ [])) []

abbrev pub InputWithoutInteger : Type 0
InputWithoutInteger = Gives input_without_integer (120 ∷ []) 0 (faulted fault.BadInput 7 []) 0

-- print *, 1, 6 / 0: nothing of the record is written
unfoldable pub record_dropped_by_a_fault : NestUnit
record_dropped_by_a_fault =
    unit_of (procedure [] [] [] 0 (Put 1 (int 1) ∷ Put 1 (Binary binary.Divide (int 6) (int 0)) ∷ Write ∷ [])) []

abbrev pub RecordDroppedByAFault : Type 0
RecordDroppedByAFault = Gives record_dropped_by_a_fault [] 0 (faulted fault.ZeroDivide 1 []) 0
