-- Small nest units: calls and results.
use Rattle.std.specs.Prelude.{ℕ, true, false, [], ◌∷◌}
use Rattle.f95_unit.specs.declared.operation.BinaryOp.TheVariants as binary
use Rattle.nest_tree.specs.declared.access.Access.{Access}
use Rattle.nest_tree.specs.declared.access.Along.TheVariants as along
use Rattle.nest_tree.specs.declared.access.Name.TheVariants as name
use Rattle.nest_tree.specs.declared.statement.Made.TheVariants as made
use Rattle.nest_tree.specs.declared.tree.Blank.TheVariants as blank
use Rattle.nest_tree.specs.declared.unit.Role.TheVariants as role
use Rattle.nest_tree.specs.declared.unit.Sort.TheVariants as sort
use Rattle.nest_tree.specs.Plain.{Read, Turn, Binary, Wrapped, Applied, no_tree, tree, Value, Whole, ResultIn, Statement, Grow}
use Rattle.nest_tree.specs.Plain.{Rebound, Free, Call, Put, Write, Return, Stop, NestUnit}
use Rattle.nest_tree.specs.Build.{num, int, amount, from, access, row, piece, nest, shown, span, make, integers, procedure, unit_of}
use Rattle.nest_tree.specs.Build.{ended, going, strayed, Gives}

abbrev a : Access
a = access (name.Own 0) (from 1 1 ∷ [])

abbrev b : Access
b = access (name.Own 1) (from 1 1 ∷ [])

abbrev t : Access
t = access (name.Temp 0) (from 1 1 ∷ [])

-- a row of integers that is made
abbrev new_row : ℕ → ℕ → ℕ → Statement
new_row line n extent = make line made.New (name.Own n) blank.Int (span 1 extent ∷ [])

-- each element is the number of its turn, and so much more
abbrev counted_row : ℕ → Access → ℕ → ℕ → Statement
counted_row line target extent more =
    nest (row extent) (piece line target (Binary binary.Add (Wrapped (Turn 1)) (int more)) ∷ [])

-- call scale(a, 2) for a = (/1,2,3/): the elements come back
unfoldable pub modified_in_place : NestUnit
modified_in_place =
    unit_of (procedure (integers 1 role.Own ∷ []) [] [] 0 (new_row 1 0 3 ∷ counted_row 2 a 3 1 ∷
    Call 3 0 (Whole (name.Own 0) ∷ Value (int 2) ∷ []) ∷ shown 4 3 a ∷ Write ∷
    [])) (procedure (integers 1 (role.Whole 0 true) ∷ integers 0 (role.Value 1) ∷
    []) [] [] 0 (nest (row 3) (piece 9 a (Binary binary.Multiply (Read a) (Read (access (name.Own 1) []))) ∷ []) ∷
    []) ∷ [])

abbrev pub ModifiedInPlace : Type 0
ModifiedInPlace = Gives modified_in_place [] 1 (ended ((num 2 ∷ num 4 ∷ num 6 ∷ []) ∷ [])) 10

-- a call takes a turn, and is entered before it waits
unfoldable pub call_without_a_turn : NestUnit
call_without_a_turn =
    unit_of (procedure (integers 1 role.Own ∷ []) [] [] 0 (new_row 1 0 3 ∷ Call 3 0 (Whole (name.Own 0) ∷ []) ∷
    [])) (procedure (integers 1 (role.Whole 0 false) ∷ []) [] [] 0 (shown 9 3 a ∷ Write ∷ []) ∷ [])

abbrev pub CallWithoutATurn : Type 0
CallWithoutATurn = Gives call_without_a_turn [] 0 (going []) 1

-- a = square(a): each element is a call
unfoldable pub elemental_reference : NestUnit
elemental_reference =
    unit_of (procedure (integers 1 role.Own ∷ []) [] (sort.Int ∷ []) 0 (new_row 1 0 3 ∷ counted_row 2 a 3 1 ∷
    nest (row 3) (piece 3 a (Applied 0 blank.Int 0 (tree 0 (Read a) no_tree)) ∷ []) ∷ shown 4 3 a ∷ Write ∷
    [])) (procedure (integers 0 (role.Value 0) ∷ integers 0 (role.Result 1) ∷
    []) [] [] 0 (piece 9 (access (name.Own 1) []) (Binary binary.Multiply (Read (access (name.Own 0) [])) (Read
    (access (name.Own 0) []))) ∷ []) ∷ [])

abbrev pub ElementalReference : Type 0
ElementalReference = Gives elemental_reference [] 3 (ended ((num 1 ∷ num 4 ∷ num 9 ∷ []) ∷ [])) 12

-- the same within two turns: the third call is entered and waits
unfoldable pub elemental_reference_waits : NestUnit
elemental_reference_waits =
    unit_of (procedure (integers 1 role.Own ∷ []) [] (sort.Int ∷ []) 0 (new_row 1 0 3 ∷ counted_row 2 a 3 1 ∷
    nest (row 3) (piece 3 a (Applied 0 blank.Int 0 (tree 0 (Read a) no_tree)) ∷ []) ∷
    [])) (procedure (integers 0 (role.Value 0) ∷ integers 0 (role.Result 1) ∷
    []) [] [] 0 (piece 9 (access (name.Own 1) []) (Binary binary.Multiply (Read (access (name.Own 0) [])) (Read
    (access (name.Own 0) []))) ∷ []) ∷ [])

abbrev pub ElementalReferenceWaits : Type 0
ElementalReferenceWaits = Gives elemental_reference_waits [] 2 (going []) 9

-- print *, twos(): the block of the result is made by the caller, and grows in the function
unfoldable pub result_of_an_array : NestUnit
result_of_an_array =
    unit_of (procedure [] [] (sort.Int ∷ []) 0 (make 3 made.New (name.Temp 0) blank.Int (span 1 0 ∷ []) ∷
    Call 3 0 (ResultIn 0 ∷ []) ∷ shown 3 2 t ∷ Write ∷ Free 3 (name.Temp 0) ∷ [])) (procedure (integers 1 (role.Result 0) ∷
    []) [] [] 0 (Grow 8 (name.Own 0) (amount 2) ∷ Rebound 8 (name.Own 0) (span 1 2 ∷ []) ∷
    nest (row 2) (piece 9 a (int 2) ∷ []) ∷ Return ∷ piece 10 (access (name.Own 0) (along.Alone (amount 9) ∷
    [])) (int 3) ∷ []) ∷ [])

abbrev pub ResultOfAnArray : Type 0
ResultOfAnArray = Gives result_of_an_array [] 1 (ended ((num 2 ∷ num 2 ∷ []) ∷ [])) 5

-- call s, which prints 1 and stops
unfoldable pub stop_in_a_procedure : NestUnit
stop_in_a_procedure =
    unit_of (procedure [] [] [] 0 (Call 3 0 [] ∷ Put 4 (int 2) ∷ Write ∷ [])) (procedure [] [] [] 0 (Put 8 (int 1) ∷
    Write ∷ Stop ∷ []) ∷ [])

abbrev pub StopInAProcedure : Type 0
StopInAProcedure = Gives stop_in_a_procedure [] 1 (ended ((num 1 ∷ []) ∷ [])) 1

-- a procedure that isn't there
unfoldable pub no_such_procedure : NestUnit
no_such_procedure =
    unit_of (procedure [] [] [] 0 (Call 3 1 [] ∷ [])) (procedure [] [] [] 0 (Put 8 (int 1) ∷ Write ∷ Stop ∷ []) ∷ [])

abbrev pub NoSuchProcedure : Type 0
NoSuchProcedure = Gives no_such_procedure [] 1 (strayed []) 0

-- a dummy that is given nothing
unfoldable pub dummy_without_actual : NestUnit
dummy_without_actual =
    unit_of (procedure [] [] [] 0 (Call 3 0 [] ∷ [])) (procedure (integers 1 (role.Whole 0 false) ∷
    []) [] [] 0 (shown 9 3 a ∷ Write ∷ []) ∷ [])

abbrev pub DummyWithoutActual : Type 0
DummyWithoutActual = Gives dummy_without_actual [] 1 (strayed []) 0
