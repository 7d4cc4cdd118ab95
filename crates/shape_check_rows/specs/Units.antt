-- Small sources and their typed units. Behind the statements of a unit stands a call of what is no procedure for each line on
-- which
-- something has no type, though it breaks no rule of this phase.
use Rattle.std.specs.Prelude.{◌≡◌, pos, [], ◌∷◌, codes, Some, None}
use Rattle.a95_base.specs.declared.scalar.Scalar.TheVariants as scalar
use Rattle.f95_unit.specs.declared.operation.BinaryOp.TheVariants as binary
use Rattle.f95_unit.specs.declared.stmt.Range.TheVariants as range
use Rattle.f95_unit.specs.declared.unit.Role.TheVariants as role
use Rattle.f95_unit.specs.declared.unit.Intent.TheVariants as intent
use Rattle.f95_unit.specs.Plain.{Program, typed, Named, Binary as TypedBinary, Constructor as TypedConstructor, Called, Absent}
use Rattle.f95_unit.specs.Plain.{loop as typed_loop, value as typed_value, no_item as no_items, argument, no_argument}
use Rattle.f95_unit.specs.Plain.{call as TypedCall, Assigns, ForAll, Calls, Print, Select, Do, no_stmt as no_stmt_at_all, case}
use Rattle.f95_unit.specs.Plain.{no_case as no_case_at_all, Scalars}
use Rattle.names_types.specs.Plain.{Integer, Upper, Parameter, Constructor, Absent as Nothing, no_value, value, loop, no_item}
use Rattle.names_types.specs.Plain.{plain}
use Rattle.names_types_rows.specs.Build.{name, call, scalar_entity, array_entity, initial_entity, declares, taken, part, subroutine}
use Rattle.names_types_rows.specs.Build.{function}
use Rattle.names_types_rows.specs.Build as written
use Rattle.shape_check.specs.Statements.{Source, Act, ForallOne, Counted, Between}
use Rattle.shape_check.specs.Statements as statement
use Rattle.shape_check.specs.Units.{unit_of}
use Rattle.shape_check_rows.specs.Build.{minus, from_to, refer, to, at, assignment, sets, prints, calls, block, index, header}
use Rattle.shape_check_rows.specs.Build.{subprogram, main_with, main}
use Rattle.shape_check_rows.specs.UnitBuild.{ints, number, constant, variable, index_at, whole, section, element, target, assigns}
use Rattle.shape_check_rows.specs.UnitBuild.{for_all, stmts, to_extents, own, integer_as, dummy, procedure_at, main_program}
use Rattle.shape_check_rows.specs.UnitBuild.{function_at, subroutine_at, unit}

-- 1 program p
-- 2 integer :: a(3)
-- 3 a = 2
-- 4 print *, a
-- 5 end
abbrev pub first : Source
first = main (declares 2 Integer [] (array_entity "a" (Upper (written.number 3) ∷ []) ∷ []) ∷ [])
    ((sets 3 (to "a") (written.number 2)) ∷
    (prints 4 ((name "a") ∷ [])) ∷ [])

abbrev pub first_unit : Program
first_unit = unit [] (main_program (own 2 (to_extents (number 3 ∷ [])) ∷ [])
    (Assigns (assigns 3 (target (ints (Some 3 ∷ [])) (whole 0)) (number 2))
    ∷ Print 4 (typed (ints (Some 3 ∷ [])) (Named (whole 0)) ∷ []) ∷ [])) []

abbrev pub First : Type 0
First = unit_of first ≡ first_unit

-- 1 program p
-- 2 integer, parameter :: n = 4
-- 3 integer :: a(n), i
-- 4 do i = 1, n
-- 5 select case (i)
-- 6 case (2:n)
-- 7 a(2:n) = a(1:n - 1)
-- 8 end select
-- 9 end do
-- 10 end
abbrev pub shifted : Source
shifted = main (declares 2 Integer (Parameter ∷ []) (initial_entity "n" (written.number 4) ∷ [])
    ∷ declares 3 Integer [] (array_entity
    "a" (Upper (name "n") ∷ []) ∷ scalar_entity "i" ∷ []) ∷ [])
    ((statement.Do 4 None (Counted (codes "i") (written.number 1) (name "n") Nothing)
    (block ((statement.Select 5 (name "i") (statement.case 6 (Some (Between (written.number 2) (name "n") ∷ []))
    (block ((sets 7 (at "a" (from_to (written.number
    2) (name "n") no_item)) (refer "a" (from_to (written.number 1) (minus (name "n") (written.number 1)) no_item))) ∷ []))
    statement.no_case)) ∷ []))) ∷
    [])

abbrev pub shifted_unit : Program
shifted_unit = unit (scalar.Int (pos 4) ∷ scalar.Int (pos 2) ∷ scalar.Int (pos 4) ∷ [])
    (main_program (own 3 (to_extents (constant 0 ∷ [])) ∷ own 3 Scalars ∷ [])
    (Do 4 1 (number 1) (constant 0) Absent (stmts (Select 5 (variable 1)
    (case (range.Between 1 2 ∷ []) (stmts (Assigns (assigns 7 (target (ints (Some 3 ∷ [])) (section 0 (number 2) (constant 0)))
    (typed (ints (Some 3 ∷ [])) (Named (section 0 (number 1)
    (typed (ints []) (TypedBinary binary.Subtract (constant 0) (number 1))))))) ∷ [])) no_case_at_all) no_stmt_at_all ∷ []))
    ∷ [])) []

abbrev pub Shifted : Type 0
Shifted = unit_of shifted ≡ shifted_unit

-- 1 program p
-- 2 integer :: a(3), i
-- 3 a = (/ (i, i = 1, 3) /)
-- 4 forall (i = 1:3) a(i) = f(a(i))
-- 5 contains
-- 6 integer function f(x)
-- 7 integer, intent(in) :: x
-- 8 f = x
-- 9 end function
-- 10 end
abbrev pub functions : Source
functions = main_with (declares 2 Integer [] (array_entity "a" (Upper (written.number 3) ∷ []) ∷ scalar_entity "i" ∷ []) ∷ [])
    ((sets
    3 (to "a") (Constructor (loop (value (name "i") no_value) (codes "i") (written.number 1)
    (written.number 3) Nothing no_value))) ∷ (Act 4
    (ForallOne (header (index "i" (written.number 1) (written.number 3) ∷ []) None)
    (assignment (at "a" (plain (name "i") no_item)) (call "f"
    ((call "a" ((name "i") ∷ [])) ∷ []))))) ∷ []) (subprogram (function 6 (Some Integer) "f" ("x" ∷ []) "f" (part [] (declares
    7 Integer (taken ∷ []) (scalar_entity "x" ∷ []) ∷ []) [])) ((sets 8 (to "f") (name "x")) ∷ []) ∷ [])

abbrev pub functions_unit : Program
functions_unit = unit [] (main_program (own 2 (to_extents (number 3 ∷ [])) ∷ own 2 Scalars ∷ [])
    (Assigns (assigns 3 (target (ints (Some 3 ∷ [])) (whole 0))
    (typed (ints (Some 3 ∷ []))
    (TypedConstructor (typed_loop (typed_value (index_at 0) no_items) (number 1) (number 3) Absent no_items))))
    ∷ ForAll (for_all 4 (number 1) (number 3) (assigns 4 (target (ints []) (element 0 (index_at 0)))
    (typed (ints []) (Called (TypedCall 0 (argument 0 (typed (ints []) (Named (element 0 (index_at 0)))) no_argument)))))) ∷ []))
    (function_at 6 (own 6 Scalars ∷ dummy 7 0 ∷ []) 0 (Assigns (assigns 8 (target (ints []) (whole 0)) (variable 1)) ∷ []) ∷ [])

abbrev pub Functions : Type 0
Functions = unit_of functions ≡ functions_unit

-- 1 program p
-- 2 integer :: i
-- 3 i = s(1)
-- 4 i = 1
-- 5 contains
-- 6 subroutine s(x)
-- 7 integer, intent(in) :: x
-- 8 end subroutine
-- 9 end
abbrev pub no_function : Source
no_function = main_with (declares 2 Integer [] (scalar_entity "i" ∷ []) ∷ [])
    ((sets 3 (to "i") (call "s" ((written.number 1) ∷ [])))
    ∷ (sets 4 (to "i") (written.number 1)) ∷ []) (subprogram (subroutine 6 "s" ("x" ∷ []) (part [] (declares 7 Integer (taken ∷ [])
    (scalar_entity "x" ∷ []) ∷ []) [])) [] ∷ [])

abbrev pub no_function_unit : Program
no_function_unit = unit [] (main_program (own 2 Scalars ∷ [])
    (Assigns (assigns 4 (target (ints []) (whole 0)) (number 1)) ∷ Calls 3 (TypedCall 1 no_argument) ∷ []))
    (subroutine_at 6 (dummy 7 0 ∷ []) [] ∷ [])

abbrev pub NoFunction : Type 0
NoFunction = unit_of no_function ≡ no_function_unit

-- 1 module m
-- 2 integer, parameter :: n = 3
-- 3 contains
-- 4 subroutine s(x)
-- 5 integer, intent(in) :: x(n)
-- 6 print *, x(n)
-- 7 end subroutine
-- 8 end module
-- 9 program p
-- 10 use m
-- 11 integer :: a(n)
-- 12 call s(a)
-- 13 end
abbrev pub brought : Source
brought = record {
  modules = record {
    name = codes "m";
    part = part [] (declares 2 Integer (Parameter ∷ []) (initial_entity "n" (written.number 3) ∷ []) ∷ []) [];
    procedures = subprogram (subroutine 4 "s" ("x" ∷ [])
        (part [] (declares 5 Integer (taken ∷ []) (array_entity "x" (Upper (name "n") ∷ []) ∷ []) ∷ []) []))
        (prints 6 (call "x" (name "n" ∷ []) ∷ []) ∷ []) ∷ [];
  } ∷ [];
  line = 9;
  part = part (written.uses 10 "m" ∷ []) (declares 11 Integer [] (array_entity "a" (Upper (name "n") ∷ []) ∷ []) ∷ []) [];
  body = block (calls 12 "s" (name "a" ∷ []) ∷ []);
  procedures = [];
}

abbrev pub brought_unit : Program
brought_unit = unit (scalar.Int (pos 3) ∷ [])
    (procedure_at 9 (own 11 (to_extents (constant 0 ∷ [])) ∷ []) None
    (Calls 12 (TypedCall 0 (argument 0 (typed (ints (Some 3 ∷ [])) (Named (whole 0))) no_argument)) ∷ []))
    (subroutine_at 4 (integer_as 5 (to_extents (constant 0 ∷ [])) (role.Dummy 0 intent.In) ∷ [])
    (Print 6 (typed (ints []) (Named (element 0 (constant 0))) ∷ []) ∷ []) ∷ [])

abbrev pub Brought : Type 0
Brought = unit_of brought ≡ brought_unit
