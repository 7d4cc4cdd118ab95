-- Constructors, initial values, items of READ and calls, and what each program breaks.
use Rattle.std.specs.Prelude.{◌≡◌, pos, true, [], ◌∷◌, codes, Some}
use Rattle.a95_base.specs.Breaks.{broken_at}
use Rattle.names_types.specs.Plain.{Integer, Logical, Character, Number, Upper, Deferred, Parameter, Allocatable, Constructor}
use Rattle.names_types.specs.Plain.{Absent, Given, no_item, no_value, value, loop}
use Rattle.names_types_rows.specs.Build.{number, truth, text, name, plus, times, call, constructor, scalar_entity, array_entity}
use Rattle.names_types_rows.specs.Build.{initial_entity, initial_array, declares, taken, part, subroutine, function}
use Rattle.shape_check.specs.Statements.{Source, IfOne, Assign}
use Rattle.shape_check.specs.Listed.{breaks_of}
use Rattle.shape_check_rows.specs.Build.{joined, from_to, refer, to, at, assignment, sets, reads, calls, subprogram, elemental_one}
use Rattle.shape_check_rows.specs.Build.{main_with, main}

-- 1 program p
-- 2 integer :: a(4), i, j
-- 3 character(2) :: s, t(2)
-- 4 a = (/ 1, a(1:2), i /)
-- 5 a = (/ (i, i + 1, i = 1, 3, 2) /)
-- 6 a = (/ ((i * j, i = 1, 2), j = 1, 2) /)
-- 7 t = (/ s, 'ab' /)
-- 8 t = (/ s(1:1) // 'a', char(1) // 'b' /)
-- 9 end
abbrev pub good_values : Source
good_values = main (declares 2 Integer [] (array_entity "a" (Upper (number 4) ∷ []) ∷ scalar_entity "i" ∷ scalar_entity "j" ∷
    []) ∷ declares 3 (Character (Number (pos 2))) [] (scalar_entity "s" ∷ array_entity "t" (Upper (number 2) ∷ []) ∷ []) ∷ [])
    ((sets 4 (to "a") (constructor ((number 1) ∷ (refer "a" (from_to (number 1) (number 2) no_item)) ∷ (name "i") ∷ []))) ∷
    (sets 5 (to "a") (Constructor (loop (value (name "i") (value (plus (name "i") (number 1)) no_value)) (codes "i") (number
    1) (number 3) (Given (number 2)) no_value))) ∷ (sets 6 (to "a") (Constructor (loop (loop (value (times (name "i") (name
    "j")) no_value) (codes "i") (number 1) (number 2) Absent no_value) (codes "j") (number 1) (number 2) Absent no_value))) ∷
    (sets 7 (to "t") (constructor ((name "s") ∷ (text "ab") ∷ []))) ∷ (sets 8 (to "t") (constructor ((joined (refer "s"
    (from_to (number 1) (number 1) no_item)) (text "a")) ∷ (joined (call "char" ((number 1) ∷ [])) (text "b")) ∷ []))) ∷ [])

abbrev pub GoodValues : Type 0
GoodValues = breaks_of good_values ≡ []

-- 1 program p
-- 2 integer :: a(2), i
-- 3 character(2) :: s, t(2)
-- 4 logical :: l(2)
-- 5 a = (/ 1, .true. /)
-- 6 t = (/ 'a', 'ab' /)
-- 7 t = (/ trim(s), 'ab' /)
-- 8 t(1:1) = (/ s(1:i) /)
-- 9 end
abbrev pub other_values : Source
other_values = main (declares 2 Integer [] (array_entity "a" (Upper (number 2) ∷ []) ∷ scalar_entity "i" ∷ []) ∷ declares 3
    (Character (Number (pos 2))) [] (scalar_entity "s" ∷ array_entity "t" (Upper (number 2) ∷ []) ∷ []) ∷ declares 4 Logical
    [] (array_entity "l" (Upper (number 2) ∷ []) ∷ []) ∷ []) ((sets 5 (to "a") (constructor ((number 1) ∷ (truth true) ∷ [])))
    ∷ (sets 6 (to "t") (constructor ((text "a") ∷ (text "ab") ∷ []))) ∷ (sets 7 (to "t") (constructor ((call "trim" ((name
    "s") ∷ [])) ∷ (text "ab") ∷ []))) ∷ (sets 8 (at "t" (from_to (number 1) (number 1) no_item)) (constructor ((refer "s"
    (from_to (number 1) (name "i") no_item)) ∷ []))) ∷ [])

abbrev pub OtherValues : Type 0
OtherValues = breaks_of other_values ≡ broken_at 5 39 ∷ broken_at 6 39 ∷ broken_at 7 39 ∷ broken_at 8 39 ∷ []

-- 1 program p
-- 2 integer :: a(4), i
-- 3 a = (/ 1, 2, 3 /)
-- 4 a = (/ (i, i = 1, 5) /)
-- 5 a = (/ a, 1 /)
-- 6 a = (/ (a(1:2), i = 1, 3) /)
-- 7 a = (/ (a(1:i), i = 1, 3) /)
-- 8 end
abbrev pub other_counts : Source
other_counts = main (declares 2 Integer [] (array_entity "a" (Upper (number 4) ∷ []) ∷ scalar_entity "i" ∷ []) ∷ []) ((sets 3
    (to "a") (constructor ((number 1) ∷ (number 2) ∷ (number 3) ∷ []))) ∷ (sets 4 (to "a") (Constructor (loop (value (name
    "i") no_value) (codes "i") (number 1) (number 5) Absent no_value))) ∷ (sets 5 (to "a") (constructor ((name "a") ∷ (number
    1) ∷ []))) ∷ (sets 6 (to "a") (Constructor (loop (value (refer "a" (from_to (number 1) (number 2) no_item)) no_value)
    (codes "i") (number 1) (number 3) Absent no_value))) ∷ (sets 7 (to "a") (Constructor (loop (value (refer "a" (from_to
    (number 1) (name "i") no_item)) no_value) (codes "i") (number 1) (number 3) Absent no_value))) ∷ [])

abbrev pub OtherCounts : Type 0
OtherCounts = breaks_of other_counts ≡ broken_at 3 32 ∷ broken_at 4 32 ∷ broken_at 5 32 ∷ broken_at 6 32 ∷ []

-- 1 program p
-- 2 integer :: a(4), i
-- 3 integer, allocatable :: b(:)
-- 4 a = (/ (b, i = 1, 0) /)
-- 5 end
abbrev pub no_rounds : Source
no_rounds = main (declares 2 Integer [] (array_entity "a" (Upper (number 4) ∷ []) ∷ scalar_entity "i" ∷ []) ∷ declares 3
    Integer (Allocatable ∷ []) (array_entity "b" (Deferred ∷ []) ∷ []) ∷ []) ((sets 4 (to "a") (Constructor (loop (value (name
    "b") no_value) (codes "i") (number 1) (number 0) Absent no_value))) ∷ [])

abbrev pub NoRounds : Type 0
NoRounds = breaks_of no_rounds ≡ []

-- 1 program p
-- 2 integer :: a(3) = (/ 1, 2 /)
-- 3 integer :: b(2, 2) = (/ 1, 2, 3, 4 /)
-- 4 logical :: l = 1
-- 5 integer :: c(2) = 0
-- 6 end
abbrev pub initial_values : Source
initial_values = main (declares 2 Integer [] (initial_array "a" (Upper (number 3) ∷ []) (constructor ((number 1) ∷ (number 2)
    ∷ [])) ∷ []) ∷ declares 3 Integer [] (initial_array "b" (Upper (number 2) ∷ Upper (number 2) ∷ []) (constructor ((number
    1) ∷ (number 2) ∷ (number 3) ∷ (number 4) ∷ [])) ∷ []) ∷ declares 4 Logical [] (initial_entity "l" (number 1) ∷ []) ∷
    declares 5 Integer [] (initial_array "c" (Upper (number 2) ∷ []) (number 0) ∷ []) ∷ []) []

abbrev pub InitialValues : Type 0
InitialValues = breaks_of initial_values ≡ broken_at 3 31 ∷ broken_at 4 31 ∷ broken_at 2 32 ∷ []

-- 1 program p
-- 2 integer :: i, a(3)
-- 3 logical :: l
-- 4 character(2) :: s
-- 5 integer, parameter :: n = 1
-- 6 read *, i, a(1:2), l
-- 7 read *, s(1:1), n
-- 8 end
abbrev pub read_items : Source
read_items = main (declares 2 Integer [] (scalar_entity "i" ∷ array_entity "a" (Upper (number 3) ∷ []) ∷ []) ∷ declares 3
    Logical [] (scalar_entity "l" ∷ []) ∷ declares 4 (Character (Number (pos 2))) [] (scalar_entity "s" ∷ []) ∷ declares 5
    Integer (Parameter ∷ []) (initial_entity "n" (number 1) ∷ []) ∷ []) ((reads 6 ((to "i") ∷ (at "a" (from_to (number 1)
    (number 2) no_item)) ∷ (to "l") ∷ [])) ∷ (reads 7 ((at "s" (from_to (number 1) (number 1) no_item)) ∷ (to "n") ∷ [])) ∷
    [])

abbrev pub ReadItems : Type 0
ReadItems = breaks_of read_items ≡ broken_at 7 35 ∷ broken_at 6 40 ∷ broken_at 7 40 ∷ []

-- 1 program p
-- 2 integer :: a(3), b(4), c(3, 3)
-- 3 logical :: l
-- 4 a = f(a, 1)
-- 5 a = f(a, b)
-- 6 a = f(a, c)
-- 7 a = f(b, .true.)
-- 8 l = f(1, 1)
-- 9 a = s(1) + .true.
-- 10 contains
-- 11 elemental integer function f(x, y)
-- 12 integer, intent(in) :: x, y
-- 13 f = x + y
-- 14 end function
-- 15 subroutine s(x)
-- 16 integer, intent(in) :: x
-- 17 end subroutine
-- 18 end
abbrev pub elemental_function : Source
elemental_function = main_with (declares 2 Integer [] (array_entity "a" (Upper (number 3) ∷ []) ∷ array_entity "b" (Upper
    (number 4) ∷ []) ∷ array_entity "c" (Upper (number 3) ∷ Upper (number 3) ∷ []) ∷ []) ∷ declares 3 Logical []
    (scalar_entity "l" ∷ []) ∷ []) ((sets 4 (to "a") (call "f" ((name "a") ∷ (number 1) ∷ []))) ∷ (sets 5 (to "a") (call "f"
    ((name "a") ∷ (name "b") ∷ []))) ∷ (sets 6 (to "a") (call "f" ((name "a") ∷ (name "c") ∷ []))) ∷ (sets 7 (to "a") (call
    "f" ((name "b") ∷ (truth true) ∷ []))) ∷ (sets 8 (to "l") (call "f" ((number 1) ∷ (number 1) ∷ []))) ∷ (sets 9 (to "a")
    (plus (call "s" ((number 1) ∷ [])) (truth true))) ∷ []) (elemental_one (function 11 (Some Integer) "f" ("x" ∷ "y" ∷ [])
    "f" (part [] (declares 12 Integer (taken ∷ []) (scalar_entity "x" ∷ scalar_entity "y" ∷ []) ∷ []) [])) ((sets 13 (to "f")
    (plus (name "x") (name "y"))) ∷ []) ∷ subprogram (subroutine 15 "s" ("x" ∷ []) (part [] (declares 16 Integer (taken ∷ [])
    (scalar_entity "x" ∷ []) ∷ []) [])) [] ∷ [])

abbrev pub ElementalFunction : Type 0
ElementalFunction = breaks_of elemental_function ≡ broken_at 8 31 ∷ broken_at 5 32 ∷ broken_at 7 32 ∷ []

-- 1 program p
-- 2 integer :: a(3), i
-- 3 i = s(1) + 1
-- 4 if (s(1)) i = 1
-- 5 i = g(1, 2, 3) + g()
-- 6 call g(1)
-- 7 call sum(a)
-- 8 contains
-- 9 pure integer function g(x)
-- 10 integer, intent(in) :: x
-- 11 g = x
-- 12 end function
-- 13 subroutine s(x)
-- 14 integer, intent(in) :: x
-- 15 end subroutine
-- 16 end
abbrev pub wrong_calls : Source
wrong_calls = main_with (declares 2 Integer [] (array_entity "a" (Upper (number 3) ∷ []) ∷ scalar_entity "i" ∷ []) ∷ [])
    ((sets 3 (to "i") (plus (call "s" ((number 1) ∷ [])) (number 1))) ∷ (IfOne 4 (call "s" ((number 1) ∷ [])) (Assign
    (assignment (to "i") (number 1)))) ∷ (sets 5 (to "i") (plus (call "g" ((number 1) ∷ (number 2) ∷ (number 3) ∷ [])) (refer
    "g" no_item))) ∷ (calls 6 "g" ((number 1) ∷ [])) ∷ (calls 7 "sum" ((name "a") ∷ [])) ∷ []) (subprogram (function 9 (Some
    Integer) "g" ("x" ∷ []) "g" (part [] (declares 10 Integer (taken ∷ []) (scalar_entity "x" ∷ []) ∷ []) [])) ((sets 11 (to
    "g") (name "x")) ∷ []) ∷ subprogram (subroutine 13 "s" ("x" ∷ []) (part [] (declares 14 Integer (taken ∷ [])
    (scalar_entity "x" ∷ []) ∷ []) [])) [] ∷ [])

abbrev pub WrongCalls : Type 0
WrongCalls = breaks_of wrong_calls ≡ []
