-- Subscripts, substrings, allocation and stores, and what each program breaks.
use Rattle.std.specs.Prelude.{◌≡◌, pos, true, [], ◌∷◌, codes, Some, None}
use Rattle.a95_base.specs.Breaks.{broken_at}
use Rattle.f95_tree.specs.declared.declaration.Intent.TheVariants as intent
use Rattle.names_types.specs.Plain.{Integer, Logical, Character, Number, Upper, Deferred, Parameter, Allocatable, Intended}
use Rattle.names_types.specs.Plain.{Constructor, Absent, Given, Substring, no_item, plain, triplet, no_value, value, loop}
use Rattle.names_types_rows.specs.Build.{number, truth, text, name, plus, call, scalar_entity, array_entity, initial_entity}
use Rattle.names_types_rows.specs.Build.{declares, taken, part, subroutine, function}
use Rattle.shape_check.specs.Statements.{Source, Do, Counted}
use Rattle.shape_check.specs.Listed.{breaks_of}
use Rattle.shape_check_rows.specs.Build.{joined, from_to, from_to_by, each, refer, cut, to, at, sets, reads, allocates, frees}
use Rattle.shape_check_rows.specs.Build.{block, subprogram, main_with, main}

-- 1 program p
-- 2 integer :: a(3, 3), v(2), i
-- 3 character(5) :: s, t(2)
-- 4 i = a(1, 2) + v(i)
-- 5 a(:, 1) = a(1:3, i)
-- 6 v = a(v, 1)
-- 7 a(v, v) = 0
-- 8 s(1:2) = t(1)(2:3)
-- 9 t(:)(1:1) = 'a'
-- 10 end
abbrev pub good_places : Source
good_places = main (declares 2 Integer [] (array_entity "a" (Upper (number 3) ∷ Upper (number 3) ∷ []) ∷ array_entity "v"
    (Upper (number 2) ∷ []) ∷ scalar_entity "i" ∷ []) ∷ declares 3 (Character (Number (pos 5))) [] (scalar_entity "s" ∷
    array_entity "t" (Upper (number 2) ∷ []) ∷ []) ∷ []) ((sets 4 (to "i") (plus (call "a" ((number 1) ∷ (number 2) ∷ []))
    (call "v" ((name "i") ∷ [])))) ∷ (sets 5 (at "a" (each (plain (number 1) no_item))) (refer "a" (from_to (number 1) (number
    3) (plain (name "i") no_item)))) ∷ (sets 6 (to "v") (call "a" ((name "v") ∷ (number 1) ∷ []))) ∷ (sets 7 (at "a" (plain
    (name "v") (plain (name "v") no_item))) (number 0)) ∷ (sets 8 (at "s" (from_to (number 1) (number 2) no_item)) (cut "t"
    (plain (number 1) no_item) (number 2) (number 3))) ∷ (sets 9 (Substring (codes "t") (each no_item) (Given (number 1))
    (Given (number 1))) (text "a")) ∷ [])

abbrev pub GoodPlaces : Type 0
GoodPlaces = breaks_of good_places ≡ []

-- 1 program p
-- 2 integer :: a(3, 3), v(2), i
-- 3 logical :: l(2)
-- 4 i = a(1)
-- 5 i = v(1, 2)
-- 6 i = i(1)
-- 7 i = v(.true.)
-- 8 v = v(l)
-- 9 v = v(a)
-- 10 i = v()
-- 11 end
abbrev pub other_subscripts : Source
other_subscripts = main (declares 2 Integer [] (array_entity "a" (Upper (number 3) ∷ Upper (number 3) ∷ []) ∷ array_entity "v"
    (Upper (number 2) ∷ []) ∷ scalar_entity "i" ∷ []) ∷ declares 3 Logical [] (array_entity "l" (Upper (number 2) ∷ []) ∷ [])
    ∷ []) ((sets 4 (to "i") (call "a" ((number 1) ∷ []))) ∷ (sets 5 (to "i") (call "v" ((number 1) ∷ (number 2) ∷ []))) ∷
    (sets 6 (to "i") (call "i" ((number 1) ∷ []))) ∷ (sets 7 (to "i") (call "v" ((truth true) ∷ []))) ∷ (sets 8 (to "v") (call
    "v" ((name "l") ∷ []))) ∷ (sets 9 (to "v") (call "v" ((name "a") ∷ []))) ∷ (sets 10 (to "i") (refer "v" no_item)) ∷ [])

abbrev pub OtherSubscripts : Type 0
OtherSubscripts = breaks_of other_subscripts ≡ broken_at 4 34 ∷ broken_at 5 34 ∷ broken_at 6 34 ∷ broken_at 7 34
    ∷ broken_at 8 34 ∷ broken_at 9 34 ∷ broken_at 10 34 ∷ []

-- 1 program p
-- 2 character(5) :: s, t(2)
-- 3 character(5), parameter :: c = 'abcde'
-- 4 integer :: i
-- 5 s = c(1:2)
-- 6 s = t(1:2)(1:2) // i(1:2)
-- 7 s = trim(s)(1:2)
-- 8 s = s(1:2:1)
-- 9 s = s(1:2)(1:2)
-- 10 s = t(1)(1:2)
-- 11 end
abbrev pub other_cuts : Source
other_cuts = main (declares 2 (Character (Number (pos 5))) [] (scalar_entity "s" ∷ array_entity "t" (Upper (number 2) ∷ []) ∷
    []) ∷ declares 3 (Character (Number (pos 5))) (Parameter ∷ []) (initial_entity "c" (text "abcde") ∷ []) ∷ declares 4
    Integer [] (scalar_entity "i" ∷ []) ∷ []) ((sets 5 (to "s") (refer "c" (from_to (number 1) (number 2) no_item))) ∷ (sets 6
    (to "s") (joined (cut "t" (from_to (number 1) (number 2) no_item) (number 1) (number 2)) (refer "i" (from_to (number 1)
    (number 2) no_item)))) ∷ (sets 7 (to "s") (cut "trim" (plain (name "s") no_item) (number 1) (number 2))) ∷ (sets 8 (to
    "s") (refer "s" (from_to_by (number 1) (number 2) (number 1) no_item))) ∷ (sets 9 (to "s") (cut "s" (from_to (number 1)
    (number 2) no_item) (number 1) (number 2))) ∷ (sets 10 (to "s") (cut "t" (plain (number 1) no_item) (number 1) (number
    2))) ∷ [])

abbrev pub OtherCuts : Type 0
OtherCuts = breaks_of other_cuts ≡ broken_at 5 34 ∷ broken_at 6 34 ∷ broken_at 7 34 ∷ broken_at 8 34 ∷ broken_at 9 34 ∷ []

-- 1 program p
-- 2 integer :: v(3), i
-- 3 character(5) :: s
-- 4 v = v(1:.true.)
-- 5 s = s(v:2)
-- 6 v = v(::l())
-- 7 v = (/ (i, i = 1, v) /)
-- 8 contains
-- 9 pure logical function l()
-- 10 l = .true.
-- 11 end function
-- 12 end
abbrev pub other_bounds : Source
other_bounds = main_with (declares 2 Integer [] (array_entity "v" (Upper (number 3) ∷ []) ∷ scalar_entity "i" ∷ []) ∷ declares
    3 (Character (Number (pos 5))) [] (scalar_entity "s" ∷ []) ∷ []) ((sets 4 (to "v") (refer "v" (from_to (number 1) (truth
    true) no_item))) ∷ (sets 5 (to "s") (refer "s" (from_to (name "v") (number 2) no_item))) ∷ (sets 6 (to "v") (refer "v"
    (triplet Absent Absent (Given (refer "l" no_item)) no_item))) ∷ (sets 7 (to "v") (Constructor (loop (value (name "i")
    no_value) (codes "i") (number 1) (name "v") Absent no_value))) ∷ []) (subprogram (function 9 (Some Logical) "l" [] "l"
    (part [] [] [])) ((sets 10 (to "l") (truth true)) ∷ []) ∷ [])

abbrev pub OtherBounds : Type 0
OtherBounds = breaks_of other_bounds ≡ broken_at 4 31 ∷ broken_at 5 31 ∷ broken_at 6 31 ∷ broken_at 7 31 ∷ []

-- 1 program p
-- 2 character(5) :: s
-- 3 integer :: i
-- 4 s = char(.true.)(1:1)
-- 5 end
abbrev pub wrong_reference : Source
wrong_reference = main (declares 2 (Character (Number (pos 5))) [] (scalar_entity "s" ∷ []) ∷ declares 3 Integer []
    (scalar_entity "i" ∷ []) ∷ []) ((sets 4 (to "s") (cut "char" (plain (truth true) no_item) (number 1) (number 1))) ∷ [])

abbrev pub WrongReference : Type 0
WrongReference = breaks_of wrong_reference ≡ broken_at 4 33 ∷ []

-- 1 program p
-- 2 integer, allocatable :: a(:), b(:, :)
-- 3 integer :: c(2), i
-- 4 allocate(b(2, .true.))
-- 5 allocate(a(2))
-- 6 allocate(b(i, 2))
-- 7 allocate(b(2))
-- 8 allocate(c(2))
-- 9 allocate(i(2))
-- 10 deallocate(c)
-- 11 allocate(sum(2))
-- 12 deallocate(a)
-- 13 end
abbrev pub allocation : Source
allocation = main (declares 2 Integer (Allocatable ∷ []) (array_entity "a" (Deferred ∷ []) ∷ array_entity "b" (Deferred ∷
    Deferred ∷ []) ∷ []) ∷ declares 3 Integer [] (array_entity "c" (Upper (number 2) ∷ []) ∷ scalar_entity "i" ∷ []) ∷ [])
    ((allocates 4 "b" ((number 2) ∷ (truth true) ∷ [])) ∷ (allocates 5 "a" ((number 2) ∷ [])) ∷ (allocates 6 "b" ((name "i") ∷
    (number 2) ∷ [])) ∷ (allocates 7 "b" ((number 2) ∷ [])) ∷ (allocates 8 "c" ((number 2) ∷ [])) ∷ (allocates 9 "i" ((number
    2) ∷ [])) ∷ (frees 10 "c") ∷ (allocates 11 "sum" ((number 2) ∷ [])) ∷ (frees 12 "a") ∷ [])

abbrev pub Allocation : Type 0
Allocation = breaks_of allocation ≡ broken_at 4 31 ∷ broken_at 7 34 ∷ broken_at 8 34 ∷ broken_at 9 34 ∷ broken_at 10 34
    ∷ broken_at 11 34 ∷ []

-- 1 program p
-- 2 integer :: i, a(2)
-- 3 integer, parameter :: n = 1
-- 4 n = 2
-- 5 sum = 2
-- 6 s = 2
-- 7 do i = 1, 2
-- 8 i = 1
-- 9 read *, i, a(i)
-- 10 do i = 1, 2
-- 11 end do
-- 12 end do
-- 13 i = 1
-- 14 contains
-- 15 subroutine s(x, y)
-- 16 integer, intent(in) :: x(2)
-- 17 integer, intent(inout) :: y
-- 18 x(1) = y
-- 19 y = 1
-- 20 end subroutine
-- 21 end
abbrev pub stores : Source
stores = main_with (declares 2 Integer [] (scalar_entity "i" ∷ array_entity "a" (Upper (number 2) ∷ []) ∷ []) ∷ declares 3
    Integer (Parameter ∷ []) (initial_entity "n" (number 1) ∷ []) ∷ []) ((sets 4 (to "n") (number 2)) ∷ (sets 5 (to "sum")
    (number 2)) ∷ (sets 6 (to "s") (number 2)) ∷ (Do 7 None (Counted (codes "i") (number 1) (number 2) Absent) (block ((sets 8
    (to "i") (number 1)) ∷ (reads 9 ((to "i") ∷ (at "a" (plain (name "i") no_item)) ∷ [])) ∷ (Do 10 None (Counted (codes "i")
    (number 1) (number 2) Absent) (block [])) ∷ []))) ∷ (sets 13 (to "i") (number 1)) ∷ []) (subprogram (subroutine 15 "s"
    ("x" ∷ "y" ∷ []) (part [] (declares 16 Integer (taken ∷ []) (array_entity "x" (Upper (number 2) ∷ []) ∷ []) ∷ declares 17
    Integer ((Intended intent.InOut) ∷ []) (scalar_entity "y" ∷ []) ∷ []) [])) ((sets 18 (at "x" (plain (number 1) no_item))
    (name "y")) ∷ (sets 19 (to "y") (number 1)) ∷ []) ∷ [])

abbrev pub Stores : Type 0
Stores = breaks_of stores ≡ broken_at 4 35 ∷ broken_at 5 35 ∷ broken_at 6 35 ∷ broken_at 8 35 ∷ broken_at 9 35
    ∷ broken_at 10 35 ∷ broken_at 18 35 ∷ []

-- 1 program p
-- 2 integer :: i
-- 3 integer, parameter :: n = 1
-- 4 n(1 + .true.) = 2
-- 5 end
abbrev pub stored_items : Source
stored_items = main (declares 2 Integer [] (scalar_entity "i" ∷ []) ∷ declares 3 Integer (Parameter ∷ []) (initial_entity "n"
    (number 1) ∷ []) ∷ []) ((sets 4 (at "n" (plain (plus (number 1) (truth true)) no_item)) (number 2)) ∷ [])

abbrev pub StoredItems : Type 0
StoredItems = breaks_of stored_items ≡ broken_at 4 31 ∷ broken_at 4 35 ∷ []

-- 1 program p
-- 2 integer :: i
-- 3 i = f(2)(1:2)
-- 4 f(2) = 1
-- 5 contains
-- 6 pure integer function f(x)
-- 7 integer, intent(in) :: x
-- 8 f = x
-- 9 end function
-- 10 end
abbrev pub values_of_functions : Source
values_of_functions = main_with (declares 2 Integer [] (scalar_entity "i" ∷ []) ∷ []) ((sets 3 (to "i") (cut "f" (plain
    (number 2) no_item) (number 1) (number 2))) ∷ (sets 4 (at "f" (plain (number 2) no_item)) (number 1)) ∷ []) (subprogram
    (function 6 (Some Integer) "f" ("x" ∷ []) "f" (part [] (declares 7 Integer (taken ∷ []) (scalar_entity "x" ∷ []) ∷ [])
    [])) ((sets 8 (to "f") (name "x")) ∷ []) ∷ [])

abbrev pub ValuesOfFunctions : Type 0
ValuesOfFunctions = breaks_of values_of_functions ≡ broken_at 3 34 ∷ broken_at 4 35 ∷ []
