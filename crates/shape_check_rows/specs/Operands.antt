-- Operators, assignments and control of a main program, and what each program breaks.
use Rattle.std.specs.Prelude.{◌≡◌, pos, true, [], ◌∷◌, codes, None}
use Rattle.a95_base.specs.Breaks.{broken_at}
use Rattle.f95_tree.specs.declared.terminal.Relation.TheVariants as relation
use Rattle.names_types.specs.Plain.{Integer, Logical, Character, Number, Upper, Both, Deferred, Parameter, Allocatable, Bracketed}
use Rattle.names_types.specs.Plain.{Absent, Given, no_item, triplet}
use Rattle.names_types_rows.specs.Build.{number, truth, text, name, plus, scalar_entity, array_entity, initial_entity, declares}
use Rattle.shape_check.specs.Statements.{Source, IfOne, Select, Do, Assign, no_case, case, Counted, While}
use Rattle.shape_check.specs.Listed.{breaks_of}
use Rattle.shape_check_rows.specs.Build.{power, joined, compared, and, negative, not_so, from_to, from_to_by, refer, to, at}
use Rattle.shape_check_rows.specs.Build.{assignment, sets, block, main}

-- 1 program p
-- 2 integer :: a(3), b(3), i
-- 3 logical :: l
-- 4 character(5) :: s
-- 5 a = b + 1
-- 6 l = i == 2 .and. .not. l
-- 7 s = 'ab' // s
-- 8 i = 2 ** i
-- 9 end
abbrev pub fits : Source
fits = main (declares 2 Integer [] (array_entity "a" (Upper (number 3) ∷ []) ∷ array_entity "b" (Upper (number 3) ∷ []) ∷
    scalar_entity "i" ∷ []) ∷ declares 3 Logical [] (scalar_entity "l" ∷ []) ∷ declares 4 (Character (Number (pos 5))) []
    (scalar_entity "s" ∷ []) ∷ []) ((sets 5 (to "a") (plus (name "b") (number 1))) ∷ (sets 6 (to "l") (and (compared
    relation.Equal (name "i") (number 2)) (not_so (name "l")))) ∷ (sets 7 (to "s") (joined (text "ab") (name "s"))) ∷ (sets 8
    (to "i") (power (number 2) (name "i"))) ∷ [])

abbrev pub Fits : Type 0
Fits = breaks_of fits ≡ []

-- 1 program p
-- 2 integer :: i
-- 3 logical :: l
-- 4 i = i + .true.
-- 5 l = .not. i
-- 6 i = i // 'a'
-- 7 l = l == l
-- 8 end
abbrev pub other_kinds : Source
other_kinds = main (declares 2 Integer [] (scalar_entity "i" ∷ []) ∷ declares 3 Logical [] (scalar_entity "l" ∷ []) ∷ [])
    ((sets 4 (to "i") (plus (name "i") (truth true))) ∷ (sets 5 (to "l") (not_so (name "i"))) ∷ (sets 6 (to "i") (joined (name
    "i") (text "a"))) ∷ (sets 7 (to "l") (compared relation.Equal (name "l") (name "l"))) ∷ [])

abbrev pub OtherKinds : Type 0
OtherKinds = breaks_of other_kinds ≡ broken_at 4 31 ∷ broken_at 5 31 ∷ broken_at 6 31 ∷ broken_at 7 31 ∷ []

-- 1 program p
-- 2 integer :: a(3), b(3, 3)
-- 3 integer :: i
-- 4 a = a + b
-- 5 i = a
-- 6 end
abbrev pub other_ranks : Source
other_ranks = main (declares 2 Integer [] (array_entity "a" (Upper (number 3) ∷ []) ∷ array_entity "b" (Upper (number 3) ∷
    Upper (number 3) ∷ []) ∷ []) ∷ declares 3 Integer [] (scalar_entity "i" ∷ []) ∷ []) ((sets 4 (to "a") (plus (name "a")
    (name "b"))) ∷ (sets 5 (to "i") (name "a")) ∷ [])

abbrev pub OtherRanks : Type 0
OtherRanks = breaks_of other_ranks ≡ broken_at 4 31 ∷ broken_at 5 31 ∷ []

-- 1 program p
-- 2 integer :: a(3), b(4), c(0)
-- 3 a = a + b
-- 4 a(1:2) = b(2:3)
-- 5 a(1:2) = b
-- 6 end
abbrev pub other_extents : Source
other_extents = main (declares 2 Integer [] (array_entity "a" (Upper (number 3) ∷ []) ∷ array_entity "b" (Upper (number 4) ∷
    []) ∷ array_entity "c" (Upper (number 0) ∷ []) ∷ []) ∷ []) ((sets 3 (to "a") (plus (name "a") (name "b"))) ∷ (sets 4 (at
    "a" (from_to (number 1) (number 2) no_item)) (refer "b" (from_to (number 2) (number 3) no_item))) ∷ (sets 5 (at "a"
    (from_to (number 1) (number 2) no_item)) (name "b")) ∷ [])

abbrev pub OtherExtents : Type 0
OtherExtents = breaks_of other_extents ≡ broken_at 3 32 ∷ broken_at 5 32 ∷ []

-- 1 program p
-- 2 integer :: a(3), b(4)
-- 3 logical :: l
-- 4 a = (1 + .true.) + b + l
-- 5 end
abbrev pub no_further : Source
no_further = main (declares 2 Integer [] (array_entity "a" (Upper (number 3) ∷ []) ∷ array_entity "b" (Upper (number 4) ∷ [])
    ∷ []) ∷ declares 3 Logical [] (scalar_entity "l" ∷ []) ∷ []) ((sets 4 (to "a") (plus (plus (Bracketed (plus (number 1)
    (truth true))) (name "b")) (name "l"))) ∷ [])

abbrev pub NoFurther : Type 0
NoFurther = breaks_of no_further ≡ broken_at 4 31 ∷ []

-- 1 program p
-- 2 integer :: a(3)
-- 3 logical :: b(4)
-- 4 a = a + b
-- 5 end
abbrev pub kinds_first : Source
kinds_first = main (declares 2 Integer [] (array_entity "a" (Upper (number 3) ∷ []) ∷ []) ∷ declares 3 Logical []
    (array_entity "b" (Upper (number 4) ∷ []) ∷ []) ∷ []) ((sets 4 (to "a") (plus (name "a") (name "b"))) ∷ [])

abbrev pub KindsFirst : Type 0
KindsFirst = breaks_of kinds_first ≡ broken_at 4 31 ∷ []

-- 1 program p
-- 2 integer, allocatable :: a(:), b(:)
-- 3 integer :: i, c(3)
-- 4 a = b
-- 5 c = a
-- 6 c(i:3) = b(1:2)
-- 7 c(1:3:i) = a
-- 8 end
abbrev pub unknown_extents : Source
unknown_extents = main (declares 2 Integer (Allocatable ∷ []) (array_entity "a" (Deferred ∷ []) ∷ array_entity "b" (Deferred ∷
    []) ∷ []) ∷ declares 3 Integer [] (scalar_entity "i" ∷ array_entity "c" (Upper (number 3) ∷ []) ∷ []) ∷ []) ((sets 4 (to
    "a") (name "b")) ∷ (sets 5 (to "c") (name "a")) ∷ (sets 6 (at "c" (from_to (name "i") (number 3) no_item)) (refer "b"
    (from_to (number 1) (number 2) no_item))) ∷ (sets 7 (at "c" (from_to_by (number 1) (number 3) (name "i") no_item)) (name
    "a")) ∷ [])

abbrev pub UnknownExtents : Type 0
UnknownExtents = breaks_of unknown_extents ≡ []

-- 1 program p
-- 2 integer :: a(10), b(3)
-- 3 b = a(1:10:4)
-- 4 b = a(1:10:3)
-- 5 b = a(10:1:-4)
-- 6 end
abbrev pub strides : Source
strides = main (declares 2 Integer [] (array_entity "a" (Upper (number 10) ∷ []) ∷ array_entity "b" (Upper (number 3) ∷ []) ∷
    []) ∷ []) ((sets 3 (to "b") (refer "a" (from_to_by (number 1) (number 10) (number 4) no_item))) ∷ (sets 4 (to "b") (refer
    "a" (from_to_by (number 1) (number 10) (number 3) no_item))) ∷ (sets 5 (to "b") (refer "a" (from_to_by (number 10) (number
    1) (negative (number 4)) no_item))) ∷ [])

abbrev pub Strides : Type 0
Strides = breaks_of strides ≡ broken_at 4 32 ∷ []

-- 1 program p
-- 2 integer :: a(5:1), b(5), c(0)
-- 3 c = a(::-1)
-- 4 b = a(::-1)
-- 5 c = a
-- 6 end
abbrev pub declared_bounds : Source
declared_bounds = main (declares 2 Integer [] (array_entity "a" (Both (number 5) (number 1) ∷ []) ∷ array_entity "b" (Upper
    (number 5) ∷ []) ∷ array_entity "c" (Upper (number 0) ∷ []) ∷ []) ∷ []) ((sets 3 (to "c") (refer "a" (triplet Absent
    Absent (Given (negative (number 1))) no_item))) ∷ (sets 4 (to "b") (refer "a" (triplet Absent Absent (Given (negative
    (number 1))) no_item))) ∷ (sets 5 (to "c") (name "a")) ∷ [])

abbrev pub DeclaredBounds : Type 0
DeclaredBounds = breaks_of declared_bounds ≡ broken_at 3 32 ∷ []

-- 1 program p
-- 2 integer :: i
-- 3 logical :: l(2)
-- 4 if (i) i = 1
-- 5 if (l) i = 1
-- 6 do while (i)
-- 7 select case (l)
-- 8 case default
-- 9 end select
-- 10 end do
-- 11 end
abbrev pub conditions : Source
conditions = main (declares 2 Integer [] (scalar_entity "i" ∷ []) ∷ declares 3 Logical [] (array_entity "l" (Upper (number 2)
    ∷ []) ∷ []) ∷ []) ((IfOne 4 (name "i") (Assign (assignment (to "i") (number 1)))) ∷ (IfOne 5 (name "l") (Assign
    (assignment (to "i") (number 1)))) ∷ (Do 6 None (While (name "i")) (block ((Select 7 (name "l") (case 8 None (block [])
    no_case)) ∷ []))) ∷ [])

abbrev pub Conditions : Type 0
Conditions = breaks_of conditions ≡ broken_at 4 31 ∷ broken_at 5 31 ∷ broken_at 6 31 ∷ broken_at 7 31 ∷ []

-- 1 program p
-- 2 integer :: i, a(2)
-- 3 logical :: l
-- 4 integer, parameter :: n = 2
-- 5 do l = 1, 2
-- 6 end do
-- 7 do a = 1, 2
-- 8 end do
-- 9 do i = 1, .true.
-- 10 do i = 1, 2, a
-- 11 end do
-- 12 end do
-- 13 end
abbrev pub counters : Source
counters = main (declares 2 Integer [] (scalar_entity "i" ∷ array_entity "a" (Upper (number 2) ∷ []) ∷ []) ∷ declares 3
    Logical [] (scalar_entity "l" ∷ []) ∷ declares 4 Integer (Parameter ∷ []) (initial_entity "n" (number 2) ∷ []) ∷ []) ((Do
    5 None (Counted (codes "l") (number 1) (number 2) Absent) (block [])) ∷ (Do 7 None (Counted (codes "a") (number 1) (number
    2) Absent) (block [])) ∷ (Do 9 None (Counted (codes "i") (number 1) (truth true) Absent) (block ((Do 10 None (Counted
    (codes "i") (number 1) (number 2) (Given (name "a"))) (block [])) ∷ []))) ∷ [])

abbrev pub Counters : Type 0
Counters = breaks_of counters ≡ broken_at 5 31 ∷ broken_at 7 31 ∷ broken_at 9 31 ∷ broken_at 10 31 ∷ broken_at 10 35 ∷ []
