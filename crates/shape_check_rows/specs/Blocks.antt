-- Cases, masks and indices, and what each program breaks.
use Rattle.std.specs.Prelude.{◌≡◌, pos, true, false, [], ◌∷◌, codes, Some, None}
use Rattle.a95_base.specs.Breaks.{broken_at}
use Rattle.f95_tree.specs.declared.terminal.Relation.TheVariants as relation
use Rattle.names_types.specs.Plain.{Integer, Logical, Character, Number, Upper, Parameter, Constructor, Absent, Given, Substring}
use Rattle.names_types.specs.Plain.{no_item, plain, no_value, value, loop}
use Rattle.names_types_rows.specs.Build.{number, truth, text, name, plus, over, call, scalar_entity, array_entity, initial_entity}
use Rattle.names_types_rows.specs.Build.{declares}
use Rattle.shape_check.specs.Statements.{Source, Act, Select, Where, Forall, WhereOne, ForallOne, no_case, case, One, From, UpTo}
use Rattle.shape_check.specs.Statements.{Between, where_block, no_masked, assigning, narrowed, no_other, elsewhere}
use Rattle.shape_check.specs.Listed.{breaks_of}
use Rattle.shape_check_rows.specs.Build.{minus, compared, and, from_to, each, refer, to, at, assignment, sets, sited, block, index}
use Rattle.shape_check_rows.specs.Build.{header, main}

-- 1 program p
-- 2 integer :: i
-- 3 character(2) :: s
-- 4 integer, parameter :: n = 3
-- 5 select case (i)
-- 6 case (1, n)
-- 7 i = 1
-- 8 case (:0, 4:)
-- 9 case (2:2)
-- 10 case (9:8, 5:4)
-- 11 case default
-- 12 end select
-- 13 select case (s)
-- 14 case ('a':'b', 'c ')
-- 15 case ('d':)
-- 16 end select
-- 17 select case (i == 1)
-- 18 case (.true.)
-- 19 case (.false.)
-- 20 end select
-- 21 end
abbrev pub good_cases : Source
good_cases = main (declares 2 Integer [] (scalar_entity "i" ∷ []) ∷ declares 3 (Character (Number (pos 2))) [] (scalar_entity
    "s" ∷ []) ∷ declares 4 Integer (Parameter ∷ []) (initial_entity "n" (number 3) ∷ []) ∷ []) ((Select 5 (name "i") (case 6
    (Some (One (number 1) ∷ One (name "n") ∷ [])) (block ((sets 7 (to "i") (number 1)) ∷ [])) (case 8 (Some (UpTo (number 0) ∷
    From (number 4) ∷ [])) (block []) (case 9 (Some (Between (number 2) (number 2) ∷ [])) (block []) (case 10 (Some (Between
    (number 9) (number 8) ∷ Between (number 5) (number 4) ∷ [])) (block []) (case 11 None (block []) no_case)))))) ∷ (Select
    13 (name "s") (case 14 (Some (Between (text "a") (text "b") ∷ One (text "c ") ∷ [])) (block []) (case 15 (Some (From (text
    "d") ∷ [])) (block []) no_case))) ∷ (Select 17 (compared relation.Equal (name "i") (number 1)) (case 18 (Some (One (truth
    true) ∷ [])) (block []) (case 19 (Some (One (truth false) ∷ [])) (block []) no_case))) ∷ [])

abbrev pub GoodCases : Type 0
GoodCases = breaks_of good_cases ≡ []

-- 1 program p
-- 2 integer :: i
-- 3 select case (i)
-- 4 case (i)
-- 5 case (.true.)
-- 6 case (1 / 0)
-- 7 case (2147483647 + 1)
-- 8 end select
-- 9 select case (i == 1)
-- 10 case (.true.:)
-- 11 case (.false.)
-- 12 case (.false.)
-- 13 end select
-- 14 end
abbrev pub other_cases : Source
other_cases = main (declares 2 Integer [] (scalar_entity "i" ∷ []) ∷ []) ((Select 3 (name "i") (case 4 (Some (One (name "i") ∷
    [])) (block []) (case 5 (Some (One (truth true) ∷ [])) (block []) (case 6 (Some (One (over (number 1) (number 0)) ∷ []))
    (block []) (case 7 (Some (One (plus (number 2147483647) (number 1)) ∷ [])) (block []) no_case))))) ∷ (Select 9 (compared
    relation.Equal (name "i") (number 1)) (case 10 (Some (From (truth true) ∷ [])) (block []) (case 11 (Some (One (truth
    false) ∷ [])) (block []) (case 12 (Some (One (truth false) ∷ [])) (block []) no_case)))) ∷ [])

abbrev pub OtherCases : Type 0
OtherCases = breaks_of other_cases ≡ broken_at 4 36 ∷ broken_at 5 36 ∷ broken_at 6 36 ∷ broken_at 7 36 ∷ broken_at 10 36
    ∷ broken_at 12 36 ∷ []

-- 1 program p
-- 2 integer :: i
-- 3 select case (i)
-- 4 case (1 + .true.)
-- 5 end select
-- 6 end
abbrev pub ill_typed_case : Source
ill_typed_case = main (declares 2 Integer [] (scalar_entity "i" ∷ []) ∷ []) ((Select 3 (name "i") (case 4 (Some (One (plus
    (number 1) (truth true)) ∷ [])) (block []) no_case)) ∷ [])

abbrev pub IllTypedCase : Type 0
IllTypedCase = breaks_of ill_typed_case ≡ broken_at 4 31 ∷ []

-- 1 program p
-- 2 integer :: i
-- 3 select case (i)
-- 4 case (1:3)
-- 5 case (3)
-- 6 case (5, 5)
-- 7 case (:1)
-- 8 end select
-- 9 select case ('ab')
-- 10 case ('a')
-- 11 case ('a ')
-- 12 end select
-- 13 end
abbrev pub shared_values : Source
shared_values = main (declares 2 Integer [] (scalar_entity "i" ∷ []) ∷ []) ((Select 3 (name "i") (case 4 (Some (Between
    (number 1) (number 3) ∷ [])) (block []) (case 5 (Some (One (number 3) ∷ [])) (block []) (case 6 (Some (One (number 5) ∷
    One (number 5) ∷ [])) (block []) (case 7 (Some (UpTo (number 1) ∷ [])) (block []) no_case))))) ∷ (Select 9 (text "ab")
    (case 10 (Some (One (text "a") ∷ [])) (block []) (case 11 (Some (One (text "a ") ∷ [])) (block []) no_case))) ∷ [])

abbrev pub SharedValues : Type 0
SharedValues = breaks_of shared_values ≡ broken_at 5 36 ∷ broken_at 6 36 ∷ broken_at 7 36 ∷ broken_at 11 36 ∷ []

-- 1 program p
-- 2 integer :: a(3), b(3), c(3, 3)
-- 3 where (a > 0) a = b
-- 4 where (c(:, 1) > 1)
-- 5 a = 1
-- 6 where (b > 0)
-- 7 b = a + 1
-- 8 end where
-- 9 elsewhere (b == 1)
-- 10 b = c(1, :)
-- 11 elsewhere
-- 12 a = sum(c)
-- 13 end where
-- 14 end
abbrev pub good_masks : Source
good_masks = main (declares 2 Integer [] (array_entity "a" (Upper (number 3) ∷ []) ∷ array_entity "b" (Upper (number 3) ∷ [])
    ∷ array_entity "c" (Upper (number 3) ∷ Upper (number 3) ∷ []) ∷ []) ∷ []) ((Act 3 (WhereOne (compared relation.Greater
    (name "a") (number 0)) (assignment (to "a") (name "b")))) ∷ (Where (where_block 4 (compared relation.Greater (refer "c"
    (each (plain (number 1) no_item))) (number 1)) (assigning (sited 5 (to "a") (number 1)) (narrowed (where_block 6 (compared
    relation.Greater (name "b") (number 0)) (assigning (sited 7 (to "b") (plus (name "a") (number 1))) no_masked) no_other)
    no_masked)) (elsewhere 9 (Some (compared relation.Equal (name "b") (number 1))) (assigning (sited 10 (to "b") (refer "c"
    (plain (number 1) (each no_item)))) no_masked) (elsewhere 11 None (assigning (sited 12 (to "a") (call "sum" ((name "c") ∷
    []))) no_masked) no_other)))) ∷ [])

abbrev pub GoodMasks : Type 0
GoodMasks = breaks_of good_masks ≡ []

-- 1 program p
-- 2 integer :: a(3), b(4), c(3, 3), i
-- 3 logical :: l
-- 4 where (.true. + 1) a = 1
-- 5 where (a + .true.) a = l
-- 6 where (l) a = 1
-- 7 where (a > 0)
-- 8 a = b(1:2)
-- 9 b = 1
-- 10 i = 1
-- 11 where (c > 1)
-- 12 end where
-- 13 elsewhere (b > 1)
-- 14 end where
-- 15 end
abbrev pub other_masks : Source
other_masks = main (declares 2 Integer [] (array_entity "a" (Upper (number 3) ∷ []) ∷ array_entity "b" (Upper (number 4) ∷ [])
    ∷ array_entity "c" (Upper (number 3) ∷ Upper (number 3) ∷ []) ∷ scalar_entity "i" ∷ []) ∷ declares 3 Logical []
    (scalar_entity "l" ∷ []) ∷ []) ((Act 4 (WhereOne (plus (truth true) (number 1)) (assignment (to "a") (number 1)))) ∷ (Act
    5 (WhereOne (plus (name "a") (truth true)) (assignment (to "a") (name "l")))) ∷ (Act 6 (WhereOne (name "l") (assignment
    (to "a") (number 1)))) ∷ (Where (where_block 7 (compared relation.Greater (name "a") (number 0)) (assigning (sited 8 (to
    "a") (refer "b" (from_to (number 1) (number 2) no_item))) (assigning (sited 9 (to "b") (number 1)) (assigning (sited 10
    (to "i") (number 1)) (narrowed (where_block 11 (compared relation.Greater (name "c") (number 1)) no_masked no_other)
    no_masked)))) (elsewhere 13 (Some (compared relation.Greater (name "b") (number 1))) no_masked no_other))) ∷ [])

abbrev pub OtherMasks : Type 0
OtherMasks = breaks_of other_masks ≡ broken_at 4 31 ∷ broken_at 5 31 ∷ broken_at 5 31 ∷ broken_at 8 32 ∷ broken_at 9 32
    ∷ broken_at 13 32 ∷ broken_at 6 37 ∷ broken_at 10 37 ∷ broken_at 11 37 ∷ []

-- 1 program p
-- 2 integer :: a(3), b(3, 3), i, j
-- 3 forall (i = 1:3) a(i) = a(4 - i)
-- 4 forall (i = 1:3, j = 1:3, i > j .and. a(i) > 0)
-- 5 b(i, j) = b(j, i)
-- 6 b(i, j) = sum(b(:, i))
-- 7 end forall
-- 8 forall (i = 1:3) b(i, :) = a
-- 9 end
abbrev pub good_indices : Source
good_indices = main (declares 2 Integer [] (array_entity "a" (Upper (number 3) ∷ []) ∷ array_entity "b" (Upper (number 3) ∷
    Upper (number 3) ∷ []) ∷ scalar_entity "i" ∷ scalar_entity "j" ∷ []) ∷ []) ((Act 3 (ForallOne (header (index "i" (number
    1) (number 3) ∷ []) None) (assignment (at "a" (plain (name "i") no_item)) (call "a" ((minus (number 4) (name "i")) ∷
    []))))) ∷ (Forall 4 (header (index "i" (number 1) (number 3) ∷ index "j" (number 1) (number 3) ∷ []) (Some (and (compared
    relation.Greater (name "i") (name "j")) (compared relation.Greater (call "a" ((name "i") ∷ [])) (number 0))))) (sited 5
    (at "b" (plain (name "i") (plain (name "j") no_item))) (call "b" ((name "j") ∷ (name "i") ∷ [])) ∷ sited 6 (at "b" (plain
    (name "i") (plain (name "j") no_item))) (call "sum" ((refer "b" (each (plain (name "i") no_item))) ∷ [])) ∷ [])) ∷ (Act 8
    (ForallOne (header (index "i" (number 1) (number 3) ∷ []) None) (assignment (at "b" (plain (name "i") (each no_item)))
    (name "a")))) ∷ [])

abbrev pub GoodIndices : Type 0
GoodIndices = breaks_of good_indices ≡ []

-- 1 program p
-- 2 integer :: a(3), b(3, 3), i, j, s
-- 3 forall (i = 1:3, i = 1:3) a(i) = 1
-- 4 forall (a = 1:3) b(1, 1) = 1
-- 5 forall (i = 1:.true.) a(i) = 1
-- 6 forall (i = 1:3, a(i)) a(i) = 1
-- 7 forall (i = 1:3, j = 1:i) b(i, j) = 1
-- 8 forall (i = 1:3) b(i, 1:i) = 1
-- 9 forall (i = 1:3) a(i) = sum(a(1:i))
-- 10 forall (i = 1:3) s = 1
-- 11 forall (i = 1:3, sum(a(i:3)) > 1) a(i) = 1
-- 12 forall (i = 1:3)
-- 13 b(i, :) = a(i:3)
-- 14 end forall
-- 15 end
abbrev pub other_indices : Source
other_indices = main (declares 2 Integer [] (array_entity "a" (Upper (number 3) ∷ []) ∷ array_entity "b" (Upper (number 3) ∷
    Upper (number 3) ∷ []) ∷ scalar_entity "i" ∷ scalar_entity "j" ∷ scalar_entity "s" ∷ []) ∷ []) ((Act 3 (ForallOne (header
    (index "i" (number 1) (number 3) ∷ index "i" (number 1) (number 3) ∷ []) None) (assignment (at "a" (plain (name "i")
    no_item)) (number 1)))) ∷ (Act 4 (ForallOne (header (index "a" (number 1) (number 3) ∷ []) None) (assignment (at "b"
    (plain (number 1) (plain (number 1) no_item))) (number 1)))) ∷ (Act 5 (ForallOne (header (index "i" (number 1) (truth
    true) ∷ []) None) (assignment (at "a" (plain (name "i") no_item)) (number 1)))) ∷ (Act 6 (ForallOne (header (index "i"
    (number 1) (number 3) ∷ []) (Some (call "a" ((name "i") ∷ [])))) (assignment (at "a" (plain (name "i") no_item)) (number
    1)))) ∷ (Act 7 (ForallOne (header (index "i" (number 1) (number 3) ∷ index "j" (number 1) (name "i") ∷ []) None)
    (assignment (at "b" (plain (name "i") (plain (name "j") no_item))) (number 1)))) ∷ (Act 8 (ForallOne (header (index "i"
    (number 1) (number 3) ∷ []) None) (assignment (at "b" (plain (name "i") (from_to (number 1) (name "i") no_item))) (number
    1)))) ∷ (Act 9 (ForallOne (header (index "i" (number 1) (number 3) ∷ []) None) (assignment (at "a" (plain (name "i")
    no_item)) (call "sum" ((refer "a" (from_to (number 1) (name "i") no_item)) ∷ []))))) ∷ (Act 10 (ForallOne (header (index
    "i" (number 1) (number 3) ∷ []) None) (assignment (to "s") (number 1)))) ∷ (Act 11 (ForallOne (header (index "i" (number
    1) (number 3) ∷ []) (Some (compared relation.Greater (call "sum" ((refer "a" (from_to (name "i") (number 3) no_item)) ∷
    [])) (number 1)))) (assignment (at "a" (plain (name "i") no_item)) (number 1)))) ∷ (Forall 12 (header (index "i" (number
    1) (number 3) ∷ []) None) (sited 13 (at "b" (plain (name "i") (each no_item))) (refer "a" (from_to (name "i") (number 3)
    no_item)) ∷ [])) ∷ [])

abbrev pub OtherIndices : Type 0
OtherIndices = breaks_of other_indices ≡ broken_at 4 31 ∷ broken_at 5 31 ∷ broken_at 6 31 ∷ broken_at 3 38 ∷ broken_at 7 38
    ∷ broken_at 8 38 ∷ broken_at 9 38 ∷ broken_at 10 38 ∷ broken_at 11 38 ∷ broken_at 13 38 ∷ []

-- 1 program p
-- 2 integer :: a(3), i
-- 3 forall (i = 1:3) a(i) = sum((/ (sum(a(1:i)), i = 1, 3) /))
-- 4 end
abbrev pub hidden_index : Source
hidden_index = main (declares 2 Integer [] (array_entity "a" (Upper (number 3) ∷ []) ∷ scalar_entity "i" ∷ []) ∷ []) ((Act 3
    (ForallOne (header (index "i" (number 1) (number 3) ∷ []) None) (assignment (at "a" (plain (name "i") no_item)) (call
    "sum" ((Constructor (loop (value (call "sum" ((refer "a" (from_to (number 1) (name "i") no_item)) ∷ [])) no_value) (codes
    "i") (number 1) (number 3) Absent no_value)) ∷ []))))) ∷ [])

abbrev pub HiddenIndex : Type 0
HiddenIndex = breaks_of hidden_index ≡ []

-- 1 program p
-- 2 integer :: a(3), i
-- 3 forall (i = 1:3) i = 1
-- 4 end
abbrev pub stored_index : Source
stored_index = main (declares 2 Integer [] (array_entity "a" (Upper (number 3) ∷ []) ∷ scalar_entity "i" ∷ []) ∷ []) ((Act 3
    (ForallOne (header (index "i" (number 1) (number 3) ∷ []) None) (assignment (to "i") (number 1)))) ∷ [])

abbrev pub StoredIndex : Type 0
StoredIndex = breaks_of stored_index ≡ broken_at 3 35 ∷ []

-- 1 program p
-- 2 integer :: b(1, 1, 1, 1, 1, 1, 1), i, j
-- 3 forall (i = 1:1) b(i, 1, 1, 1, 1, 1, 1) = 1
-- 4 forall (i = 1:1, j = 1:1) b(:, :, :, :, :, :, i) = 1
-- 5 forall (i = 1:1) b(:, :, :, :, :, :, i) = 1
-- 6 end
abbrev pub many_indices : Source
many_indices = main (declares 2 Integer [] (array_entity "b" (Upper (number 1) ∷ Upper (number 1) ∷ Upper (number 1) ∷ Upper
    (number 1) ∷ Upper (number 1) ∷ Upper (number 1) ∷ Upper (number 1) ∷ []) ∷ scalar_entity "i" ∷ scalar_entity "j" ∷ []) ∷
    []) ((Act 3 (ForallOne (header (index "i" (number 1) (number 1) ∷ []) None) (assignment (at "b" (plain (name "i") (plain
    (number 1) (plain (number 1) (plain (number 1) (plain (number 1) (plain (number 1) (plain (number 1) no_item))))))))
    (number 1)))) ∷ (Act 4 (ForallOne (header (index "i" (number 1) (number 1) ∷ index "j" (number 1) (number 1) ∷ []) None)
    (assignment (at "b" (each (each (each (each (each (each (plain (name "i") no_item)))))))) (number 1)))) ∷ (Act 5
    (ForallOne (header (index "i" (number 1) (number 1) ∷ []) None) (assignment (at "b" (each (each (each (each (each (each
    (plain (name "i") no_item)))))))) (number 1)))) ∷ [])

abbrev pub ManyIndices : Type 0
ManyIndices = breaks_of many_indices ≡ broken_at 4 38 ∷ []

-- 1 program p
-- 2 character(5) :: s(3)
-- 3 integer :: i
-- 4 forall (i = 1:3) s(i)(1:1) = 'a'
-- 5 end
abbrev pub cut_target : Source
cut_target = main (declares 2 (Character (Number (pos 5))) [] (array_entity "s" (Upper (number 3) ∷ []) ∷ []) ∷ declares 3
    Integer [] (scalar_entity "i" ∷ []) ∷ []) ((Act 4 (ForallOne (header (index "i" (number 1) (number 3) ∷ []) None)
    (assignment (Substring (codes "s") (plain (name "i") no_item) (Given (number 1)) (Given (number 1))) (text "a")))) ∷ [])

abbrev pub CutTarget : Type 0
CutTarget = breaks_of cut_target ≡ broken_at 4 38 ∷ []
