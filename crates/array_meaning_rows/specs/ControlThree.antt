-- DO and SELECT at their edges, dummies with bounds of their own, and faults behind what was written.
use Rattle.std.specs.Prelude.{false, true, Some, None, [], ◌∷◌}
use Rattle.a95_base.specs.declared.fault.FaultKind.TheVariants as fault
use Rattle.f95_unit.specs.declared.operation.UnaryOp.TheVariants as unary
use Rattle.f95_unit.specs.declared.operation.BinaryOp.TheVariants as binary
use Rattle.f95_unit.specs.declared.operation.Inquiry.TheVariants as inquiry
use Rattle.f95_unit.specs.declared.operation.Reduction.TheVariants as reduction
use Rattle.f95_unit.specs.declared.operation.Rearranging.TheVariants as rearranging
use Rattle.f95_unit.specs.declared.stmt.Range.TheVariants as range
use Rattle.f95_unit.specs.declared.unit.DeclaredType.TheVariants as declared
use Rattle.f95_unit.specs.declared.unit.Length.TheVariants as long
use Rattle.f95_unit.specs.declared.unit.Role.TheVariants as role
use Rattle.f95_unit.specs.declared.unit.Intent.TheVariants as intent
use Rattle.f95_unit.specs.Plain.{typed, Named, Unary, Binary, Constructor, Asked, Reduced, Rearranged, Called, at, Whole}
use Rattle.f95_unit.specs.Plain.{Subscripted, no_subscript, subscript, One, Vector, SubscriptTriplet, Absent, Given, AllOf, no_item}
use Rattle.f95_unit.specs.Plain.{value, loop, no_argument, argument, Name, call, Assigns, Calls, Print, If, Select, Do, Exit, Cycle}
use Rattle.f95_unit.specs.Plain.{no_stmt, stmt, no_branch, branch, no_case, case, Scalars, Explicit, Assumed, Program}
use Rattle.array_meaning.specs.Build.{ints, logs, texts, int, text, index_at, target, assign, span, entity, procedure, program, num}
use Rattle.array_meaning.specs.Build.{neg, chars, truth, ended, faulted, Comes}

--     program p
--     integer :: i, k
--     do i = 5, 1, -2
--       print *, i
--     end do
--     print *, i
--     do i = 1, 0
--       print *, 99
--     end do
--     print *, i
--     k = 3
--     do i = 1, k
--       k = 9
--     end do
--     print *, i, k
--     end
unfoldable pub negative_do : Program
negative_do = program
    ([])
    (procedure 1 false false false
    (entity 2 declared.Integer Scalars role.Own None ∷ entity 2 declared.Integer Scalars role.Own None ∷ [])
    None
    (stmt (Do 3 0 (int 5) (int 1) (Given (typed (ints 0) (Unary unary.Minus (int 2)))) (stmt (Print 4 ((typed (ints 0)
    (Named (at 0 Whole AllOf))) ∷ [])) no_stmt)) (stmt (Print 6 ((typed (ints 0) (Named (at 0 Whole AllOf))) ∷ [])) (stmt
    (Do 7 0 (int 1) (int 0) Absent (stmt (Print 8 ((int 99) ∷ [])) no_stmt)) (stmt (Print 10 ((typed (ints 0) (Named (at 0
    Whole AllOf))) ∷ [])) (stmt (Assigns (assign 11 (target (ints 0) (at 1 Whole AllOf)) (int 3))) (stmt (Do 12 0 (int 1)
    (typed (ints 0) (Named (at 1 Whole AllOf))) Absent (stmt (Assigns (assign 13 (target (ints 0) (at 1 Whole AllOf)) (int
    9))) no_stmt)) (stmt (Print 15 ((typed (ints 0) (Named (at 0 Whole AllOf))) ∷ (typed (ints 0) (Named (at 1 Whole
    AllOf))) ∷ [])) no_stmt))))))))
    ([])

abbrev pub NegativeDo : Type 0
NegativeDo = Comes negative_do ([]) 100 (ended ((num 5 ∷ []) ∷ (num 3 ∷ []) ∷ (num 1 ∷ []) ∷ (neg 1 ∷ []) ∷ (num 1 ∷ []) ∷
    (num 4 ∷ num 9 ∷ []) ∷ []))

--     program p
--     integer :: i
--     do i = -3, 6, 3
--       select case (i)
--       case (:-1)
--         print *, 1
--       case (0, 2:3)
--         print *, 2
--       case default
--         print *, 3
--       case (6:)
--         print *, 4
--       end select
--     end do
--     end
unfoldable pub select_by_ranges : Program
select_by_ranges = program
    (neg 1 ∷ num 0 ∷ num 2 ∷ num 3 ∷ num 6 ∷ [])
    (procedure 1 false false false
    (entity 2 declared.Integer Scalars role.Own None ∷ [])
    None
    (stmt (Do 3 0 (typed (ints 0) (Unary unary.Minus (int 3))) (int 6) (Given (int 3)) (stmt (Select 4 (typed (ints 0)
    (Named (at 0 Whole AllOf))) (case (range.UpTo 0 ∷ []) (stmt (Print 6 ((int 1) ∷ [])) no_stmt) (case (range.One 1 ∷
    range.Between 2 3 ∷ []) (stmt (Print 8 ((int 2) ∷ [])) no_stmt) (case (range.From 4 ∷ []) (stmt (Print 12 ((int 4) ∷
    [])) no_stmt) no_case))) (stmt (Print 10 ((int 3) ∷ [])) no_stmt)) no_stmt)) no_stmt))
    ([])

abbrev pub SelectByRanges : Type 0
SelectByRanges = Comes select_by_ranges ([]) 100 (ended ((num 1 ∷ []) ∷ (num 2 ∷ []) ∷ (num 2 ∷ []) ∷ (num 4 ∷ []) ∷ []))

--     program p
--     character(3) :: c(4)
--     integer :: i
--     c = (/'abc','b  ','mm ','zzz'/)
--     do i = 1, 4
--       select case (c(i))
--       case ('b')
--         print *, 1
--       case ('l':'n')
--         print *, 2
--       case ('y':)
--         print *, 3
--       case default
--         print *, 4
--       end select
--     end do
--     end
unfoldable pub select_by_texts : Program
select_by_texts = program
    (chars (98 ∷ []) ∷ chars (108 ∷ []) ∷ chars (110 ∷ []) ∷ chars (121 ∷ []) ∷ [])
    (procedure 1 false false false
    (entity 2 (declared.Character (long.Fixed 3)) (Explicit (span Absent (int 4) ∷ [])) role.Own None ∷ entity 3
    declared.Integer Scalars role.Own None ∷ [])
    None
    (stmt (Assigns (assign 4 (target (texts 3 1) (at 0 Whole AllOf)) (typed (texts 3 1) (Constructor (value (text 3 (97 ∷
    98 ∷ 99 ∷ [])) (value (text 3 (98 ∷ 32 ∷ 32 ∷ [])) (value (text 3 (109 ∷ 109 ∷ 32 ∷ [])) (value (text 3 (122 ∷ 122 ∷
    122 ∷ [])) no_item)))))))) (stmt (Do 5 1 (int 1) (int 4) Absent (stmt (Select 6 (typed (texts 3 0) (Named (at 0
    (Subscripted (subscript (One (typed (ints 0) (Named (at 1 Whole AllOf)))) no_subscript)) AllOf))) (case (range.One 0 ∷
    []) (stmt (Print 8 ((int 1) ∷ [])) no_stmt) (case (range.Between 1 2 ∷ []) (stmt (Print 10 ((int 2) ∷ [])) no_stmt)
    (case (range.From 3 ∷ []) (stmt (Print 12 ((int 3) ∷ [])) no_stmt) no_case))) (stmt (Print 14 ((int 4) ∷ []))
    no_stmt)) no_stmt)) no_stmt)))
    ([])

abbrev pub SelectByTexts : Type 0
SelectByTexts = Comes select_by_texts ([]) 100 (ended ((num 4 ∷ []) ∷ (num 1 ∷ []) ∷ (num 2 ∷ []) ∷ (num 3 ∷ []) ∷ []))

--     program p
--     logical :: l
--     integer :: i
--     i = 7
--     l = i > 8
--     select case (l)
--     case (.true.)
--       i = 1
--     end select
--     select case (i)
--     end select
--     print *, i
--     end
unfoldable pub select_without_a_case : Program
select_without_a_case = program
    (truth true ∷ [])
    (procedure 1 false false false
    (entity 2 declared.Logical Scalars role.Own None ∷ entity 3 declared.Integer Scalars role.Own None ∷ [])
    None
    (stmt (Assigns (assign 4 (target (ints 0) (at 1 Whole AllOf)) (int 7))) (stmt (Assigns (assign 5 (target (logs 0) (at
    0 Whole AllOf)) (typed (logs 0) (Binary binary.Greater (typed (ints 0) (Named (at 1 Whole AllOf))) (int 8))))) (stmt
    (Select 6 (typed (logs 0) (Named (at 0 Whole AllOf))) (case (range.One 0 ∷ []) (stmt (Assigns (assign 8 (target (ints
    0) (at 1 Whole AllOf)) (int 1))) no_stmt) no_case) no_stmt) (stmt (Select 10 (typed (ints 0) (Named (at 1 Whole
    AllOf))) no_case no_stmt) (stmt (Print 12 ((typed (ints 0) (Named (at 1 Whole AllOf))) ∷ [])) no_stmt))))))
    ([])

abbrev pub SelectWithoutACase : Type 0
SelectWithoutACase = Comes select_without_a_case ([]) 100 (ended ((num 7 ∷ []) ∷ []))

--     program p
--     integer :: i, j, n
--     n = 0
--     outer: do i = 1, 4
--       do j = 1, 4
--         if (j == 3) cycle outer
--         if (i == 3) exit outer
--         n = n + 10 * i + j
--       end do
--     end do outer
--     print *, i, j, n
--     end
unfoldable pub exit_of_the_outer_loop : Program
exit_of_the_outer_loop = program
    ([])
    (procedure 1 false false false
    (entity 2 declared.Integer Scalars role.Own None ∷ entity 2 declared.Integer Scalars role.Own None ∷ entity 2
    declared.Integer Scalars role.Own None ∷ [])
    None
    (stmt (Assigns (assign 3 (target (ints 0) (at 2 Whole AllOf)) (int 0))) (stmt (Do 4 0 (int 1) (int 4) Absent (stmt (Do
    5 1 (int 1) (int 4) Absent (stmt (If (branch 6 (typed (logs 0) (Binary binary.Equal (typed (ints 0) (Named (at 1 Whole
    AllOf))) (int 3))) (stmt (Cycle 6 1) no_stmt) no_branch) no_stmt) (stmt (If (branch 7 (typed (logs 0) (Binary
    binary.Equal (typed (ints 0) (Named (at 0 Whole AllOf))) (int 3))) (stmt (Exit 7 1) no_stmt) no_branch) no_stmt) (stmt
    (Assigns (assign 8 (target (ints 0) (at 2 Whole AllOf)) (typed (ints 0) (Binary binary.Add (typed (ints 0) (Binary
    binary.Add (typed (ints 0) (Named (at 2 Whole AllOf))) (typed (ints 0) (Binary binary.Multiply (int 10) (typed (ints
    0) (Named (at 0 Whole AllOf))))))) (typed (ints 0) (Named (at 1 Whole AllOf))))))) no_stmt)))) no_stmt)) (stmt (Print
    11 ((typed (ints 0) (Named (at 0 Whole AllOf))) ∷ (typed (ints 0) (Named (at 1 Whole AllOf))) ∷ (typed (ints 0) (Named
    (at 2 Whole AllOf))) ∷ [])) no_stmt))))
    ([])

abbrev pub ExitOfTheOuterLoop : Type 0
ExitOfTheOuterLoop = Comes exit_of_the_outer_loop ([]) 100 (ended ((num 3 ∷ num 1 ∷ num 66 ∷ []) ∷ []))

--     program p
--     integer :: i, n
--     n = 0
--     print *, 1
--     do i = 5, 1, n
--       print *, 2
--     end do
--     end
unfoldable pub step_of_zero : Program
step_of_zero = program
    ([])
    (procedure 1 false false false
    (entity 2 declared.Integer Scalars role.Own None ∷ entity 2 declared.Integer Scalars role.Own None ∷ [])
    None
    (stmt (Assigns (assign 3 (target (ints 0) (at 1 Whole AllOf)) (int 0))) (stmt (Print 4 ((int 1) ∷ [])) (stmt (Do 5 0
    (int 5) (int 1) (Given (typed (ints 0) (Named (at 1 Whole AllOf)))) (stmt (Print 6 ((int 2) ∷ [])) no_stmt))
    no_stmt))))
    ([])

abbrev pub StepOfZero : Type 0
StepOfZero = Comes step_of_zero ([]) 100 (faulted fault.ZeroStep 5 ((num 1 ∷ []) ∷ []))

--     program p
--     integer :: a(3), n
--     n = 0
--     a(2:1:n) = 5
--     end
unfoldable pub stride_of_zero_in_nothing : Program
stride_of_zero_in_nothing = program
    ([])
    (procedure 1 false false false
    (entity 2 declared.Integer (Explicit (span Absent (int 3) ∷ [])) role.Own None ∷ entity 2 declared.Integer Scalars
    role.Own None ∷ [])
    None
    (stmt (Assigns (assign 3 (target (ints 0) (at 1 Whole AllOf)) (int 0))) (stmt (Assigns (assign 4 (target (ints 1) (at
    0 (Subscripted (subscript (SubscriptTriplet (Given (int 2)) (Given (int 1)) (Given (typed (ints 0) (Named (at 1 Whole
    AllOf))))) no_subscript)) AllOf)) (int 5))) no_stmt)))
    ([])

abbrev pub StrideOfZeroInNothing : Type 0
StrideOfZeroInNothing = Comes stride_of_zero_in_nothing ([]) 100 (faulted fault.ZeroStep 4 ([]))

--     program p
--     integer :: a(3), v(2)
--     a = 1
--     v = (/3,4/)
--     print *, a(v(1:1))
--     print *, a(v)
--     end
unfoldable pub element_of_a_shrunk_section : Program
element_of_a_shrunk_section = program
    ([])
    (procedure 1 false false false
    (entity 2 declared.Integer (Explicit (span Absent (int 3) ∷ [])) role.Own None ∷ entity 2 declared.Integer (Explicit
    (span Absent (int 2) ∷ [])) role.Own None ∷ [])
    None
    (stmt (Assigns (assign 3 (target (ints 1) (at 0 Whole AllOf)) (int 1))) (stmt (Assigns (assign 4 (target (ints 1) (at
    1 Whole AllOf)) (typed (ints 1) (Constructor (value (int 3) (value (int 4) no_item)))))) (stmt (Print 5 ((typed (ints
    1) (Named (at 0 (Subscripted (subscript (Vector (typed (ints 1) (Named (at 1 (Subscripted (subscript (SubscriptTriplet
    (Given (int 1)) (Given (int 1)) Absent) no_subscript)) AllOf)))) no_subscript)) AllOf))) ∷ [])) (stmt (Print 6 ((typed
    (ints 1) (Named (at 0 (Subscripted (subscript (Vector (typed (ints 1) (Named (at 1 Whole AllOf)))) no_subscript))
    AllOf))) ∷ [])) no_stmt)))))
    ([])

abbrev pub ElementOfAShrunkSection : Type 0
ElementOfAShrunkSection = Comes element_of_a_shrunk_section ([]) 100 (faulted fault.Bounds 6 ((num 1 ∷ []) ∷ []))

--     program p
--     integer :: a(3), n
--     a = (/1,2,3/)
--     n = 2
--     print *, a
--     a(1:n) = a + a
--     end
unfoldable pub shapes_differ_before_stores : Program
shapes_differ_before_stores = program
    ([])
    (procedure 1 false false false
    (entity 2 declared.Integer (Explicit (span Absent (int 3) ∷ [])) role.Own None ∷ entity 2 declared.Integer Scalars
    role.Own None ∷ [])
    None
    (stmt (Assigns (assign 3 (target (ints 1) (at 0 Whole AllOf)) (typed (ints 1) (Constructor (value (int 1) (value (int
    2) (value (int 3) no_item))))))) (stmt (Assigns (assign 4 (target (ints 0) (at 1 Whole AllOf)) (int 2))) (stmt (Print
    5 ((typed (ints 1) (Named (at 0 Whole AllOf))) ∷ [])) (stmt (Assigns (assign 6 (target (ints 1) (at 0 (Subscripted
    (subscript (SubscriptTriplet (Given (int 1)) (Given (typed (ints 0) (Named (at 1 Whole AllOf)))) Absent)
    no_subscript)) AllOf)) (typed (ints 1) (Binary binary.Add (typed (ints 1) (Named (at 0 Whole AllOf))) (typed (ints 1)
    (Named (at 0 Whole AllOf))))))) no_stmt)))))
    ([])

abbrev pub ShapesDifferBeforeStores : Type 0
ShapesDifferBeforeStores = Comes shapes_differ_before_stores ([]) 100 (faulted fault.Shape 6 ((num 1 ∷ num 2 ∷ num 3 ∷ [])
    ∷ []))

--     program p
--     integer :: a(5), i
--     a = (/ (i, i = 1, 5) /)
--     a(5:1:-2) = twice(a(1:3), a(3))
--     print *, a
--     contains
--     elemental integer function twice(x, y)
--     integer, intent(in) :: x, y
--     twice = 2 * x + y
--     end function twice
--     end
unfoldable pub elemental_over_a_section : Program
elemental_over_a_section = program
    ([])
    (procedure 1 false false false
    (entity 2 declared.Integer (Explicit (span Absent (int 5) ∷ [])) role.Own None ∷ entity 2 declared.Integer Scalars
    role.Own None ∷ [])
    None
    (stmt (Assigns (assign 3 (target (ints 1) (at 0 Whole AllOf)) (typed (ints 1) (Constructor (loop (value (index_at 0)
    no_item) (int 1) (int 5) Absent no_item))))) (stmt (Assigns (assign 4 (target (ints 1) (at 0 (Subscripted (subscript
    (SubscriptTriplet (Given (int 5)) (Given (int 1)) (Given (typed (ints 0) (Unary unary.Minus (int 2))))) no_subscript))
    AllOf)) (typed (ints 1) (Called (call 0 (argument 0 (typed (ints 1) (Named (at 0 (Subscripted (subscript
    (SubscriptTriplet (Given (int 1)) (Given (int 3)) Absent) no_subscript)) AllOf))) (argument 1 (typed (ints 0) (Named
    (at 0 (Subscripted (subscript (One (int 3)) no_subscript)) AllOf))) no_argument))))))) (stmt (Print 5 ((typed (ints 1)
    (Named (at 0 Whole AllOf))) ∷ [])) no_stmt))))
    ((procedure 7 false false true
    (entity 7 declared.Integer Scalars role.Own None ∷ entity 8 declared.Integer Scalars (role.Dummy 0 intent.In) None ∷
    entity 8 declared.Integer Scalars (role.Dummy 1 intent.In) None ∷ [])
    (Some 0)
    (stmt (Assigns (assign 9 (target (ints 0) (at 0 Whole AllOf)) (typed (ints 0) (Binary binary.Add (typed (ints 0)
    (Binary binary.Multiply (int 2) (typed (ints 0) (Named (at 1 Whole AllOf))))) (typed (ints 0) (Named (at 2 Whole
    AllOf))))))) no_stmt)) ∷ [])

abbrev pub ElementalOverASection : Type 0
ElementalOverASection = Comes elemental_over_a_section ([]) 100 (ended ((num 9 ∷ num 2 ∷ num 7 ∷ num 4 ∷ num 5 ∷ []) ∷
    []))

--     program p
--     integer :: a(4)
--     a = (/1,2,3,4/)
--     call s(a(4:1:-1), a(2:3))
--     print *, a
--     contains
--     subroutine s(x, y)
--     integer, intent(in) :: x(0:)
--     integer, intent(in) :: y(2)
--     integer :: t(size(x), 2)
--     t = spread(x, 2, 2)
--     print *, lbound(x), ubound(x), x(0), y(1), sum(t)
--     end subroutine s
--     end
unfoldable pub lower_bounds_of_dummies : Program
lower_bounds_of_dummies = program
    ([])
    (procedure 1 false false false
    (entity 2 declared.Integer (Explicit (span Absent (int 4) ∷ [])) role.Own None ∷ [])
    None
    (stmt (Assigns (assign 3 (target (ints 1) (at 0 Whole AllOf)) (typed (ints 1) (Constructor (value (int 1) (value (int
    2) (value (int 3) (value (int 4) no_item)))))))) (stmt (Calls 4 (call 0 (argument 0 (typed (ints 1) (Named (at 0
    (Subscripted (subscript (SubscriptTriplet (Given (int 4)) (Given (int 1)) (Given (typed (ints 0) (Unary unary.Minus
    (int 1))))) no_subscript)) AllOf))) (argument 1 (typed (ints 1) (Named (at 0 (Subscripted (subscript (SubscriptTriplet
    (Given (int 2)) (Given (int 3)) Absent) no_subscript)) AllOf))) no_argument)))) (stmt (Print 5 ((typed (ints 1) (Named
    (at 0 Whole AllOf))) ∷ [])) no_stmt))))
    ((procedure 7 false false false
    (entity 8 declared.Integer (Assumed ((Given (int 0)) ∷ [])) (role.Dummy 0 intent.In) None ∷ entity 9 declared.Integer
    (Explicit (span Absent (int 2) ∷ [])) (role.Dummy 1 intent.In) None ∷ entity 10 declared.Integer (Explicit (span
    Absent (typed (ints 0) (Asked inquiry.Size None (Name 0))) ∷ span Absent (int 2) ∷ [])) role.Own None ∷ [])
    None
    (stmt (Assigns (assign 11 (target (ints 2) (at 2 Whole AllOf)) (typed (ints 2) (Rearranged rearranging.Spread (Some 2)
    (argument 0 (typed (ints 1) (Named (at 0 Whole AllOf))) (argument 2 (int 2) no_argument)))))) (stmt (Print 12 ((typed
    (ints 1) (Asked inquiry.Lbound None (Name 0))) ∷ (typed (ints 1) (Asked inquiry.Ubound None (Name 0))) ∷ (typed (ints
    0) (Named (at 0 (Subscripted (subscript (One (int 0)) no_subscript)) AllOf))) ∷ (typed (ints 0) (Named (at 1
    (Subscripted (subscript (One (int 1)) no_subscript)) AllOf))) ∷ (typed (ints 0) (Reduced reduction.Sum None (argument
    0 (typed (ints 2) (Named (at 2 Whole AllOf))) no_argument))) ∷ [])) no_stmt))) ∷ [])

abbrev pub LowerBoundsOfDummies : Type 0
LowerBoundsOfDummies = Comes lower_bounds_of_dummies ([]) 100 (ended ((num 0 ∷ num 3 ∷ num 4 ∷ num 2 ∷ num 20 ∷ []) ∷ (num
    1 ∷ num 2 ∷ num 3 ∷ num 4 ∷ []) ∷ []))
