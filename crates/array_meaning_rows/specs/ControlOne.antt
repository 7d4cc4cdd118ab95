-- Choices, loops, turns, allocation, and operators of LOGICAL and CHARACTER.
use Rattle.std.specs.Prelude.{pos, true, false, None, [], ◌∷◌}
use Rattle.a95_base.specs.declared.scalar.Scalar.TheVariants as scalar
use Rattle.f95_unit.specs.declared.operation.UnaryOp.TheVariants as unary
use Rattle.f95_unit.specs.declared.operation.BinaryOp.TheVariants as binary
use Rattle.f95_unit.specs.declared.stmt.Range.TheVariants as range
use Rattle.f95_unit.specs.declared.unit.DeclaredType.TheVariants as declared
use Rattle.f95_unit.specs.declared.unit.Role.TheVariants as role
use Rattle.f95_unit.specs.Plain.{typed, Named, Unary, Binary, at, Whole, Absent, Given, AllOf, Assigns, Print, If, Select, Do}
use Rattle.f95_unit.specs.Plain.{While, Forever, Exit, Cycle, Stop, no_stmt, stmt, no_branch, branch, no_case, case, Scalars}
use Rattle.f95_unit.specs.Plain.{Program}
use Rattle.array_meaning.specs.Build.{ints, logs, int, text, target, assign, entity, procedure, program, num, neg, chars, ended}
use Rattle.array_meaning.specs.Build.{going, Comes}

--     program p
--     integer :: i
--     do i = -1, 1
--       if (i < 0) then
--         print *, 'neg'
--       else if (i == 0) then
--         print *, 'zero'
--       else
--         print *, 'pos'
--       end if
--       if (i == 1) print *, i
--     end do
--     end
unfoldable pub if_chain : Program
if_chain = program
    ([])
    (procedure 1 false false false
    (entity 2 declared.Integer Scalars role.Own None ∷ [])
    None
    (stmt (Do 3 0 (typed (ints 0) (Unary unary.Minus (int 1))) (int 1) Absent (stmt (If (branch 4 (typed (logs 0) (Binary
    binary.Less (typed (ints 0) (Named (at 0 Whole AllOf))) (int 0))) (stmt (Print 5 ((text 3 (110 ∷ 101 ∷ 103 ∷ [])) ∷
    [])) no_stmt) (branch 6 (typed (logs 0) (Binary binary.Equal (typed (ints 0) (Named (at 0 Whole AllOf))) (int 0)))
    (stmt (Print 7 ((text 4 (122 ∷ 101 ∷ 114 ∷ 111 ∷ [])) ∷ [])) no_stmt) no_branch)) (stmt (Print 9 ((text 3 (112 ∷ 111 ∷
    115 ∷ [])) ∷ [])) no_stmt)) (stmt (If (branch 11 (typed (logs 0) (Binary binary.Equal (typed (ints 0) (Named (at 0
    Whole AllOf))) (int 1))) (stmt (Print 11 ((typed (ints 0) (Named (at 0 Whole AllOf))) ∷ [])) no_stmt) no_branch)
    no_stmt) no_stmt))) no_stmt))
    ([])

abbrev pub IfChain : Type 0
IfChain = Comes if_chain ([]) 100 (ended ((chars (110 ∷ 101 ∷ 103 ∷ []) ∷ []) ∷ (chars (122 ∷ 101 ∷ 114 ∷ 111 ∷ []) ∷ []) ∷
    (chars (112 ∷ 111 ∷ 115 ∷ []) ∷ []) ∷ (num 1 ∷ []) ∷ []))

--     program p
--     integer :: i, n
--     n = 0
--     do i = 10, 1, -4
--       n = n + i
--     end do
--     print *, i, n
--     do i = 5, 1
--       n = 0
--     end do
--     print *, i, n
--     end
unfoldable pub do_counts : Program
do_counts = program
    ([])
    (procedure 1 false false false
    (entity 2 declared.Integer Scalars role.Own None ∷ entity 2 declared.Integer Scalars role.Own None ∷ [])
    None
    (stmt (Assigns (assign 3 (target (ints 0) (at 1 Whole AllOf)) (int 0))) (stmt (Do 4 0 (int 10) (int 1) (Given (typed
    (ints 0) (Unary unary.Minus (int 4)))) (stmt (Assigns (assign 5 (target (ints 0) (at 1 Whole AllOf)) (typed (ints 0)
    (Binary binary.Add (typed (ints 0) (Named (at 1 Whole AllOf))) (typed (ints 0) (Named (at 0 Whole AllOf)))))))
    no_stmt)) (stmt (Print 7 ((typed (ints 0) (Named (at 0 Whole AllOf))) ∷ (typed (ints 0) (Named (at 1 Whole AllOf))) ∷
    [])) (stmt (Do 8 0 (int 5) (int 1) Absent (stmt (Assigns (assign 9 (target (ints 0) (at 1 Whole AllOf)) (int 0)))
    no_stmt)) (stmt (Print 11 ((typed (ints 0) (Named (at 0 Whole AllOf))) ∷ (typed (ints 0) (Named (at 1 Whole AllOf))) ∷
    [])) no_stmt))))))
    ([])

abbrev pub DoCounts : Type 0
DoCounts = Comes do_counts ([]) 100 (ended ((neg 2 ∷ num 18 ∷ []) ∷ (num 5 ∷ num 18 ∷ []) ∷ []))

--     program p
--     integer :: i, j, n
--     n = 0
--     outer: do i = 1, 5
--       do j = 1, 5
--         if (j == 2) cycle
--         if (j == 4) cycle outer
--         if (i == 4) exit outer
--         n = n + 10*i + j
--       end do
--     end do outer
--     print *, i, j, n
--     end
unfoldable pub exit_and_cycle : Program
exit_and_cycle = program
    ([])
    (procedure 1 false false false
    (entity 2 declared.Integer Scalars role.Own None ∷ entity 2 declared.Integer Scalars role.Own None ∷ entity 2
    declared.Integer Scalars role.Own None ∷ [])
    None
    (stmt (Assigns (assign 3 (target (ints 0) (at 2 Whole AllOf)) (int 0))) (stmt (Do 4 0 (int 1) (int 5) Absent (stmt (Do 5
    1 (int 1) (int 5) Absent (stmt (If (branch 6 (typed (logs 0) (Binary binary.Equal (typed (ints 0) (Named (at 1 Whole
    AllOf))) (int 2))) (stmt (Cycle 6 0) no_stmt) no_branch) no_stmt) (stmt (If (branch 7 (typed (logs 0) (Binary
    binary.Equal (typed (ints 0) (Named (at 1 Whole AllOf))) (int 4))) (stmt (Cycle 7 1) no_stmt) no_branch) no_stmt) (stmt
    (If (branch 8 (typed (logs 0) (Binary binary.Equal (typed (ints 0) (Named (at 0 Whole AllOf))) (int 4))) (stmt (Exit 8
    1) no_stmt) no_branch) no_stmt) (stmt (Assigns (assign 9 (target (ints 0) (at 2 Whole AllOf)) (typed (ints 0) (Binary
    binary.Add (typed (ints 0) (Binary binary.Add (typed (ints 0) (Named (at 2 Whole AllOf))) (typed (ints 0) (Binary
    binary.Multiply (int 10) (typed (ints 0) (Named (at 0 Whole AllOf))))))) (typed (ints 0) (Named (at 1 Whole
    AllOf))))))) no_stmt))))) no_stmt)) (stmt (Print 12 ((typed (ints 0) (Named (at 0 Whole AllOf))) ∷ (typed (ints 0)
    (Named (at 1 Whole AllOf))) ∷ (typed (ints 0) (Named (at 2 Whole AllOf))) ∷ [])) no_stmt))))
    ([])

abbrev pub ExitAndCycle : Type 0
ExitAndCycle = Comes exit_and_cycle ([]) 100 (ended ((num 4 ∷ num 1 ∷ num 132 ∷ []) ∷ []))

--     program p
--     integer :: i
--     i = 1
--     do while (i < 20)
--       i = i * 3
--     end do
--     do
--       i = i - 1
--       if (i <= 24) exit
--     end do
--     print *, i
--     end
unfoldable pub while_and_endless : Program
while_and_endless = program
    ([])
    (procedure 1 false false false
    (entity 2 declared.Integer Scalars role.Own None ∷ [])
    None
    (stmt (Assigns (assign 3 (target (ints 0) (at 0 Whole AllOf)) (int 1))) (stmt (While 4 (typed (logs 0) (Binary
    binary.Less (typed (ints 0) (Named (at 0 Whole AllOf))) (int 20))) (stmt (Assigns (assign 5 (target (ints 0) (at 0
    Whole AllOf)) (typed (ints 0) (Binary binary.Multiply (typed (ints 0) (Named (at 0 Whole AllOf))) (int 3))))) no_stmt))
    (stmt (Forever 7 (stmt (Assigns (assign 8 (target (ints 0) (at 0 Whole AllOf)) (typed (ints 0) (Binary binary.Subtract
    (typed (ints 0) (Named (at 0 Whole AllOf))) (int 1))))) (stmt (If (branch 9 (typed (logs 0) (Binary binary.LessEqual
    (typed (ints 0) (Named (at 0 Whole AllOf))) (int 24))) (stmt (Exit 9 0) no_stmt) no_branch) no_stmt) no_stmt))) (stmt
    (Print 11 ((typed (ints 0) (Named (at 0 Whole AllOf))) ∷ [])) no_stmt)))))
    ([])

abbrev pub WhileAndEndless : Type 0
WhileAndEndless = Comes while_and_endless ([]) 100 (ended ((num 24 ∷ []) ∷ []))

--     program p
--     integer :: i
--     do i = 1, 6
--       select case (i*i)
--       case (4)
--         print *, 'four'
--       case (16:30, 9)
--         print *, 'some'
--       case (:1)
--         print *, 'low'
--       case default
--         print *, 'else'
--       end select
--     end do
--     select case ('b  ')
--     case ('b')
--       print *, 'same'
--     end select
--     select case (2 > 1)
--     case (.false.)
--       print *, 'no'
--     case (.true.)
--       print *, 'yes'
--     end select
--     end
unfoldable pub select_cases : Program
select_cases = program
    (scalar.Int (pos 4) ∷ scalar.Int (pos 16) ∷ scalar.Int (pos 30) ∷ scalar.Int (pos 9) ∷ scalar.Int (pos 1) ∷ scalar.Text (98
    ∷ []) ∷ scalar.Log false ∷ scalar.Log true ∷ [])
    (procedure 1 false false false
    (entity 2 declared.Integer Scalars role.Own None ∷ [])
    None
    (stmt (Do 3 0 (int 1) (int 6) Absent (stmt (Select 4 (typed (ints 0) (Binary binary.Multiply (typed (ints 0) (Named (at 0
    Whole AllOf))) (typed (ints 0) (Named (at 0 Whole AllOf))))) (case (range.One 0 ∷ []) (stmt (Print 6 ((text 4 (102 ∷
    111 ∷ 117 ∷ 114 ∷ [])) ∷ [])) no_stmt) (case (range.Between 1 2 ∷ range.One 3 ∷ []) (stmt (Print 8 ((text 4 (115 ∷ 111
    ∷ 109 ∷ 101 ∷ [])) ∷ [])) no_stmt) (case (range.UpTo 4 ∷ []) (stmt (Print 10 ((text 3 (108 ∷ 111 ∷ 119 ∷ [])) ∷ []))
    no_stmt) no_case))) (stmt (Print 12 ((text 4 (101 ∷ 108 ∷ 115 ∷ 101 ∷ [])) ∷ [])) no_stmt)) no_stmt)) (stmt (Select 15
    (text 3 (98 ∷ 32 ∷ 32 ∷ [])) (case (range.One 5 ∷ []) (stmt (Print 17 ((text 4 (115 ∷ 97 ∷ 109 ∷ 101 ∷ [])) ∷ []))
    no_stmt) no_case) no_stmt) (stmt (Select 19 (typed (logs 0) (Binary binary.Greater (int 2) (int 1))) (case (range.One 6
    ∷ []) (stmt (Print 21 ((text 2 (110 ∷ 111 ∷ [])) ∷ [])) no_stmt) (case (range.One 7 ∷ []) (stmt (Print 23 ((text 3 (121
    ∷ 101 ∷ 115 ∷ [])) ∷ [])) no_stmt) no_case)) no_stmt) no_stmt))))
    ([])

abbrev pub SelectCases : Type 0
SelectCases = Comes select_cases ([]) 100 (ended ((chars (108 ∷ 111 ∷ 119 ∷ []) ∷ []) ∷ (chars (102 ∷ 111 ∷ 117 ∷ 114 ∷ []) ∷
    []) ∷ (chars (115 ∷ 111 ∷ 109 ∷ 101 ∷ []) ∷ []) ∷ (chars (115 ∷ 111 ∷ 109 ∷ 101 ∷ []) ∷ []) ∷ (chars (115 ∷ 111 ∷ 109 ∷
    101 ∷ []) ∷ []) ∷ (chars (101 ∷ 108 ∷ 115 ∷ 101 ∷ []) ∷ []) ∷ (chars (115 ∷ 97 ∷ 109 ∷ 101 ∷ []) ∷ []) ∷ (chars (121 ∷
    101 ∷ 115 ∷ []) ∷ []) ∷ []))

--     program p
--     print *, 1
--     stop
--     print *, 2
--     end
unfoldable pub stop_ends : Program
stop_ends = program
    ([])
    (procedure 1 false false false
    ([])
    None
    (stmt (Print 2 ((int 1) ∷ [])) (stmt (Stop 3) (stmt (Print 4 ((int 2) ∷ [])) no_stmt))))
    ([])

abbrev pub StopEnds : Type 0
StopEnds = Comes stop_ends ([]) 100 (ended ((num 1 ∷ []) ∷ []))

--     program p
--     integer :: i
--     do i = 1, 3
--       print *, i
--     end do
--     end
unfoldable pub turns_suffice : Program
turns_suffice = program
    ([])
    (procedure 1 false false false
    (entity 2 declared.Integer Scalars role.Own None ∷ [])
    None
    (stmt (Do 3 0 (int 1) (int 3) Absent (stmt (Print 4 ((typed (ints 0) (Named (at 0 Whole AllOf))) ∷ [])) no_stmt))
    no_stmt))
    ([])

abbrev pub TurnsSuffice : Type 0
TurnsSuffice = Comes turns_suffice ([]) 3 (ended ((num 1 ∷ []) ∷ (num 2 ∷ []) ∷ (num 3 ∷ []) ∷ []))

--     program p
--     integer :: i
--     i = 0
--     do while (i < 2)
--       i = i + 1
--     end do
--     print *, i
--     end
unfoldable pub while_may_end_without_turn : Program
while_may_end_without_turn = program
    ([])
    (procedure 1 false false false
    (entity 2 declared.Integer Scalars role.Own None ∷ [])
    None
    (stmt (Assigns (assign 3 (target (ints 0) (at 0 Whole AllOf)) (int 0))) (stmt (While 4 (typed (logs 0) (Binary
    binary.Less (typed (ints 0) (Named (at 0 Whole AllOf))) (int 2))) (stmt (Assigns (assign 5 (target (ints 0) (at 0 Whole
    AllOf)) (typed (ints 0) (Binary binary.Add (typed (ints 0) (Named (at 0 Whole AllOf))) (int 1))))) no_stmt)) (stmt
    (Print 7 ((typed (ints 0) (Named (at 0 Whole AllOf))) ∷ [])) no_stmt))))
    ([])

abbrev pub WhileMayEndWithoutTurn : Type 0
WhileMayEndWithoutTurn = Comes while_may_end_without_turn ([]) 2 (ended ((num 2 ∷ []) ∷ []))

--     program p
--     do
--       print *, 7
--     end do
--     end
unfoldable pub endless_loop_goes_on : Program
endless_loop_goes_on = program
    ([])
    (procedure 1 false false false
    ([])
    None
    (stmt (Forever 2 (stmt (Print 3 ((int 7) ∷ [])) no_stmt)) no_stmt))
    ([])

abbrev pub EndlessLoopGoesOn : Type 0
EndlessLoopGoesOn = Comes endless_loop_goes_on ([]) 3 (going ((num 7 ∷ []) ∷ (num 7 ∷ []) ∷ (num 7 ∷ []) ∷ []))
