-- Choices, loops, turns, allocation, and operators of LOGICAL and CHARACTER.
use Rattle.std.specs.Prelude.{pos, neg_ℤ, true, false, Some, None, [], ◌∷◌}
use Rattle.a95_base.specs.declared.fault.FaultKind.TheVariants as fault
use Rattle.a95_base.specs.declared.scalar.Scalar.TheVariants as scalar
use Rattle.f95_unit.specs.declared.operation.UnaryOp.TheVariants as unary
use Rattle.f95_unit.specs.declared.operation.BinaryOp.TheVariants as binary
use Rattle.f95_unit.specs.declared.operation.Inquiry.TheVariants as inquiry
use Rattle.f95_unit.specs.declared.stmt.Range.TheVariants as range
use Rattle.f95_unit.specs.declared.unit.DeclaredType.TheVariants as declared
use Rattle.f95_unit.specs.declared.unit.Role.TheVariants as role
use Rattle.f95_unit.specs.Plain.{typed, Named, Unary, Binary, Constructor, Asked, at, Whole, Subscripted, no_subscript, subscript}
use Rattle.f95_unit.specs.Plain.{One, SubscriptTriplet, Absent, Given, AllOf, no_item, value, loop, Name, Assigns, Allocate}
use Rattle.f95_unit.specs.Plain.{Deallocate, Print, If, Select, Do, no_stmt, stmt, no_branch, branch, no_case, case, Scalars}
use Rattle.f95_unit.specs.Plain.{Deferred, Program}
use Rattle.array_meaning.specs.Build.{ints, logs, texts, int, log, text, index_at, target, assign, span, allocation, entity}
use Rattle.array_meaning.specs.Build.{procedure, program, num, neg, chars, truth, ended, faulted, going, Comes}

--     program p
--     integer, allocatable :: a(:,:)
--     print *, allocated(a)
--     allocate(a(0:1,2))
--     a(:,1) = 5
--     print *, allocated(a), a, lbound(a), ubound(a, 1)
--     deallocate(a)
--     print *, allocated(a)
--     end
unfoldable pub allocate_and_free : Program
allocate_and_free = program
    ([])
    (procedure 1 false false false
    (entity 2 declared.Integer (Deferred 2) role.Own None ∷ [])
    None
    (stmt (Print 3 ((typed (logs 0) (Asked inquiry.Allocated None (Name 0))) ∷ [])) (stmt (Allocate 4 (allocation 0 (span
    (Given (int 0)) (int 1) ∷ span Absent (int 2) ∷ []) ∷ [])) (stmt (Assigns (assign 5 (target (ints 1) (at 0 (Subscripted
    (subscript (SubscriptTriplet Absent Absent Absent) (subscript (One (int 1)) no_subscript))) AllOf)) (int 5))) (stmt (Print 6
    ((typed (logs 0) (Asked inquiry.Allocated None (Name 0))) ∷ (typed (ints 2) (Named (at 0 Whole AllOf))) ∷ (typed (ints
    1) (Asked inquiry.Lbound None (Name 0))) ∷ (typed (ints 0) (Asked inquiry.Ubound (Some 1) (Name 0))) ∷ [])) (stmt
    (Deallocate 7 (0 ∷ [])) (stmt (Print 8 ((typed (logs 0) (Asked inquiry.Allocated None (Name 0))) ∷ [])) no_stmt)))))))
    ([])

abbrev pub AllocateAndFree : Type 0
AllocateAndFree = Comes allocate_and_free ([]) 100 (ended ((truth false ∷ []) ∷ (truth true ∷ num 5 ∷ num 5 ∷ num 0 ∷ num 0 ∷
    num 0 ∷ num 1 ∷ num 1 ∷ []) ∷ (truth false ∷ []) ∷ []))

--     program p
--     logical :: t, f
--     t = .true.
--     f = .not. t
--     print *, t .and. f, t .or. f, t .eqv. f, t .neqv. f, .not. f .and. t
--     end
unfoldable pub logical_operators : Program
logical_operators = program
    ([])
    (procedure 1 false false false
    (entity 2 declared.Logical Scalars role.Own None ∷ entity 2 declared.Logical Scalars role.Own None ∷ [])
    None
    (stmt (Assigns (assign 3 (target (logs 0) (at 0 Whole AllOf)) (log true))) (stmt (Assigns (assign 4 (target (logs 0) (at
    1 Whole AllOf)) (typed (logs 0) (Unary unary.Not (typed (logs 0) (Named (at 0 Whole AllOf))))))) (stmt (Print 5 ((typed
    (logs 0) (Binary binary.And (typed (logs 0) (Named (at 0 Whole AllOf))) (typed (logs 0) (Named (at 1 Whole AllOf))))) ∷
    (typed (logs 0) (Binary binary.Or (typed (logs 0) (Named (at 0 Whole AllOf))) (typed (logs 0) (Named (at 1 Whole
    AllOf))))) ∷ (typed (logs 0) (Binary binary.Equivalent (typed (logs 0) (Named (at 0 Whole AllOf))) (typed (logs 0)
    (Named (at 1 Whole AllOf))))) ∷ (typed (logs 0) (Binary binary.NotEquivalent (typed (logs 0) (Named (at 0 Whole
    AllOf))) (typed (logs 0) (Named (at 1 Whole AllOf))))) ∷ (typed (logs 0) (Binary binary.And (typed (logs 0) (Unary
    unary.Not (typed (logs 0) (Named (at 1 Whole AllOf))))) (typed (logs 0) (Named (at 0 Whole AllOf))))) ∷ [])) no_stmt))))
    ([])

abbrev pub LogicalOperators : Type 0
LogicalOperators = Comes logical_operators ([]) 100 (ended ((truth false ∷ truth true ∷ truth false ∷ truth true ∷ truth true
    ∷ []) ∷ []))

--     program p
--     print *, 'ab' == 'ab  ', 'a' < 'b', 'abc' > 'abd', 'a' // 'b' // 'c'
--     end
unfoldable pub texts_compared : Program
texts_compared = program
    ([])
    (procedure 1 false false false
    ([])
    None
    (stmt (Print 2 ((typed (logs 0) (Binary binary.Equal (text 2 (97 ∷ 98 ∷ [])) (text 4 (97 ∷ 98 ∷ 32 ∷ 32 ∷ [])))) ∷ (typed
    (logs 0) (Binary binary.Less (text 1 (97 ∷ [])) (text 1 (98 ∷ [])))) ∷ (typed (logs 0) (Binary binary.Greater (text 3
    (97 ∷ 98 ∷ 99 ∷ [])) (text 3 (97 ∷ 98 ∷ 100 ∷ [])))) ∷ (typed (texts 3 0) (Binary binary.Concat (typed (texts 2 0)
    (Binary binary.Concat (text 1 (97 ∷ [])) (text 1 (98 ∷ [])))) (text 1 (99 ∷ [])))) ∷ [])) no_stmt))
    ([])

abbrev pub TextsCompared : Type 0
TextsCompared = Comes texts_compared ([]) 100 (ended ((truth true ∷ truth true ∷ truth false ∷ chars (97 ∷ 98 ∷ 99 ∷ []) ∷
    []) ∷ []))

--     program p
--     integer :: i
--     do i = 2147483646, 2147483647
--     end do
--     print *, i
--     end
unfoldable pub variable_wraps_behind_last_turn : Program
variable_wraps_behind_last_turn = program
    ([])
    (procedure 1 false false false
    (entity 2 declared.Integer Scalars role.Own None ∷ [])
    None
    (stmt (Do 3 0 (int 2147483646) (int 2147483647) Absent no_stmt) (stmt (Print 5 ((typed (ints 0) (Named (at 0 Whole
    AllOf))) ∷ [])) no_stmt)))
    ([])

abbrev pub VariableWrapsBehindLastTurn : Type 0
VariableWrapsBehindLastTurn = Comes variable_wraps_behind_last_turn ([]) 100 (ended ((neg 2147483648 ∷ []) ∷ []))

--     program p
--     integer :: n
--     if (n /= 0 .and. 1/n > 0) print *, 1
--     end
unfoldable pub both_operands_evaluated : Program
both_operands_evaluated = program
    ([])
    (procedure 1 false false false
    (entity 2 declared.Integer Scalars role.Own None ∷ [])
    None
    (stmt (If (branch 3 (typed (logs 0) (Binary binary.And (typed (logs 0) (Binary binary.NotEqual (typed (ints 0) (Named (at
    0 Whole AllOf))) (int 0))) (typed (logs 0) (Binary binary.Greater (typed (ints 0) (Binary binary.Divide (int 1) (typed
    (ints 0) (Named (at 0 Whole AllOf))))) (int 0))))) (stmt (Print 3 ((int 1) ∷ [])) no_stmt) no_branch) no_stmt) no_stmt))
    ([])

abbrev pub BothOperandsEvaluated : Type 0
BothOperandsEvaluated = Comes both_operands_evaluated ([]) 100 (faulted fault.ZeroDivide 3 ([]))

--     program p
--     integer :: n
--     integer, allocatable :: a(:)
--     n = 16777217
--     allocate(a(2), a(n))
--     end
unfoldable pub allocated_too_large_first : Program
allocated_too_large_first = program
    ([])
    (procedure 1 false false false
    (entity 2 declared.Integer Scalars role.Own None ∷ entity 3 declared.Integer (Deferred 1) role.Own None ∷ [])
    None
    (stmt (Assigns (assign 4 (target (ints 0) (at 0 Whole AllOf)) (int 16777217))) (stmt (Allocate 5 (allocation 1 (span
    Absent (int 2) ∷ []) ∷ allocation 1 (span Absent (typed (ints 0) (Named (at 0 Whole AllOf))) ∷ []) ∷ [])) no_stmt)))
    ([])

abbrev pub AllocatedTooLargeFirst : Type 0
AllocatedTooLargeFirst = Comes allocated_too_large_first ([]) 100 (faulted fault.TooLarge 5 ([]))

--     program p
--     integer :: i
--     integer, allocatable :: a(:) = 3
--     print *, 1
--     end
unfoldable pub initial_value_of_allocatable : Program
initial_value_of_allocatable = program
    ([])
    (procedure 1 false false false
    (entity 2 declared.Integer Scalars role.Own None ∷ entity 3 declared.Integer (Deferred 1) role.Own (Some (int 3)) ∷ [])
    None
    (stmt (Print 4 ((int 1) ∷ [])) no_stmt))
    ([])

abbrev pub InitialValueOfAllocatable : Type 0
InitialValueOfAllocatable = Comes initial_value_of_allocatable ([]) 100 (faulted fault.NotAllocated 3 ([]))

--     program p
--     integer :: i
--     print *, 1
--     print *, (/ (i, i = 1, 3) /)
--     end
unfoldable pub turns_of_a_constructor : Program
turns_of_a_constructor = program
    ([])
    (procedure 1 false false false
    (entity 2 declared.Integer Scalars role.Own None ∷ [])
    None
    (stmt (Print 3 ((int 1) ∷ [])) (stmt (Print 4 ((typed (ints 1) (Constructor (loop (value (index_at 0) no_item) (int 1)
    (int 3) Absent no_item))) ∷ [])) no_stmt)))
    ([])

abbrev pub TurnsOfAConstructor : Type 0
TurnsOfAConstructor = Comes turns_of_a_constructor ([]) 2 (going ((num 1 ∷ []) ∷ []))

--     program p
--     integer :: i
--     do i = -3, 1, 2
--       select case (i)
--       case (-1)
--         print *, 'one'
--       case (:-2)
--         print *, 'low'
--       case (0:)
--         print *, 'high'
--       end select
--     end do
--     end
unfoldable pub case_of_negative_numbers : Program
case_of_negative_numbers = program
    (scalar.Int (neg_ℤ (pos 1)) ∷ scalar.Int (neg_ℤ (pos 2)) ∷ scalar.Int (pos 0) ∷ [])
    (procedure 1 false false false
    (entity 2 declared.Integer Scalars role.Own None ∷ [])
    None
    (stmt (Do 3 0 (typed (ints 0) (Unary unary.Minus (int 3))) (int 1) (Given (int 2)) (stmt (Select 4 (typed (ints 0) (Named
    (at 0 Whole AllOf))) (case (range.One 0 ∷ []) (stmt (Print 6 ((text 3 (111 ∷ 110 ∷ 101 ∷ [])) ∷ [])) no_stmt) (case
    (range.UpTo 1 ∷ []) (stmt (Print 8 ((text 3 (108 ∷ 111 ∷ 119 ∷ [])) ∷ [])) no_stmt) (case (range.From 2 ∷ []) (stmt
    (Print 10 ((text 4 (104 ∷ 105 ∷ 103 ∷ 104 ∷ [])) ∷ [])) no_stmt) no_case))) no_stmt) no_stmt)) no_stmt))
    ([])

abbrev pub CaseOfNegativeNumbers : Type 0
CaseOfNegativeNumbers = Comes case_of_negative_numbers ([]) 100 (ended ((chars (108 ∷ 111 ∷ 119 ∷ []) ∷ []) ∷ (chars (111 ∷
    110 ∷ 101 ∷ []) ∷ []) ∷ (chars (104 ∷ 105 ∷ 103 ∷ 104 ∷ []) ∷ []) ∷ []))
