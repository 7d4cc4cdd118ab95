-- Faults, and what comes before what.
use Rattle.std.specs.Prelude.{true, false, Some, None, [], ◌∷◌}
use Rattle.a95_base.specs.declared.fault.FaultKind.TheVariants as fault
use Rattle.f95_unit.specs.declared.operation.BinaryOp.TheVariants as binary
use Rattle.f95_unit.specs.declared.operation.Elemental.TheVariants as elemental
use Rattle.f95_unit.specs.declared.operation.Reduction.TheVariants as reduction
use Rattle.f95_unit.specs.declared.unit.DeclaredType.TheVariants as declared
use Rattle.f95_unit.specs.declared.unit.Length.TheVariants as long
use Rattle.f95_unit.specs.declared.unit.Role.TheVariants as role
use Rattle.f95_unit.specs.declared.unit.Intent.TheVariants as intent
use Rattle.f95_unit.specs.Plain.{typed, Named, Binary, Elementwise, Reduced, Called, at, Whole, Subscripted, no_subscript}
use Rattle.f95_unit.specs.Plain.{subscript, One, SubscriptTriplet, Absent, Given, AllOf, BytesOf, no_argument, argument, call}
use Rattle.f95_unit.specs.Plain.{masked, no_masked, assigning, no_other, Assigns, Masks, Print, no_stmt, stmt, Scalars, Explicit}
use Rattle.f95_unit.specs.Plain.{Program}
use Rattle.array_meaning.specs.Build.{ints, logs, some_texts, int, target, assign, span, entity, procedure, program, num, ended}
use Rattle.array_meaning.specs.Build.{faulted, Comes}

--     program p
--     integer :: a(2,3), b(2,2), n
--     n = 2
--     print *, matmul(a(:,1:n), b(1:1,:))
--     end
unfoldable pub matrices_differ : Program
matrices_differ = program
    ([])
    (procedure 1 false false false
    (entity 2 declared.Integer (Explicit (span Absent (int 2) ∷ span Absent (int 3) ∷ [])) role.Own None ∷ entity 2
    declared.Integer (Explicit (span Absent (int 2) ∷ span Absent (int 2) ∷ [])) role.Own None ∷ entity 2 declared.Integer
    Scalars role.Own None ∷ [])
    None
    (stmt (Assigns (assign 3 (target (ints 0) (at 2 Whole AllOf)) (int 2))) (stmt (Print 4 ((typed (ints 2) (Reduced
    reduction.Matmul None (argument 0 (typed (ints 2) (Named (at 0 (Subscripted (subscript (SubscriptTriplet Absent Absent Absent)
    (subscript (SubscriptTriplet (Given (int 1)) (Given (typed (ints 0) (Named (at 2 Whole AllOf)))) Absent) no_subscript)))
    AllOf)))
    (argument 1 (typed (ints 2) (Named (at 1 (Subscripted (subscript (SubscriptTriplet (Given (int 1)) (Given (int 1)) Absent)
    (subscript (SubscriptTriplet Absent Absent Absent) no_subscript))) AllOf))) no_argument)))) ∷ [])) no_stmt)))
    ([])

abbrev pub MatricesDiffer : Type 0
MatricesDiffer = Comes matrices_differ ([]) 100 (faulted fault.Shape 4 ([]))

--     program p
--     integer :: a(3), i
--     a(4 + i) = 1 / i
--     end
unfoldable pub right_side_first : Program
right_side_first = program
    ([])
    (procedure 1 false false false
    (entity 2 declared.Integer (Explicit (span Absent (int 3) ∷ [])) role.Own None ∷ entity 2 declared.Integer Scalars
    role.Own None ∷ [])
    None
    (stmt (Assigns (assign 3 (target (ints 0) (at 0 (Subscripted (subscript (One (typed (ints 0) (Binary binary.Add (int 4)
    (typed (ints 0) (Named (at 1 Whole AllOf)))))) no_subscript)) AllOf)) (typed (ints 0) (Binary binary.Divide (int 1)
    (typed (ints 0) (Named (at 1 Whole AllOf))))))) no_stmt))
    ([])

abbrev pub RightSideFirst : Type 0
RightSideFirst = Comes right_side_first ([]) 100 (faulted fault.Bounds 3 ([]))

--     program p
--     integer :: a(2), n
--     where (a > 5) a = mod(1, n)
--     print *, 1
--     end
unfoldable pub scalar_function_is_a_part : Program
scalar_function_is_a_part = program
    ([])
    (procedure 1 false false false
    (entity 2 declared.Integer (Explicit (span Absent (int 2) ∷ [])) role.Own None ∷ entity 2 declared.Integer Scalars
    role.Own None ∷ [])
    None
    (stmt (Masks (masked 3 (typed (logs 1) (Binary binary.Greater (typed (ints 1) (Named (at 0 Whole AllOf))) (int 5)))
    (assigning (assign 3 (target (ints 1) (at 0 Whole AllOf)) (typed (ints 0) (Elementwise elemental.Mod (argument 0 (int
    1) (argument 1 (typed (ints 0) (Named (at 1 Whole AllOf))) no_argument))))) no_masked) no_other)) (stmt (Print 4 ((int
    1) ∷ [])) no_stmt)))
    ([])

abbrev pub ScalarFunctionIsAPart : Type 0
ScalarFunctionIsAPart = Comes scalar_function_is_a_part ([]) 100 (faulted fault.ZeroDivide 3 ([]))

--     program p
--     integer :: a(2), n
--     where (a > 5) a = 1 / n
--     print *, 1
--     end
unfoldable pub masked_division_is_none : Program
masked_division_is_none = program
    ([])
    (procedure 1 false false false
    (entity 2 declared.Integer (Explicit (span Absent (int 2) ∷ [])) role.Own None ∷ entity 2 declared.Integer Scalars
    role.Own None ∷ [])
    None
    (stmt (Masks (masked 3 (typed (logs 1) (Binary binary.Greater (typed (ints 1) (Named (at 0 Whole AllOf))) (int 5)))
    (assigning (assign 3 (target (ints 1) (at 0 Whole AllOf)) (typed (ints 0) (Binary binary.Divide (int 1) (typed (ints 0)
    (Named (at 1 Whole AllOf)))))) no_masked) no_other)) (stmt (Print 4 ((int 1) ∷ [])) no_stmt)))
    ([])

abbrev pub MaskedDivisionIsNone : Type 0
MaskedDivisionIsNone = Comes masked_division_is_none ([]) 100 (ended ((num 1 ∷ []) ∷ []))

--     program p
--     integer :: k(2), i
--     print *, f(1/i, k(9 + i))
--     contains
--     pure integer function f(x, y)
--     integer, intent(in) :: x, y
--     f = x + y
--     end function
--     end
unfoldable pub arguments_one_after_the_other : Program
arguments_one_after_the_other = program
    ([])
    (procedure 1 false false false
    (entity 2 declared.Integer (Explicit (span Absent (int 2) ∷ [])) role.Own None ∷ entity 2 declared.Integer Scalars
    role.Own None ∷ [])
    None
    (stmt (Print 3 ((typed (ints 0) (Called (call 0 (argument 0 (typed (ints 0) (Binary binary.Divide (int 1) (typed (ints 0)
    (Named (at 1 Whole AllOf))))) (argument 1 (typed (ints 0) (Named (at 0 (Subscripted (subscript (One (typed (ints 0)
    (Binary binary.Add (int 9) (typed (ints 0) (Named (at 1 Whole AllOf)))))) no_subscript)) AllOf))) no_argument))))) ∷
    [])) no_stmt))
    ((procedure 5 false true false
    (entity 5 declared.Integer Scalars role.Own None ∷ entity 6 declared.Integer Scalars (role.Dummy 0 intent.In) None ∷
    entity 6 declared.Integer Scalars (role.Dummy 1 intent.In) None ∷ [])
    (Some 0)
    (stmt (Assigns (assign 7 (target (ints 0) (at 0 Whole AllOf)) (typed (ints 0) (Binary binary.Add (typed (ints 0) (Named
    (at 1 Whole AllOf))) (typed (ints 0) (Named (at 2 Whole AllOf))))))) no_stmt)) ∷ [])

abbrev pub ArgumentsOneAfterTheOther : Type 0
ArgumentsOneAfterTheOther = Comes arguments_one_after_the_other ([]) 100 (faulted fault.ZeroDivide 3 ([]))

--     program p
--     integer :: i
--     print *, 1
--     print *, 2, 3 / i
--     end
unfoldable pub nothing_printed_before_fault : Program
nothing_printed_before_fault = program
    ([])
    (procedure 1 false false false
    (entity 2 declared.Integer Scalars role.Own None ∷ [])
    None
    (stmt (Print 3 ((int 1) ∷ [])) (stmt (Print 4 ((int 2) ∷ (typed (ints 0) (Binary binary.Divide (int 3) (typed (ints 0)
    (Named (at 0 Whole AllOf))))) ∷ [])) no_stmt)))
    ([])

abbrev pub NothingPrintedBeforeFault : Type 0
NothingPrintedBeforeFault = Comes nothing_printed_before_fault ([]) 100 (faulted fault.ZeroDivide 4 ((num 1 ∷ []) ∷ []))

--     program p
--     integer :: b(2,2), k(2), n
--     print *, b(1:2:n, k(9))
--     end
unfoldable pub subscripts_before_stride : Program
subscripts_before_stride = program
    ([])
    (procedure 1 false false false
    (entity 2 declared.Integer (Explicit (span Absent (int 2) ∷ span Absent (int 2) ∷ [])) role.Own None ∷ entity 2
    declared.Integer (Explicit (span Absent (int 2) ∷ [])) role.Own None ∷ entity 2 declared.Integer Scalars role.Own None
    ∷ [])
    None
    (stmt (Print 3 ((typed (ints 1) (Named (at 0 (Subscripted (subscript (SubscriptTriplet (Given (int 1)) (Given (int 2)) (Given
    (typed
    (ints 0) (Named (at 2 Whole AllOf))))) (subscript (One (typed (ints 0) (Named (at 1 (Subscripted (subscript (One (int
    9)) no_subscript)) AllOf)))) no_subscript))) AllOf))) ∷ [])) no_stmt))
    ([])

abbrev pub SubscriptsBeforeStride : Type 0
SubscriptsBeforeStride = Comes subscripts_before_stride ([]) 100 (faulted fault.Bounds 3 ([]))

--     program p
--     character(3) :: c(2)
--     integer :: k(2), n
--     print *, c(1:2:n)(k(9):)
--     end
unfoldable pub substring_before_stride : Program
substring_before_stride = program
    ([])
    (procedure 1 false false false
    (entity 2 (declared.Character (long.Fixed 3)) (Explicit (span Absent (int 2) ∷ [])) role.Own None ∷ entity 3
    declared.Integer (Explicit (span Absent (int 2) ∷ [])) role.Own None ∷ entity 3 declared.Integer Scalars role.Own None
    ∷ [])
    None
    (stmt (Print 4 ((typed (some_texts 1) (Named (at 0 (Subscripted (subscript (SubscriptTriplet (Given (int 1)) (Given (int 2))
    (Given
    (typed (ints 0) (Named (at 2 Whole AllOf))))) no_subscript)) (BytesOf (Given (typed (ints 0) (Named (at 1 (Subscripted
    (subscript (One (int 9)) no_subscript)) AllOf)))) Absent)))) ∷ [])) no_stmt))
    ([])

abbrev pub SubstringBeforeStride : Type 0
SubstringBeforeStride = Comes substring_before_stride ([]) 100 (faulted fault.Bounds 4 ([]))

--     program p
--     integer :: a(3), n
--     print *, a(9:12:n)
--     end
unfoldable pub stride_before_bounds : Program
stride_before_bounds = program
    ([])
    (procedure 1 false false false
    (entity 2 declared.Integer (Explicit (span Absent (int 3) ∷ [])) role.Own None ∷ entity 2 declared.Integer Scalars
    role.Own None ∷ [])
    None
    (stmt (Print 3 ((typed (ints 1) (Named (at 0 (Subscripted (subscript (SubscriptTriplet (Given (int 9)) (Given (int 12)) (Given
    (typed (ints 0) (Named (at 1 Whole AllOf))))) no_subscript)) AllOf))) ∷ [])) no_stmt))
    ([])

abbrev pub StrideBeforeBounds : Type 0
StrideBeforeBounds = Comes stride_before_bounds ([]) 100 (faulted fault.ZeroStep 3 ([]))
