-- Small sources whose units are settled and lowered, with what their nests come to; and two that are not.
use Rattle.std.specs.Prelude.{◌≡◌, ℕ, pos, neg_ℤ, true, false, Option, Some, None, List, [], ◌∷◌}
use Rattle.a95_base.specs.declared.fault.FaultKind.TheVariants as fault
use Rattle.a95_base.specs.declared.scalar.Scalar.{Scalar}
use Rattle.a95_base.specs.declared.scalar.Scalar.TheVariants as scalar
use Rattle.a95_base.specs.Outcome.{Run}
use Rattle.f95_unit.specs.declared.operation.BinaryOp.{BinaryOp}
use Rattle.f95_unit.specs.declared.operation.BinaryOp.TheVariants as binary
use Rattle.f95_unit.specs.declared.operation.Elemental.TheVariants as elemental
use Rattle.f95_unit.specs.declared.operation.Inquiry.TheVariants as inquiry
use Rattle.f95_unit.specs.declared.operation.UnaryOp.TheVariants as unary
use Rattle.f95_unit.specs.declared.stmt.Range.TheVariants as range
use Rattle.f95_unit.specs.declared.unit.DeclaredType.{DeclaredType}
use Rattle.f95_unit.specs.declared.unit.DeclaredType.TheVariants as declared
use Rattle.f95_unit.specs.declared.unit.Length.TheVariants as long
use Rattle.f95_unit.specs.declared.unit.Role.TheVariants as role
use Rattle.f95_unit.specs.Plain.{Expr, typed, Named, Unary, Binary, Elementwise, Trim, Asked, Name, at, Whole, AllOf, Absent}
use Rattle.f95_unit.specs.Plain.{Given}
use Rattle.f95_unit.specs.Plain.{no_argument, argument, Stmt, Assigns, Print, If, Select, Do, While, Forever, Exit, Cycle, Stop}
use Rattle.f95_unit.specs.Plain.{Stmts}
use Rattle.f95_unit.specs.Plain.{no_stmt, stmt, no_branch, branch, no_case, case, Scalars, Explicit, Entity, Program}
use Rattle.array_meaning.specs.Build.{ints, logs, texts, int, log, text, target, assign, span, entity, procedure, program}
use Rattle.nest_tree.specs.Build.{num, ended, faulted, going}
use Rattle.nest_tree.specs.Run.{End, nest_run}
use Rattle.control_lower.specs.Units.{lowered_unit}
use Rattle.control_lower.specs.Limits.{IsWithinLimits}
use Rattle.control_lower.specs.Lowers.{lowers_unit}
use Rattle.control_lower.specs.Settled.{is_settled}

-- a unit that is lowered: how its nests run on an input within so many turns
pub record Runs (unit : Program) (turns : ℕ) (run : Run End) : Type 0 where
  pub settled : is_settled unit ≡ true
  pub lowers : lowers_unit unit ≡ true
  pub small : IsWithinLimits unit
  pub runs : nest_run (lowered_unit unit) [] turns ≡ run

-- ---- short words

-- the INTEGER variable with a number, and the text variable of so many bytes
abbrev pub var : ℕ → Expr
var n = typed (ints 0) (Named (at n Whole AllOf))

abbrev pub text_var : ℕ → ℕ → Expr
text_var len n = typed (texts len 0) (Named (at n Whole AllOf))

abbrev pub two : BinaryOp → Expr → Expr → Expr
two op e g = typed (ints 0) (Binary op e g)

abbrev pub compare : BinaryOp → Expr → Expr → Expr
compare op e g = typed (logs 0) (Binary op e g)

abbrev pub minus : Expr → Expr
minus e = typed (ints 0) (Unary unary.Minus e)

abbrev pub set : ℕ → ℕ → Expr → Stmt
set line n e = Assigns (assign line (target (ints 0) (at n Whole AllOf)) e)

abbrev pub print_one : ℕ → Expr → Stmt
print_one line e = Print line (e ∷ [])

abbrev pub list_of : List Stmt → Stmts
list_of [] = no_stmt
list_of (s ∷ more) = stmt s (list_of more)

abbrev pub scalar_entity : ℕ → DeclaredType → Option Expr → Entity
scalar_entity line of initial = entity line of Scalars role.Own initial

abbrev pub integers : List Entity
integers = scalar_entity 2 declared.Integer None ∷ scalar_entity 2 declared.Integer None ∷ []

abbrev pub main_of : List Scalar → List Entity → List Stmt → Program
main_of constants entities body = program constants (procedure 1 false false false entities None (list_of body)) []

-- ---- values

--     integer :: i = 2147483647, k
--     k = i + 1
--     print *, i, k
unfoldable pub initial_value_wraps : Program
initial_value_wraps = main_of [] (scalar_entity 2 declared.Integer (Some (int 2147483647)) ∷ scalar_entity 2 declared.Integer None
    ∷ [])
    (set 3 1 (two binary.Add (var 0) (int 1)) ∷ Print 4 (var 0 ∷ var 1 ∷ []) ∷ [])

abbrev pub InitialValueWraps : Type 0
InitialValueWraps = Runs initial_value_wraps 0 (ended ((num 2147483647 ∷ scalar.Int (neg_ℤ (pos 2147483648)) ∷ []) ∷ []))

--     character(3) :: c
--     c = 'a'
--     print *, c, len(c), trim(c) // 'b'
unfoldable pub text_padded : Program
text_padded = main_of [] (scalar_entity 2 (declared.Character (long.Fixed 3)) None ∷ [])
    (Assigns (assign 3 (target (texts 3 0) (at 0 Whole AllOf)) (text 1 (97 ∷ []))) ∷
    Print 4 (text_var 3 0 ∷ typed (ints 0) (Asked inquiry.Len None (Name 0)) ∷
    typed (texts 2 0) (Binary binary.Concat (typed (texts 1 0) (Trim (text_var 3 0))) (text 1 (98 ∷ []))) ∷ []) ∷ [])

abbrev pub TextPadded : Type 0
TextPadded = Runs text_padded 0 (ended ((scalar.Text (97 ∷ 32 ∷ 32 ∷ []) ∷ num 3 ∷ scalar.Text (97 ∷ 98 ∷ []) ∷ []) ∷ []))

--     integer :: i, k
--     k = max(3, i, mod(7, 4) + 2)
--     print *, k
--     print *, mod(k, i)
unfoldable pub functions_and_a_fault : Program
functions_and_a_fault = main_of [] integers
    (set 3 1 (typed (ints 0) (Elementwise elemental.Max (argument 0 (int 3) (argument 1 (var 0)
    (argument 2 (two binary.Add (typed (ints 0) (Elementwise elemental.Mod (argument 0 (int 7) (argument 1 (int 4) no_argument))))
    (int 2)) no_argument))))) ∷
    print_one 4 (var 1) ∷
    print_one 5 (typed (ints 0) (Elementwise elemental.Mod (argument 0 (var 1) (argument 1 (var 0) no_argument)))) ∷ [])

abbrev pub FunctionsAndAFault : Type 0
FunctionsAndAFault = Runs functions_and_a_fault 0 (faulted fault.ZeroDivide 5 ((num 5 ∷ []) ∷ []))

-- ---- branches

--     do i = -1, 1
--       if (i < 0) then
--         print *, 1
--       else if (i == 0) then
--         print *, 2
--       else
--         print *, 3
--       end if
--     end do
unfoldable pub one_branch_of_three : Program
one_branch_of_three = main_of [] integers
    (Do 3 0 (minus (int 1)) (int 1) Absent (list_of (If
    (branch 4 (compare binary.Less (var 0) (int 0)) (list_of (print_one 5 (int 1) ∷ []))
    (branch 6 (compare binary.Equal (var 0) (int 0)) (list_of (print_one 7 (int 2) ∷ [])) no_branch))
    (list_of (print_one 9 (int 3) ∷ [])) ∷ [])) ∷ [])

abbrev pub OneBranchOfThree : Type 0
OneBranchOfThree = Runs one_branch_of_three 3 (ended ((num 1 ∷ []) ∷ (num 2 ∷ []) ∷ (num 3 ∷ []) ∷ []))

--     if (i == 0) then
--       i = 1
--     else if (1 / (i - 1) == 0) then
--       print *, 2
--     end if
--     print *, i
unfoldable pub later_conditions_unasked : Program
later_conditions_unasked = main_of [] integers
    (If (branch 3 (compare binary.Equal (var 0) (int 0)) (list_of (set 4 0 (int 1) ∷ []))
    (branch 5 (compare binary.Equal (two binary.Divide (int 1) (two binary.Subtract (var 0) (int 1))) (int 0))
    (list_of (print_one 6 (int 2) ∷ [])) no_branch))
    no_stmt ∷ print_one 8 (var 0) ∷ [])

abbrev pub LaterConditionsUnasked : Type 0
LaterConditionsUnasked = Runs later_conditions_unasked 0 (ended ((num 1 ∷ []) ∷ []))

--     do i = 1, 4
--       select case (i * i)
--       case (4)
--         print *, 1
--       case (9:10, 1)
--         print *, 2
--       case default
--         print *, 3
--       end select
--     end do
unfoldable pub first_case_that_fits : Program
first_case_that_fits = main_of (num 4 ∷ num 9 ∷ num 10 ∷ num 1 ∷ []) integers
    (Do 3 0 (int 1) (int 4) Absent (list_of (Select 4 (two binary.Multiply (var 0) (var 0))
    (case (range.One 0 ∷ []) (list_of (print_one 6 (int 1) ∷ []))
    (case (range.Between 1 2 ∷ range.One 3 ∷ []) (list_of (print_one 8 (int 2) ∷ [])) no_case))
    (list_of (print_one 10 (int 3) ∷ [])) ∷ [])) ∷ [])

abbrev pub FirstCaseThatFits : Type 0
FirstCaseThatFits = Runs first_case_that_fits 4 (ended ((num 2 ∷ []) ∷ (num 1 ∷ []) ∷ (num 2 ∷ []) ∷ (num 3 ∷ []) ∷ []))

--     select case (i < 1)
--     case (.false.)
--       print *, 1
--     case (.true.)
--       print *, 2
--     end select
unfoldable pub case_of_a_truth : Program
case_of_a_truth = main_of (scalar.Log false ∷ scalar.Log true ∷ []) integers
    (Select 3 (compare binary.Less (var 0) (int 1)) (case (range.One 0 ∷ []) (list_of (print_one 5 (int 1) ∷ []))
    (case (range.One 1 ∷ []) (list_of (print_one 7 (int 2) ∷ [])) no_case)) no_stmt ∷ [])

abbrev pub CaseOfATruth : Type 0
CaseOfATruth = Runs case_of_a_truth 0 (ended ((num 2 ∷ []) ∷ []))

-- ---- loops

--     do i = 10, 1, -4
--       k = k + i
--       i = 0
--     end do
--     print *, i, k
unfoldable pub count_is_fixed : Program
count_is_fixed = main_of [] integers
    (Do 3 0 (int 10) (int 1) (Given (minus (int 4))) (list_of (set 4 1 (two binary.Add (var 1) (var 0)) ∷ set 5 0 (int 0) ∷ [])) ∷
    Print 7 (var 0 ∷ var 1 ∷ []) ∷ [])

abbrev pub CountIsFixed : Type 0
CountIsFixed = Runs count_is_fixed 3 (ended ((scalar.Int (neg_ℤ (pos 2)) ∷ num 18 ∷ []) ∷ []))

abbrev pub CountIsFixedWaits : Type 0
CountIsFixedWaits = Runs count_is_fixed 2 (going [])

--     do i = 1, 2, k
unfoldable pub step_of_zero : Program
step_of_zero = main_of [] integers (print_one 3 (int 1) ∷ Do 4 0 (int 1) (int 2) (Given (var 1)) no_stmt ∷ [])

abbrev pub StepOfZero : Type 0
StepOfZero = Runs step_of_zero 9 (faulted fault.ZeroStep 4 ((num 1 ∷ []) ∷ []))

--     outer: do i = 1, 3
--       do k = 1, 3
--         if (k == 2) cycle outer
--         if (i == 2) exit outer
--         print *, i
--       end do
--     end do outer
--     print *, i, k
unfoldable pub outer_loop_left : Program
outer_loop_left = main_of [] integers
    (Do 3 0 (int 1) (int 3) Absent (list_of (Do 4 1 (int 1) (int 3) Absent (list_of
    (If (branch 5 (compare binary.Equal (var 1) (int 2)) (list_of (Cycle 5 1 ∷ [])) no_branch) no_stmt ∷
    If (branch 6 (compare binary.Equal (var 0) (int 2)) (list_of (Exit 6 1 ∷ [])) no_branch) no_stmt ∷ print_one 7 (var 0) ∷ []))
    ∷ [])) ∷
    Print 10 (var 0 ∷ var 1 ∷ []) ∷ [])

abbrev pub OuterLoopLeft : Type 0
OuterLoopLeft = Runs outer_loop_left 9 (ended ((num 1 ∷ []) ∷ (num 2 ∷ num 1 ∷ []) ∷ []))

--     do while (i < 2)
--       i = i + 1
--     end do
--     print *, i
--     do
--       print *, k
--       stop
--     end do
unfoldable pub while_and_stop : Program
while_and_stop = main_of [] integers
    (While 3 (compare binary.Less (var 0) (int 2)) (list_of (set 4 0 (two binary.Add (var 0) (int 1)) ∷ [])) ∷ print_one 6 (var 0) ∷
    Forever 7 (list_of (print_one 8 (var 1) ∷ Stop 9 ∷ [])) ∷ [])

abbrev pub WhileAndStop : Type 0
WhileAndStop = Runs while_and_stop 3 (ended ((num 2 ∷ []) ∷ (num 0 ∷ []) ∷ []))

abbrev pub WhileAndStopWaits : Type 0
WhileAndStopWaits = Runs while_and_stop 2 (going ((num 2 ∷ []) ∷ []))

-- ---- what is not lowered, and what is not settled

--     integer :: a(3)
unfoldable pub array_declared : Program
array_declared = main_of [] (entity 2 declared.Integer (Explicit (span Absent (int 3) ∷ [])) role.Own None ∷ []) []

abbrev pub ArrayNotLowered : Type 0
ArrayNotLowered = lowers_unit array_declared ≡ false

--     a truth as an INTEGER's value
unfoldable pub truth_stored : Program
truth_stored = main_of [] integers (set 3 0 (log true) ∷ [])

abbrev pub TruthNotSettled : Type 0
TruthNotSettled = is_settled truth_stored ≡ false

--     EXIT outside of any DO
unfoldable pub no_loop_left : Program
no_loop_left = main_of [] integers (Exit 3 0 ∷ [])

abbrev pub NoLoopLeft : Type 0
NoLoopLeft = is_settled no_loop_left ≡ false
