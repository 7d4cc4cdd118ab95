-- The depth of calls.
use Rattle.std.specs.Prelude.{true, false, None, [], ◌∷◌}
use Rattle.a95_base.specs.declared.fault.FaultKind.TheVariants as fault
use Rattle.f95_unit.specs.declared.operation.BinaryOp.TheVariants as binary
use Rattle.f95_unit.specs.declared.unit.DeclaredType.TheVariants as declared
use Rattle.f95_unit.specs.declared.unit.Role.TheVariants as role
use Rattle.f95_unit.specs.declared.unit.Intent.TheVariants as intent
use Rattle.f95_unit.specs.Plain.{typed, Named, Binary, at, Whole, Absent, AllOf, no_argument, argument, call, Calls, If, no_stmt}
use Rattle.f95_unit.specs.Plain.{stmt, no_branch, branch, Scalars, Explicit, Assumed, Program}
use Rattle.array_meaning.specs.Build.{ints, logs, int, span, entity, procedure, program, faulted, going, Comes}

--     program p
--     call s
--     contains
--     recursive subroutine s
--     call s
--     end subroutine
--     end
unfoldable pub calls_too_deep : Program
calls_too_deep = program
    ([])
    (procedure 1 false false false
    ([])
    None
    (stmt (Calls 2 (call 0 no_argument)) no_stmt))
    ((procedure 4 true false false
    ([])
    None
    (stmt (Calls 5 (call 0 no_argument)) no_stmt)) ∷ [])

abbrev pub CallsTooDeep : Type 0
CallsTooDeep = Comes calls_too_deep ([]) 2000 (faulted fault.CallDepth 5 ([]))

--     program p
--     call s
--     contains
--     recursive subroutine s
--     call s
--     end subroutine
--     end
unfoldable pub calls_too_deep_before_a_turn : Program
calls_too_deep_before_a_turn = program
    ([])
    (procedure 1 false false false
    ([])
    None
    (stmt (Calls 2 (call 0 no_argument)) no_stmt))
    ((procedure 4 true false false
    ([])
    None
    (stmt (Calls 5 (call 0 no_argument)) no_stmt)) ∷ [])

abbrev pub CallsTooDeepBeforeATurn : Type 0
CallsTooDeepBeforeATurn = Comes calls_too_deep_before_a_turn ([]) 1000 (faulted fault.CallDepth 5 ([]))

--     program p
--     call s
--     contains
--     recursive subroutine s
--     call s
--     end subroutine
--     end
unfoldable pub turns_run_out_before_depth : Program
turns_run_out_before_depth = program
    ([])
    (procedure 1 false false false
    ([])
    None
    (stmt (Calls 2 (call 0 no_argument)) no_stmt))
    ((procedure 4 true false false
    ([])
    None
    (stmt (Calls 5 (call 0 no_argument)) no_stmt)) ∷ [])

abbrev pub TurnsRunOutBeforeDepth : Type 0
TurnsRunOutBeforeDepth = Comes turns_run_out_before_depth ([]) 999 (going ([]))

--     program p
--     integer :: a(1), b(1)
--     call s(a, b, 1)
--     contains
--     recursive subroutine s(x, y, n)
--     integer, intent(inout) :: x(:)
--     integer, intent(in) :: y(:), n
--     if (n < 1000) then
--       call s(x, y, n + 1)
--     else
--       call s(x, x, n)
--     end if
--     end subroutine
--     end
unfoldable pub overlap_before_depth : Program
overlap_before_depth = program
    ([])
    (procedure 1 false false false
    (entity 2 declared.Integer (Explicit (span Absent (int 1) ∷ [])) role.Own None ∷ entity 2 declared.Integer (Explicit
    (span Absent (int 1) ∷ [])) role.Own None ∷ [])
    None
    (stmt (Calls 3 (call 0 (argument 0 (typed (ints 1) (Named (at 0 Whole AllOf))) (argument 1 (typed (ints 1) (Named (at 1
    Whole AllOf))) (argument 2 (int 1) no_argument))))) no_stmt))
    ((procedure 5 true false false
    (entity 6 declared.Integer (Assumed (Absent ∷ [])) (role.Dummy 0 intent.InOut) None ∷ entity 7 declared.Integer (Assumed
    (Absent ∷ [])) (role.Dummy 1 intent.In) None ∷ entity 7 declared.Integer Scalars (role.Dummy 2 intent.In) None ∷ [])
    None
    (stmt (If (branch 8 (typed (logs 0) (Binary binary.Less (typed (ints 0) (Named (at 2 Whole AllOf))) (int 1000))) (stmt
    (Calls 9 (call 0 (argument 0 (typed (ints 1) (Named (at 0 Whole AllOf))) (argument 1 (typed (ints 1) (Named (at 1 Whole
    AllOf))) (argument 2 (typed (ints 0) (Binary binary.Add (typed (ints 0) (Named (at 2 Whole AllOf))) (int 1)))
    no_argument))))) no_stmt) no_branch) (stmt (Calls 11 (call 0 (argument 0 (typed (ints 1) (Named (at 0 Whole AllOf)))
    (argument 1 (typed (ints 1) (Named (at 0 Whole AllOf))) (argument 2 (typed (ints 0) (Named (at 2 Whole AllOf)))
    no_argument))))) no_stmt)) no_stmt)) ∷ [])

abbrev pub OverlapBeforeDepth : Type 0
OverlapBeforeDepth = Comes overlap_before_depth ([]) 2000 (faulted fault.Overlap 11 ([]))
