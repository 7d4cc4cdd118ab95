-- Small whole sources.
use Rattle.std.specs.Prelude.{false, Some, None, [], ◌∷◌}
use Rattle.a95_base.specs.declared.fault.FaultKind.TheVariants as fault
use Rattle.f95_unit.specs.declared.operation.UnaryOp.TheVariants as unary
use Rattle.f95_unit.specs.declared.operation.BinaryOp.TheVariants as binary
use Rattle.f95_unit.specs.declared.operation.Inquiry.TheVariants as inquiry
use Rattle.f95_unit.specs.declared.operation.Rearranging.TheVariants as rearranging
use Rattle.f95_unit.specs.declared.unit.DeclaredType.TheVariants as declared
use Rattle.f95_unit.specs.declared.unit.Role.TheVariants as role
use Rattle.f95_unit.specs.declared.unit.Intent.TheVariants as intent
use Rattle.f95_unit.specs.Plain.{typed, Named, Unary, Binary, Constructor, Asked, Rearranged, at, Whole, Subscripted, no_subscript}
use Rattle.f95_unit.specs.Plain.{subscript, SubscriptTriplet, Absent, Given, AllOf, no_item, value, no_argument, argument, Name}
use Rattle.f95_unit.specs.Plain.{call, Assigns, Calls, Print, Read, If, Do, Return, Stop, no_stmt, stmt, no_branch, branch, Scalars}
use Rattle.f95_unit.specs.Plain.{Explicit, Assumed, Program}
use Rattle.array_meaning.specs.Build.{ints, logs, int, target, assign, span, entity, procedure, program, num, ended, faulted, Comes}

--     program p; integer :: a(3); a = (/1,2,3/); print *, pack(a, a > 1), reshape(a, (/2,2/), pad=(/0/)), spread(a, 1, 2); end
unfoldable pub packed_and_padded : Program
packed_and_padded = program
    ([])
    (procedure 1 false false false
    (entity 1 declared.Integer (Explicit (span Absent (int 3) ∷ [])) role.Own None ∷ [])
    None
    (stmt (Assigns (assign 1 (target (ints 1) (at 0 Whole AllOf)) (typed (ints 1) (Constructor (value (int 1) (value (int 2)
    (value (int 3) no_item))))))) (stmt (Print 1 ((typed (ints 1) (Rearranged rearranging.Pack None (argument 0 (typed
    (ints 1) (Named (at 0 Whole AllOf))) (argument 1 (typed (logs 1) (Binary binary.Greater (typed (ints 1) (Named (at 0
    Whole AllOf))) (int 1))) no_argument)))) ∷ (typed (ints 2) (Rearranged rearranging.Reshape None (argument 0 (typed
    (ints 1) (Named (at 0 Whole AllOf))) (argument 1 (typed (ints 1) (Constructor (value (int 2) (value (int 2) no_item))))
    (argument 2 (typed (ints 1) (Constructor (value (int 0) no_item))) no_argument))))) ∷ (typed (ints 2) (Rearranged
    rearranging.Spread (Some 1) (argument 0 (typed (ints 1) (Named (at 0 Whole AllOf))) (argument 2 (int 2) no_argument))))
    ∷ [])) no_stmt)))
    ([])

abbrev pub PackedAndPadded : Type 0
PackedAndPadded = Comes packed_and_padded ([]) 100 (ended ((num 2 ∷ num 3 ∷ num 1 ∷ num 2 ∷ num 3 ∷ num 0 ∷ num 1 ∷ num 1 ∷
    num 2 ∷ num 2 ∷ num 3 ∷ num 3 ∷ []) ∷ []))

--     program p; integer :: a(3); a = (/1,2,3/); print *, pack(a, a > 1), reshape(a, (/2,2/)), spread(a, 1, 2); end
unfoldable pub not_padded : Program
not_padded = program
    ([])
    (procedure 1 false false false
    (entity 1 declared.Integer (Explicit (span Absent (int 3) ∷ [])) role.Own None ∷ [])
    None
    (stmt (Assigns (assign 1 (target (ints 1) (at 0 Whole AllOf)) (typed (ints 1) (Constructor (value (int 1) (value (int 2)
    (value (int 3) no_item))))))) (stmt (Print 1 ((typed (ints 1) (Rearranged rearranging.Pack None (argument 0 (typed
    (ints 1) (Named (at 0 Whole AllOf))) (argument 1 (typed (logs 1) (Binary binary.Greater (typed (ints 1) (Named (at 0
    Whole AllOf))) (int 1))) no_argument)))) ∷ (typed (ints 2) (Rearranged rearranging.Reshape None (argument 0 (typed
    (ints 1) (Named (at 0 Whole AllOf))) (argument 1 (typed (ints 1) (Constructor (value (int 2) (value (int 2) no_item))))
    no_argument)))) ∷ (typed (ints 2) (Rearranged rearranging.Spread (Some 1) (argument 0 (typed (ints 1) (Named (at 0
    Whole AllOf))) (argument 2 (int 2) no_argument)))) ∷ [])) no_stmt)))
    ([])

abbrev pub NotPadded : Type 0
NotPadded = Comes not_padded ([]) 100 (faulted fault.Argument 1 ([]))

--     program p
--     integer :: a(6)
--     a = 1
--     call u(a(6:1:-2))
--     print *, a
--     contains
--     subroutine u(x)
--     integer, intent(inout) :: x(:)
--     call v(x(2:3))
--     end subroutine
--     subroutine v(y)
--     integer, intent(inout) :: y(2)
--     y = (/7,8/)
--     end subroutine
--     end
unfoldable pub backwards_through_two_calls : Program
backwards_through_two_calls = program
    ([])
    (procedure 1 false false false
    (entity 2 declared.Integer (Explicit (span Absent (int 6) ∷ [])) role.Own None ∷ [])
    None
    (stmt (Assigns (assign 3 (target (ints 1) (at 0 Whole AllOf)) (int 1))) (stmt (Calls 4 (call 0 (argument 0 (typed (ints
    1) (Named (at 0 (Subscripted (subscript (SubscriptTriplet (Given (int 6)) (Given (int 1)) (Given (typed (ints 0) (Unary
    unary.Minus (int 2))))) no_subscript)) AllOf))) no_argument))) (stmt (Print 5 ((typed (ints 1) (Named (at 0 Whole
    AllOf))) ∷ [])) no_stmt))))
    ((procedure 7 false false false
    (entity 8 declared.Integer (Assumed (Absent ∷ [])) (role.Dummy 0 intent.InOut) None ∷ [])
    None
    (stmt (Calls 9 (call 1 (argument 0 (typed (ints 1) (Named (at 0 (Subscripted (subscript (SubscriptTriplet (Given (int 2)) (Given
    (int 3)) Absent) no_subscript)) AllOf))) no_argument))) no_stmt)) ∷ (procedure 11 false false false
    (entity 12 declared.Integer (Explicit (span Absent (int 2) ∷ [])) (role.Dummy 0 intent.InOut) None ∷ [])
    None
    (stmt (Assigns (assign 13 (target (ints 1) (at 0 Whole AllOf)) (typed (ints 1) (Constructor (value (int 7) (value (int 8)
    no_item)))))) no_stmt)) ∷ [])

abbrev pub BackwardsThroughTwoCalls : Type 0
BackwardsThroughTwoCalls = Comes backwards_through_two_calls ([]) 100 (ended ((num 1 ∷ num 8 ∷ num 1 ∷ num 7 ∷ num 1 ∷ num 1
    ∷ []) ∷ []))

--     program p
--     integer :: a(2)
--     a = (/1,2/)
--     call s(a, a)
--     call t(a(1:0), a)
--     print *, a
--     contains
--     subroutine s(x, y)
--     integer, intent(in) :: x(:), y(:)
--     print *, x + y
--     end subroutine
--     subroutine t(x, y)
--     integer, intent(inout) :: x(:)
--     integer, intent(in) :: y(:)
--     x = 7
--     print *, size(x), y
--     end subroutine
--     end
unfoldable pub apart_where_none_is_modified : Program
apart_where_none_is_modified = program
    ([])
    (procedure 1 false false false
    (entity 2 declared.Integer (Explicit (span Absent (int 2) ∷ [])) role.Own None ∷ [])
    None
    (stmt (Assigns (assign 3 (target (ints 1) (at 0 Whole AllOf)) (typed (ints 1) (Constructor (value (int 1) (value (int 2)
    no_item)))))) (stmt (Calls 4 (call 0 (argument 0 (typed (ints 1) (Named (at 0 Whole AllOf))) (argument 1 (typed (ints
    1) (Named (at 0 Whole AllOf))) no_argument)))) (stmt (Calls 5 (call 1 (argument 0 (typed (ints 1) (Named (at 0
    (Subscripted (subscript (SubscriptTriplet (Given (int 1)) (Given (int 0)) Absent) no_subscript)) AllOf))) (argument 1 (typed
    (ints
    1) (Named (at 0 Whole AllOf))) no_argument)))) (stmt (Print 6 ((typed (ints 1) (Named (at 0 Whole AllOf))) ∷ []))
    no_stmt)))))
    ((procedure 8 false false false
    (entity 9 declared.Integer (Assumed (Absent ∷ [])) (role.Dummy 0 intent.In) None ∷ entity 9 declared.Integer (Assumed
    (Absent ∷ [])) (role.Dummy 1 intent.In) None ∷ [])
    None
    (stmt (Print 10 ((typed (ints 1) (Binary binary.Add (typed (ints 1) (Named (at 0 Whole AllOf))) (typed (ints 1) (Named
    (at 1 Whole AllOf))))) ∷ [])) no_stmt)) ∷ (procedure 12 false false false
    (entity 13 declared.Integer (Assumed (Absent ∷ [])) (role.Dummy 0 intent.InOut) None ∷ entity 14 declared.Integer
    (Assumed (Absent ∷ [])) (role.Dummy 1 intent.In) None ∷ [])
    None
    (stmt (Assigns (assign 15 (target (ints 1) (at 0 Whole AllOf)) (int 7))) (stmt (Print 16 ((typed (ints 0) (Asked
    inquiry.Size None (Name 0))) ∷ (typed (ints 1) (Named (at 1 Whole AllOf))) ∷ [])) no_stmt))) ∷ [])

abbrev pub ApartWhereNoneIsModified : Type 0
ApartWhereNoneIsModified = Comes apart_where_none_is_modified ([]) 100 (ended ((num 2 ∷ num 4 ∷ []) ∷ (num 0 ∷ num 1 ∷ num 2
    ∷ []) ∷ (num 1 ∷ num 2 ∷ []) ∷ []))

--     program p
--     print *, 1
--     call s
--     print *, 3
--     contains
--     subroutine s
--     print *, 2
--     stop
--     end subroutine
--     end
unfoldable pub stop_in_a_procedure : Program
stop_in_a_procedure = program
    ([])
    (procedure 1 false false false
    ([])
    None
    (stmt (Print 2 ((int 1) ∷ [])) (stmt (Calls 3 (call 0 no_argument)) (stmt (Print 4 ((int 3) ∷ [])) no_stmt))))
    ((procedure 6 false false false
    ([])
    None
    (stmt (Print 7 ((int 2) ∷ [])) (stmt (Stop 8) no_stmt))) ∷ [])

abbrev pub StopInAProcedure : Type 0
StopInAProcedure = Comes stop_in_a_procedure ([]) 100 (ended ((num 1 ∷ []) ∷ (num 2 ∷ []) ∷ []))

--     program p
--     call s
--     print *, 9
--     contains
--     subroutine s
--     integer :: i
--     do i = 1, 5
--       print *, i
--       if (i == 2) return
--     end do
--     print *, 7
--     end subroutine
--     end
unfoldable pub return_in_a_loop : Program
return_in_a_loop = program
    ([])
    (procedure 1 false false false
    ([])
    None
    (stmt (Calls 2 (call 0 no_argument)) (stmt (Print 3 ((int 9) ∷ [])) no_stmt)))
    ((procedure 5 false false false
    (entity 6 declared.Integer Scalars role.Own None ∷ [])
    None
    (stmt (Do 7 0 (int 1) (int 5) Absent (stmt (Print 8 ((typed (ints 0) (Named (at 0 Whole AllOf))) ∷ [])) (stmt (If (branch
    9 (typed (logs 0) (Binary binary.Equal (typed (ints 0) (Named (at 0 Whole AllOf))) (int 2))) (stmt (Return 9) no_stmt)
    no_branch) no_stmt) no_stmt))) (stmt (Print 11 ((int 7) ∷ [])) no_stmt))) ∷ [])

abbrev pub ReturnInALoop : Type 0
ReturnInALoop = Comes return_in_a_loop ([]) 100 (ended ((num 1 ∷ []) ∷ (num 2 ∷ []) ∷ (num 9 ∷ []) ∷ []))

--     program p; integer :: a(3); read *, a; print *, a; end
unfoldable pub two_commas : Program
two_commas = program
    ([])
    (procedure 1 false false false
    (entity 1 declared.Integer (Explicit (span Absent (int 3) ∷ [])) role.Own None ∷ [])
    None
    (stmt (Read 1 ((target (ints 1) (at 0 Whole AllOf)) ∷ [])) (stmt (Print 1 ((typed (ints 1) (Named (at 0 Whole AllOf))) ∷
    [])) no_stmt)))
    ([])

-- on the input 1,,2
abbrev pub TwoCommas : Type 0
TwoCommas = Comes two_commas (49 ∷ 44 ∷ 44 ∷ 50 ∷ 10 ∷ []) 100 (faulted fault.BadInput 1 ([]))

--     program p
--     integer :: n, m
--     read *, n
--     read *, m
--     print *, n, m
--     end
unfoldable pub carriage_returns : Program
carriage_returns = program
    ([])
    (procedure 1 false false false
    (entity 2 declared.Integer Scalars role.Own None ∷ entity 2 declared.Integer Scalars role.Own None ∷ [])
    None
    (stmt (Read 3 ((target (ints 0) (at 0 Whole AllOf)) ∷ [])) (stmt (Read 4 ((target (ints 0) (at 1 Whole AllOf)) ∷ []))
    (stmt (Print 5 ((typed (ints 0) (Named (at 0 Whole AllOf))) ∷ (typed (ints 0) (Named (at 1 Whole AllOf))) ∷ []))
    no_stmt))))
    ([])

-- on the input 3\r, 4\r
abbrev pub CarriageReturns : Type 0
CarriageReturns = Comes carriage_returns (51 ∷ 13 ∷ 10 ∷ 52 ∷ 13 ∷ 10 ∷ []) 100 (ended ((num 3 ∷ num 4 ∷ []) ∷ []))
