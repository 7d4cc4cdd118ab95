-- Faults, and what comes before what.
use Rattle.std.specs.Prelude.{false, None, [], ◌∷◌}
use Rattle.a95_base.specs.declared.fault.FaultKind.TheVariants as fault
use Rattle.f95_unit.specs.declared.unit.DeclaredType.TheVariants as declared
use Rattle.f95_unit.specs.declared.unit.Role.TheVariants as role
use Rattle.f95_unit.specs.declared.unit.Intent.TheVariants as intent
use Rattle.f95_unit.specs.Plain.{typed, Named, at, Whole, Subscripted, no_subscript, subscript, One, Absent, AllOf, no_argument}
use Rattle.f95_unit.specs.Plain.{argument, call, Assigns, Calls, Print, no_stmt, stmt, Explicit, Assumed, Deferred, Program}
use Rattle.array_meaning.specs.Build.{ints, int, target, assign, span, entity, procedure, program, num, faulted, Comes}

--     program p
--     integer, allocatable :: a(:)
--     integer :: k(2)
--     a(k(9)) = 1
--     end
unfoldable pub allocated_before_subscripts : Program
allocated_before_subscripts = program
    ([])
    (procedure 1 false false false
    (entity 2 declared.Integer (Deferred 1) role.Own None ∷ entity 3 declared.Integer (Explicit (span Absent (int 2) ∷ []))
    role.Own None ∷ [])
    None
    (stmt (Assigns (assign 4 (target (ints 0) (at 0 (Subscripted (subscript (One (typed (ints 0) (Named (at 1 (Subscripted
    (subscript (One (int 9)) no_subscript)) AllOf)))) no_subscript)) AllOf)) (int 1))) no_stmt))
    ([])

abbrev pub AllocatedBeforeSubscripts : Type 0
AllocatedBeforeSubscripts = Comes allocated_before_subscripts ([]) 100 (faulted fault.NotAllocated 4 ([]))

--     program p
--     integer :: a(2)
--     print *, 1
--     call s(a)
--     contains
--     subroutine s(x)
--     integer, intent(inout) :: x(:)
--     print *, 2
--     x(3) = 1
--     end subroutine
--     end
unfoldable pub fault_in_a_called_procedure : Program
fault_in_a_called_procedure = program
    ([])
    (procedure 1 false false false
    (entity 2 declared.Integer (Explicit (span Absent (int 2) ∷ [])) role.Own None ∷ [])
    None
    (stmt (Print 3 ((int 1) ∷ [])) (stmt (Calls 4 (call 0 (argument 0 (typed (ints 1) (Named (at 0 Whole AllOf)))
    no_argument))) no_stmt)))
    ((procedure 6 false false false
    (entity 7 declared.Integer (Assumed (Absent ∷ [])) (role.Dummy 0 intent.InOut) None ∷ [])
    None
    (stmt (Print 8 ((int 2) ∷ [])) (stmt (Assigns (assign 9 (target (ints 0) (at 0 (Subscripted (subscript (One (int 3))
    no_subscript)) AllOf)) (int 1))) no_stmt))) ∷ [])

abbrev pub FaultInACalledProcedure : Type 0
FaultInACalledProcedure = Comes fault_in_a_called_procedure ([]) 100 (faulted fault.Bounds 9 ((num 1 ∷ []) ∷ (num 2 ∷ []) ∷
    []))
