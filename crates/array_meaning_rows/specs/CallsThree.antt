-- Subroutines and functions.
use Rattle.std.specs.Prelude.{false, None, [], ◌∷◌}
use Rattle.a95_base.specs.declared.fault.FaultKind.TheVariants as fault
use Rattle.f95_unit.specs.declared.unit.DeclaredType.TheVariants as declared
use Rattle.f95_unit.specs.declared.unit.Role.TheVariants as role
use Rattle.f95_unit.specs.declared.unit.Intent.TheVariants as intent
use Rattle.f95_unit.specs.Plain.{typed, Named, at, Whole, Absent, AllOf, no_argument, argument, call, Assigns, Calls, no_stmt, stmt}
use Rattle.f95_unit.specs.Plain.{Scalars, Explicit, Program}
use Rattle.array_meaning.specs.Build.{ints, int, target, assign, span, entity, procedure, program, faulted, Comes}

--     program p
--     call s(16777217)
--     contains
--     subroutine s(n)
--     integer, intent(in) :: n
--     integer :: a(n)
--     a = 0
--     end subroutine
--     end
unfoldable pub declaration_too_large : Program
declaration_too_large = program
    ([])
    (procedure 1 false false false
    ([])
    None
    (stmt (Calls 2 (call 0 (argument 0 (int 16777217) no_argument))) no_stmt))
    ((procedure 4 false false false
    (entity 5 declared.Integer Scalars (role.Dummy 0 intent.In) None ∷ entity 6 declared.Integer (Explicit (span Absent
    (typed (ints 0) (Named (at 0 Whole AllOf))) ∷ [])) role.Own None ∷ [])
    None
    (stmt (Assigns (assign 7 (target (ints 1) (at 1 Whole AllOf)) (int 0))) no_stmt)) ∷ [])

abbrev pub DeclarationTooLarge : Type 0
DeclarationTooLarge = Comes declaration_too_large ([]) 100 (faulted fault.TooLarge 6 ([]))
