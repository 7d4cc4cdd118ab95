-- READ and PRINT.
use Rattle.std.specs.Prelude.{false, None, [], ◌∷◌}
use Rattle.a95_base.specs.declared.fault.FaultKind.TheVariants as fault
use Rattle.f95_unit.specs.declared.operation.UnaryOp.TheVariants as unary
use Rattle.f95_unit.specs.declared.unit.DeclaredType.TheVariants as declared
use Rattle.f95_unit.specs.declared.unit.Role.TheVariants as role
use Rattle.f95_unit.specs.Plain.{typed, Named, Unary, at, Whole, Subscripted, no_subscript, subscript, SubscriptTriplet, Absent}
use Rattle.f95_unit.specs.Plain.{Given, AllOf, Print, Read, no_stmt, stmt, Explicit, Program}
use Rattle.array_meaning.specs.Build.{ints, int, target, span, entity, procedure, program, faulted, Comes}

--     program p
--     integer :: a(3)
--     read *, a(3:1:-1)
--     print *, a
--     end
unfoldable pub values_before_the_end : Program
values_before_the_end = program
    ([])
    (procedure 1 false false false
    (entity 2 declared.Integer (Explicit (span Absent (int 3) ∷ [])) role.Own None ∷ [])
    None
    (stmt (Read 3 ((target (ints 1) (at 0 (Subscripted (subscript (SubscriptTriplet (Given (int 3)) (Given (int 1)) (Given (typed
    (ints
    0) (Unary unary.Minus (int 1))))) no_subscript)) AllOf)) ∷ [])) (stmt (Print 4 ((typed (ints 1) (Named (at 0 Whole
    AllOf))) ∷ [])) no_stmt)))
    ([])

-- on the input 1 2
abbrev pub ValuesBeforeTheEnd : Type 0
ValuesBeforeTheEnd = Comes values_before_the_end (49 ∷ 32 ∷ 50 ∷ 10 ∷ []) 100 (faulted fault.EndOfInput 3 ([]))
