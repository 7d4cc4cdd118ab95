-- Faults, and what comes before what.
use Rattle.std.specs.Prelude.{false, None, [], ◌∷◌}
use Rattle.a95_base.specs.declared.fault.FaultKind.TheVariants as fault
use Rattle.f95_unit.specs.declared.operation.UnaryOp.TheVariants as unary
use Rattle.f95_unit.specs.declared.operation.BinaryOp.TheVariants as binary
use Rattle.f95_unit.specs.declared.operation.Elemental.TheVariants as elemental
use Rattle.f95_unit.specs.declared.unit.DeclaredType.TheVariants as declared
use Rattle.f95_unit.specs.declared.unit.Length.TheVariants as long
use Rattle.f95_unit.specs.declared.unit.Role.TheVariants as role
use Rattle.f95_unit.specs.Plain.{typed, Named, Brackets, Unary, Binary, Constructor, Elementwise, at, Whole, Subscripted}
use Rattle.f95_unit.specs.Plain.{no_subscript, subscript, One, Vector, SubscriptTriplet, Absent, Given, AllOf, BytesOf, no_item}
use Rattle.f95_unit.specs.Plain.{value, no_argument, argument, Assigns, Print, Do, no_stmt, stmt, Scalars, Explicit, Program}
use Rattle.array_meaning.specs.Build.{ints, texts, some_texts, int, target, assign, span, entity, procedure, program, num, chars}
use Rattle.array_meaning.specs.Build.{faulted, Comes}

--     program p
--     integer :: a(2), b(2)
--     print *, 1
--     a = 6 / b
--     end
unfoldable pub zero_divisor : Program
zero_divisor = program
    ([])
    (procedure 1 false false false
    (entity 2 declared.Integer (Explicit (span Absent (int 2) ∷ [])) role.Own None ∷ entity 2 declared.Integer (Explicit
    (span Absent (int 2) ∷ [])) role.Own None ∷ [])
    None
    (stmt (Print 3 ((int 1) ∷ [])) (stmt (Assigns (assign 4 (target (ints 1) (at 0 Whole AllOf)) (typed (ints 1) (Binary
    binary.Divide (int 6) (typed (ints 1) (Named (at 1 Whole AllOf))))))) no_stmt)))
    ([])

abbrev pub ZeroDivisor : Type 0
ZeroDivisor = Comes zero_divisor ([]) 100 (faulted fault.ZeroDivide 4 ((num 1 ∷ []) ∷ []))

--     program p; integer :: i; i = 0; print *, mod(3, i); end
unfoldable pub zero_remainder : Program
zero_remainder = program
    ([])
    (procedure 1 false false false
    (entity 1 declared.Integer Scalars role.Own None ∷ [])
    None
    (stmt (Assigns (assign 1 (target (ints 0) (at 0 Whole AllOf)) (int 0))) (stmt (Print 1 ((typed (ints 0) (Elementwise
    elemental.Mod (argument 0 (int 3) (argument 1 (typed (ints 0) (Named (at 0 Whole AllOf))) no_argument)))) ∷ []))
    no_stmt)))
    ([])

abbrev pub ZeroRemainder : Type 0
ZeroRemainder = Comes zero_remainder ([]) 100 (faulted fault.ZeroDivide 1 ([]))

--     program p; integer :: i; i = 0; print *, i**(-1); end
unfoldable pub zero_to_negative_power : Program
zero_to_negative_power = program
    ([])
    (procedure 1 false false false
    (entity 1 declared.Integer Scalars role.Own None ∷ [])
    None
    (stmt (Assigns (assign 1 (target (ints 0) (at 0 Whole AllOf)) (int 0))) (stmt (Print 1 ((typed (ints 0) (Binary
    binary.Power (typed (ints 0) (Named (at 0 Whole AllOf))) (typed (ints 0) (Brackets (typed (ints 0) (Unary unary.Minus
    (int 1))))))) ∷ [])) no_stmt)))
    ([])

abbrev pub ZeroToNegativePower : Type 0
ZeroToNegativePower = Comes zero_to_negative_power ([]) 100 (faulted fault.ZeroDivide 1 ([]))

--     program p
--     integer :: a(3), i
--     i = 4
--     a(i) = 1
--     end
unfoldable pub subscript_out_of_bounds : Program
subscript_out_of_bounds = program
    ([])
    (procedure 1 false false false
    (entity 2 declared.Integer (Explicit (span Absent (int 3) ∷ [])) role.Own None ∷ entity 2 declared.Integer Scalars
    role.Own None ∷ [])
    None
    (stmt (Assigns (assign 3 (target (ints 0) (at 1 Whole AllOf)) (int 4))) (stmt (Assigns (assign 4 (target (ints 0) (at 0
    (Subscripted (subscript (One (typed (ints 0) (Named (at 1 Whole AllOf)))) no_subscript)) AllOf)) (int 1))) no_stmt)))
    ([])

abbrev pub SubscriptOutOfBounds : Type 0
SubscriptOutOfBounds = Comes subscript_out_of_bounds ([]) 100 (faulted fault.Bounds 4 ([]))

--     program p
--     character(3) :: s
--     integer :: i
--     i = 4
--     print *, s(4:3)
--     print *, s(2:i)
--     end
unfoldable pub substring_out_of_bounds : Program
substring_out_of_bounds = program
    ([])
    (procedure 1 false false false
    (entity 2 (declared.Character (long.Fixed 3)) Scalars role.Own None ∷ entity 3 declared.Integer Scalars role.Own None ∷
    [])
    None
    (stmt (Assigns (assign 4 (target (ints 0) (at 1 Whole AllOf)) (int 4))) (stmt (Print 5 ((typed (texts 0 0) (Named (at 0
    Whole (BytesOf (Given (int 4)) (Given (int 3)))))) ∷ [])) (stmt (Print 6 ((typed (some_texts 0) (Named (at 0 Whole
    (BytesOf (Given (int 2)) (Given (typed (ints 0) (Named (at 1 Whole AllOf)))))))) ∷ [])) no_stmt))))
    ([])

abbrev pub SubstringOutOfBounds : Type 0
SubstringOutOfBounds = Comes substring_out_of_bounds ([]) 100 (faulted fault.Bounds 6 ((chars ([]) ∷ []) ∷ []))

--     program p
--     integer :: a(3), n
--     n = 2
--     a = 1
--     a(1:n) = a
--     end
unfoldable pub shapes_differ : Program
shapes_differ = program
    ([])
    (procedure 1 false false false
    (entity 2 declared.Integer (Explicit (span Absent (int 3) ∷ [])) role.Own None ∷ entity 2 declared.Integer Scalars
    role.Own None ∷ [])
    None
    (stmt (Assigns (assign 3 (target (ints 0) (at 1 Whole AllOf)) (int 2))) (stmt (Assigns (assign 4 (target (ints 1) (at 0
    Whole AllOf)) (int 1))) (stmt (Assigns (assign 5 (target (ints 1) (at 0 (Subscripted (subscript (SubscriptTriplet (Given (int
    1))
    (Given (typed (ints 0) (Named (at 1 Whole AllOf)))) Absent) no_subscript)) AllOf)) (typed (ints 1) (Named (at 0 Whole
    AllOf))))) no_stmt))))
    ([])

abbrev pub ShapesDiffer : Type 0
ShapesDiffer = Comes shapes_differ ([]) 100 (faulted fault.Shape 5 ([]))

--     program p
--     integer :: a(3), n
--     a = 1
--     print *, a(1:3:n)
--     end
unfoldable pub stride_of_zero : Program
stride_of_zero = program
    ([])
    (procedure 1 false false false
    (entity 2 declared.Integer (Explicit (span Absent (int 3) ∷ [])) role.Own None ∷ entity 2 declared.Integer Scalars
    role.Own None ∷ [])
    None
    (stmt (Assigns (assign 3 (target (ints 1) (at 0 Whole AllOf)) (int 1))) (stmt (Print 4 ((typed (ints 1) (Named (at 0
    (Subscripted (subscript (SubscriptTriplet (Given (int 1)) (Given (int 3)) (Given (typed (ints 0) (Named (at 1 Whole AllOf)))))
    no_subscript)) AllOf))) ∷ [])) no_stmt)))
    ([])

abbrev pub StrideOfZero : Type 0
StrideOfZero = Comes stride_of_zero ([]) 100 (faulted fault.ZeroStep 4 ([]))

--     program p
--     integer :: i, n
--     do i = 1, 2, n
--     end do
--     end
unfoldable pub do_step_of_zero : Program
do_step_of_zero = program
    ([])
    (procedure 1 false false false
    (entity 2 declared.Integer Scalars role.Own None ∷ entity 2 declared.Integer Scalars role.Own None ∷ [])
    None
    (stmt (Do 3 0 (int 1) (int 2) (Given (typed (ints 0) (Named (at 1 Whole AllOf)))) no_stmt) no_stmt))
    ([])

abbrev pub DoStepOfZero : Type 0
DoStepOfZero = Comes do_step_of_zero ([]) 100 (faulted fault.ZeroStep 3 ([]))

--     program p
--     integer :: a(3)
--     a((/1,1/)) = (/5,6/)
--     end
unfoldable pub place_stored_twice : Program
place_stored_twice = program
    ([])
    (procedure 1 false false false
    (entity 2 declared.Integer (Explicit (span Absent (int 3) ∷ [])) role.Own None ∷ [])
    None
    (stmt (Assigns (assign 3 (target (ints 1) (at 0 (Subscripted (subscript (Vector (typed (ints 1) (Constructor (value (int
    1) (value (int 1) no_item))))) no_subscript)) AllOf)) (typed (ints 1) (Constructor (value (int 5) (value (int 6)
    no_item)))))) no_stmt))
    ([])

abbrev pub PlaceStoredTwice : Type 0
PlaceStoredTwice = Comes place_stored_twice ([]) 100 (faulted fault.ManyOne 3 ([]))
