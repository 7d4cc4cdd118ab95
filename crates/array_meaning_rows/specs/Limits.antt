-- Bounds, counts and strides at the limits.
use Rattle.std.specs.Prelude.{false, Some, None, [], ◌∷◌}
use Rattle.a95_base.specs.declared.fault.FaultKind.TheVariants as fault
use Rattle.f95_unit.specs.declared.operation.UnaryOp.TheVariants as unary
use Rattle.f95_unit.specs.declared.operation.BinaryOp.TheVariants as binary
use Rattle.f95_unit.specs.declared.operation.Inquiry.TheVariants as inquiry
use Rattle.f95_unit.specs.declared.unit.DeclaredType.TheVariants as declared
use Rattle.f95_unit.specs.declared.unit.Length.TheVariants as long
use Rattle.f95_unit.specs.declared.unit.Role.TheVariants as role
use Rattle.f95_unit.specs.declared.unit.Intent.TheVariants as intent
use Rattle.f95_unit.specs.Plain.{typed, Named, Unary, Binary, Constructor, Asked, at, Whole, Subscripted, no_subscript, subscript}
use Rattle.f95_unit.specs.Plain.{One, SubscriptTriplet, Absent, Given, AllOf, BytesOf, no_item, value, loop, no_argument, argument}
use Rattle.f95_unit.specs.Plain.{Name, Of, call, Assigns, Calls, Print, Do, no_stmt, stmt, Scalars, Explicit, Assumed, Program}
use Rattle.array_meaning.specs.Build.{ints, texts, int, index_at, target, assign, span, entity, procedure, program, num, neg, ended}
use Rattle.array_meaning.specs.Build.{faulted, Comes}

--     program p
--     integer :: a(2)
--     a = (/5,6/)
--     call s(a)
--     contains
--     subroutine s(x)
--     integer, intent(in) :: x(2147483647:)
--     print *, ubound(x, 1), x(2147483647)
--     end subroutine
--     end
unfoldable pub upper_bound_wraps : Program
upper_bound_wraps = program
    ([])
    (procedure 1 false false false
    (entity 2 declared.Integer (Explicit (span Absent (int 2) ∷ [])) role.Own None ∷ [])
    None
    (stmt (Assigns (assign 3 (target (ints 1) (at 0 Whole AllOf)) (typed (ints 1) (Constructor (value (int 5) (value (int 6)
    no_item)))))) (stmt (Calls 4 (call 0 (argument 0 (typed (ints 1) (Named (at 0 Whole AllOf))) no_argument))) no_stmt)))
    ((procedure 6 false false false
    (entity 7 declared.Integer (Assumed ((Given (int 2147483647)) ∷ [])) (role.Dummy 0 intent.In) None ∷ [])
    None
    (stmt (Print 8 ((typed (ints 0) (Asked inquiry.Ubound (Some 1) (Name 0))) ∷ (typed (ints 0) (Named (at 0 (Subscripted
    (subscript (One (int 2147483647)) no_subscript)) AllOf))) ∷ [])) no_stmt)) ∷ [])

abbrev pub UpperBoundWraps : Type 0
UpperBoundWraps = Comes upper_bound_wraps ([]) 100 (ended ((neg 2147483648 ∷ num 5 ∷ []) ∷ []))

--     program p; integer :: a(-2147483647-1:2147483647,0); print *, size(a, 1), size(a); end
unfoldable pub size_wraps : Program
size_wraps = program
    ([])
    (procedure 1 false false false
    (entity 1 declared.Integer (Explicit (span (Given (typed (ints 0) (Binary binary.Subtract (typed (ints 0) (Unary
    unary.Minus (int 2147483647))) (int 1)))) (int 2147483647) ∷ span Absent (int 0) ∷ [])) role.Own None ∷ [])
    None
    (stmt (Print 1 ((typed (ints 0) (Asked inquiry.Size (Some 1) (Name 0))) ∷ (typed (ints 0) (Asked inquiry.Size None (Name
    0))) ∷ [])) no_stmt))
    ([])

abbrev pub SizeWraps : Type 0
SizeWraps = Comes size_wraps ([]) 100 (ended ((num 0 ∷ num 0 ∷ []) ∷ []))

--     program p; integer :: a(3); print *, size(a(1:3:2147483647)); end
unfoldable pub great_stride : Program
great_stride = program
    ([])
    (procedure 1 false false false
    (entity 1 declared.Integer (Explicit (span Absent (int 3) ∷ [])) role.Own None ∷ [])
    None
    (stmt (Print 1 ((typed (ints 0) (Asked inquiry.Size None (Of (typed (ints 1) (Named (at 0 (Subscripted (subscript
    (SubscriptTriplet
    (Given (int 1)) (Given (int 3)) (Given (int 2147483647))) no_subscript)) AllOf)))))) ∷ [])) no_stmt))
    ([])

abbrev pub GreatStride : Type 0
GreatStride = Comes great_stride ([]) 100 (ended ((num 1 ∷ []) ∷ []))

--     program p
--     integer :: i
--     do i = -2147483647 - 1, 2147483647, 2147483647
--     end do
--     print *, i
--     end
unfoldable pub great_step : Program
great_step = program
    ([])
    (procedure 1 false false false
    (entity 2 declared.Integer Scalars role.Own None ∷ [])
    None
    (stmt (Do 3 0 (typed (ints 0) (Binary binary.Subtract (typed (ints 0) (Unary unary.Minus (int 2147483647))) (int 1)))
    (int 2147483647) (Given (int 2147483647)) no_stmt) (stmt (Print 5 ((typed (ints 0) (Named (at 0 Whole AllOf))) ∷ []))
    no_stmt)))
    ([])

abbrev pub GreatStep : Type 0
GreatStep = Comes great_step ([]) 3 (ended ((neg 3 ∷ []) ∷ []))

--     program p; integer :: a(2147483646:2147483647); a(2147483646:2147483647) = 5; print *, a, ubound(a); end
unfoldable pub greatest_bounds : Program
greatest_bounds = program
    ([])
    (procedure 1 false false false
    (entity 1 declared.Integer (Explicit (span (Given (int 2147483646)) (int 2147483647) ∷ [])) role.Own None ∷ [])
    None
    (stmt (Assigns (assign 1 (target (ints 1) (at 0 (Subscripted (subscript (SubscriptTriplet (Given (int 2147483646)) (Given (int
    2147483647)) Absent) no_subscript)) AllOf)) (int 5))) (stmt (Print 1 ((typed (ints 1) (Named (at 0 Whole AllOf))) ∷
    (typed (ints 1) (Asked inquiry.Ubound None (Name 0))) ∷ [])) no_stmt)))
    ([])

abbrev pub GreatestBounds : Type 0
GreatestBounds = Comes greatest_bounds ([]) 100 (ended ((num 5 ∷ num 5 ∷ num 2147483647 ∷ []) ∷ []))

-- With 1,000,000 columns it is the same; a row of it was cut to 1,000, since its evaluation lists the subscripts of each dimension
--     program p; integer :: a(0,1000); a = 1; print *, size(a); end
unfoldable pub no_row_of_a_thousand : Program
no_row_of_a_thousand = program
    ([])
    (procedure 1 false false false
    (entity 1 declared.Integer (Explicit (span Absent (int 0) ∷ span Absent (int 1000) ∷ [])) role.Own None ∷ [])
    None
    (stmt (Assigns (assign 1 (target (ints 2) (at 0 Whole AllOf)) (int 1))) (stmt (Print 1 ((typed (ints 0) (Asked
    inquiry.Size None (Name 0))) ∷ [])) no_stmt)))
    ([])

abbrev pub NoRowOfAThousand : Type 0
NoRowOfAThousand = Comes no_row_of_a_thousand ([]) 100 (ended ((num 0 ∷ []) ∷ []))

--     program p; character(3) :: c(2); print *, c(2:1)(9:9); end
unfoldable pub substring_of_no_element : Program
substring_of_no_element = program
    ([])
    (procedure 1 false false false
    (entity 1 (declared.Character (long.Fixed 3)) (Explicit (span Absent (int 2) ∷ [])) role.Own None ∷ [])
    None
    (stmt (Print 1 ((typed (texts 1 1) (Named (at 0 (Subscripted (subscript (SubscriptTriplet (Given (int 2)) (Given (int 1))
    Absent)
    no_subscript)) (BytesOf (Given (int 9)) (Given (int 9)))))) ∷ [])) no_stmt))
    ([])

abbrev pub SubstringOfNoElement : Type 0
SubstringOfNoElement = Comes substring_of_no_element ([]) 100 (faulted fault.Bounds 1 ([]))

--     program p; integer :: i, n; print *, (/ (i, i = 1, 0, n) /); end
unfoldable pub implied_do_step_of_zero : Program
implied_do_step_of_zero = program
    ([])
    (procedure 1 false false false
    (entity 1 declared.Integer Scalars role.Own None ∷ entity 1 declared.Integer Scalars role.Own None ∷ [])
    None
    (stmt (Print 1 ((typed (ints 1) (Constructor (loop (value (index_at 0) no_item) (int 1) (int 0) (Given (typed (ints 0)
    (Named (at 1 Whole AllOf)))) no_item))) ∷ [])) no_stmt))
    ([])

abbrev pub ImpliedDoStepOfZero : Type 0
ImpliedDoStepOfZero = Comes implied_do_step_of_zero ([]) 100 (faulted fault.ZeroStep 1 ([]))
