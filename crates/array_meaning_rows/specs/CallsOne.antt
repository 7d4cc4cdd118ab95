-- Subroutines and functions.
use Rattle.std.specs.Prelude.{pos, true, false, Some, None, [], ◌∷◌}
use Rattle.a95_base.specs.declared.fault.FaultKind.TheVariants as fault
use Rattle.a95_base.specs.declared.scalar.Scalar.TheVariants as scalar
use Rattle.f95_unit.specs.declared.operation.BinaryOp.TheVariants as binary
use Rattle.f95_unit.specs.declared.operation.Inquiry.TheVariants as inquiry
use Rattle.f95_unit.specs.declared.operation.Reduction.TheVariants as reduction
use Rattle.f95_unit.specs.declared.unit.DeclaredType.TheVariants as declared
use Rattle.f95_unit.specs.declared.unit.Length.TheVariants as long
use Rattle.f95_unit.specs.declared.unit.Role.TheVariants as role
use Rattle.f95_unit.specs.declared.unit.Intent.TheVariants as intent
use Rattle.f95_unit.specs.Plain.{typed, Named, Binary, Constructor, Asked, Reduced, Called, at, Whole, Subscripted, no_subscript}
use Rattle.f95_unit.specs.Plain.{subscript, One, SubscriptTriplet, Absent, Given, AllOf, no_item, value, no_argument, argument}
use Rattle.f95_unit.specs.Plain.{Name, Of, call, Assigns, Calls, Print, If, Do, Return, no_stmt, stmt, no_branch, branch, Scalars}
use Rattle.f95_unit.specs.Plain.{Explicit, Assumed, Program}
use Rattle.array_meaning.specs.Build.{ints, logs, texts, some_texts, int, text, constant_at, target, assign, span, entity}
use Rattle.array_meaning.specs.Build.{procedure, program, num, chars, ended, faulted, Comes}

--     program p
--     integer :: a(5)
--     a = (/1,2,3,4,5/)
--     call s(a(1:5:2), a(2:4:2))
--     print *, a
--     contains
--     subroutine s(x, y)
--     integer, intent(inout) :: x(:), y(:)
--     x = x + 10
--     y = y + 20
--     end subroutine
--     end
unfoldable pub two_sections_apart : Program
two_sections_apart = program
    ([])
    (procedure 1 false false false
    (entity 2 declared.Integer (Explicit (span Absent (int 5) ∷ [])) role.Own None ∷ [])
    None
    (stmt (Assigns (assign 3 (target (ints 1) (at 0 Whole AllOf)) (typed (ints 1) (Constructor (value (int 1) (value (int 2)
    (value (int 3) (value (int 4) (value (int 5) no_item))))))))) (stmt (Calls 4 (call 0 (argument 0 (typed (ints 1) (Named
    (at 0 (Subscripted (subscript (SubscriptTriplet (Given (int 1)) (Given (int 5)) (Given (int 2))) no_subscript)) AllOf)))
    (argument
    1 (typed (ints 1) (Named (at 0 (Subscripted (subscript (SubscriptTriplet (Given (int 2)) (Given (int 4)) (Given (int 2)))
    no_subscript)) AllOf))) no_argument)))) (stmt (Print 5 ((typed (ints 1) (Named (at 0 Whole AllOf))) ∷ [])) no_stmt))))
    ((procedure 7 false false false
    (entity 8 declared.Integer (Assumed (Absent ∷ [])) (role.Dummy 0 intent.InOut) None ∷ entity 8 declared.Integer (Assumed
    (Absent ∷ [])) (role.Dummy 1 intent.InOut) None ∷ [])
    None
    (stmt (Assigns (assign 9 (target (ints 1) (at 0 Whole AllOf)) (typed (ints 1) (Binary binary.Add (typed (ints 1) (Named
    (at 0 Whole AllOf))) (int 10))))) (stmt (Assigns (assign 10 (target (ints 1) (at 1 Whole AllOf)) (typed (ints 1)
    (Binary binary.Add (typed (ints 1) (Named (at 1 Whole AllOf))) (int 20))))) no_stmt))) ∷ [])

abbrev pub TwoSectionsApart : Type 0
TwoSectionsApart = Comes two_sections_apart ([]) 100 (ended ((num 11 ∷ num 22 ∷ num 13 ∷ num 24 ∷ num 15 ∷ []) ∷ []))

--     program p
--     integer :: a(5)
--     a = (/1,2,3,4,5/)
--     call s(a(1:3), a(3:5))
--     print *, a
--     contains
--     subroutine s(x, y)
--     integer, intent(inout) :: x(:), y(:)
--     x = x + 10
--     y = y + 20
--     end subroutine
--     end
unfoldable pub two_sections_overlap : Program
two_sections_overlap = program
    ([])
    (procedure 1 false false false
    (entity 2 declared.Integer (Explicit (span Absent (int 5) ∷ [])) role.Own None ∷ [])
    None
    (stmt (Assigns (assign 3 (target (ints 1) (at 0 Whole AllOf)) (typed (ints 1) (Constructor (value (int 1) (value (int 2)
    (value (int 3) (value (int 4) (value (int 5) no_item))))))))) (stmt (Calls 4 (call 0 (argument 0 (typed (ints 1) (Named
    (at 0 (Subscripted (subscript (SubscriptTriplet (Given (int 1)) (Given (int 3)) Absent) no_subscript)) AllOf))) (argument 1
    (typed
    (ints 1) (Named (at 0 (Subscripted (subscript (SubscriptTriplet (Given (int 3)) (Given (int 5)) Absent) no_subscript)) AllOf)))
    no_argument)))) (stmt (Print 5 ((typed (ints 1) (Named (at 0 Whole AllOf))) ∷ [])) no_stmt))))
    ((procedure 7 false false false
    (entity 8 declared.Integer (Assumed (Absent ∷ [])) (role.Dummy 0 intent.InOut) None ∷ entity 8 declared.Integer (Assumed
    (Absent ∷ [])) (role.Dummy 1 intent.InOut) None ∷ [])
    None
    (stmt (Assigns (assign 9 (target (ints 1) (at 0 Whole AllOf)) (typed (ints 1) (Binary binary.Add (typed (ints 1) (Named
    (at 0 Whole AllOf))) (int 10))))) (stmt (Assigns (assign 10 (target (ints 1) (at 1 Whole AllOf)) (typed (ints 1)
    (Binary binary.Add (typed (ints 1) (Named (at 1 Whole AllOf))) (int 20))))) no_stmt))) ∷ [])

abbrev pub TwoSectionsOverlap : Type 0
TwoSectionsOverlap = Comes two_sections_overlap ([]) 100 (faulted fault.Overlap 4 ([]))

--     program p
--     integer :: a(3)
--     a = (/1,2,0/)
--     a(2:3) = g(a(1:2))
--     print *, a
--     contains
--     elemental integer function g(x)
--     integer, intent(in) :: x
--     g = 10 / x
--     end function
--     end
unfoldable pub elemental_reference : Program
elemental_reference = program
    ([])
    (procedure 1 false false false
    (entity 2 declared.Integer (Explicit (span Absent (int 3) ∷ [])) role.Own None ∷ [])
    None
    (stmt (Assigns (assign 3 (target (ints 1) (at 0 Whole AllOf)) (typed (ints 1) (Constructor (value (int 1) (value (int 2)
    (value (int 0) no_item))))))) (stmt (Assigns (assign 4 (target (ints 1) (at 0 (Subscripted (subscript (SubscriptTriplet (Given
    (int 2)) (Given (int 3)) Absent) no_subscript)) AllOf)) (typed (ints 1) (Called (call 0 (argument 0 (typed (ints 1)
    (Named (at 0 (Subscripted (subscript (SubscriptTriplet (Given (int 1)) (Given (int 2)) Absent) no_subscript)) AllOf)))
    no_argument)))))) (stmt (Print 5 ((typed (ints 1) (Named (at 0 Whole AllOf))) ∷ [])) no_stmt))))
    ((procedure 7 false false true
    (entity 7 declared.Integer Scalars role.Own None ∷ entity 8 declared.Integer Scalars (role.Dummy 0 intent.In) None ∷ [])
    (Some 0)
    (stmt (Assigns (assign 9 (target (ints 0) (at 0 Whole AllOf)) (typed (ints 0) (Binary binary.Divide (int 10) (typed (ints
    0) (Named (at 1 Whole AllOf))))))) no_stmt)) ∷ [])

abbrev pub ElementalReference : Type 0
ElementalReference = Comes elemental_reference ([]) 100 (ended ((num 1 ∷ num 10 ∷ num 5 ∷ []) ∷ []))

--     program p
--     integer :: a(3)
--     a = (/0,2,0/)
--     a(2:3) = g(a(1:2))
--     print *, a
--     contains
--     elemental integer function g(x)
--     integer, intent(in) :: x
--     g = 10 / x
--     end function
--     end
unfoldable pub elemental_reference_faults : Program
elemental_reference_faults = program
    ([])
    (procedure 1 false false false
    (entity 2 declared.Integer (Explicit (span Absent (int 3) ∷ [])) role.Own None ∷ [])
    None
    (stmt (Assigns (assign 3 (target (ints 1) (at 0 Whole AllOf)) (typed (ints 1) (Constructor (value (int 0) (value (int 2)
    (value (int 0) no_item))))))) (stmt (Assigns (assign 4 (target (ints 1) (at 0 (Subscripted (subscript (SubscriptTriplet (Given
    (int 2)) (Given (int 3)) Absent) no_subscript)) AllOf)) (typed (ints 1) (Called (call 0 (argument 0 (typed (ints 1)
    (Named (at 0 (Subscripted (subscript (SubscriptTriplet (Given (int 1)) (Given (int 2)) Absent) no_subscript)) AllOf)))
    no_argument)))))) (stmt (Print 5 ((typed (ints 1) (Named (at 0 Whole AllOf))) ∷ [])) no_stmt))))
    ((procedure 7 false false true
    (entity 7 declared.Integer Scalars role.Own None ∷ entity 8 declared.Integer Scalars (role.Dummy 0 intent.In) None ∷ [])
    (Some 0)
    (stmt (Assigns (assign 9 (target (ints 0) (at 0 Whole AllOf)) (typed (ints 0) (Binary binary.Divide (int 10) (typed (ints
    0) (Named (at 1 Whole AllOf))))))) no_stmt)) ∷ [])

abbrev pub ElementalReferenceFaults : Type 0
ElementalReferenceFaults = Comes elemental_reference_faults ([]) 100 (faulted fault.ZeroDivide 9 ([]))

--     program p
--     integer :: a(5)
--     a = 1
--     call t(a(1:5:2))
--     print *, a
--     contains
--     subroutine t(x)
--     integer, intent(inout) :: x(3)
--     x = x + 1
--     end subroutine t
--     end program p
unfoldable pub explicit_shape_dummy : Program
explicit_shape_dummy = program
    ([])
    (procedure 1 false false false
    (entity 2 declared.Integer (Explicit (span Absent (int 5) ∷ [])) role.Own None ∷ [])
    None
    (stmt (Assigns (assign 3 (target (ints 1) (at 0 Whole AllOf)) (int 1))) (stmt (Calls 4 (call 0 (argument 0 (typed (ints
    1) (Named (at 0 (Subscripted (subscript (SubscriptTriplet (Given (int 1)) (Given (int 5)) (Given (int 2))) no_subscript))
    AllOf)))
    no_argument))) (stmt (Print 5 ((typed (ints 1) (Named (at 0 Whole AllOf))) ∷ [])) no_stmt))))
    ((procedure 7 false false false
    (entity 8 declared.Integer (Explicit (span Absent (int 3) ∷ [])) (role.Dummy 0 intent.InOut) None ∷ [])
    None
    (stmt (Assigns (assign 9 (target (ints 1) (at 0 Whole AllOf)) (typed (ints 1) (Binary binary.Add (typed (ints 1) (Named
    (at 0 Whole AllOf))) (int 1))))) no_stmt)) ∷ [])

abbrev pub ExplicitShapeDummy : Type 0
ExplicitShapeDummy = Comes explicit_shape_dummy ([]) 100 (ended ((num 2 ∷ num 1 ∷ num 2 ∷ num 1 ∷ num 2 ∷ []) ∷ []))

--     program p
--     integer :: a(5)
--     a = 1
--     call t(a(1:5:2))
--     print *, a
--     contains
--     subroutine t(x)
--     integer, intent(inout) :: x(4)
--     x = x + 1
--     end subroutine t
--     end program p
unfoldable pub explicit_shape_differs : Program
explicit_shape_differs = program
    ([])
    (procedure 1 false false false
    (entity 2 declared.Integer (Explicit (span Absent (int 5) ∷ [])) role.Own None ∷ [])
    None
    (stmt (Assigns (assign 3 (target (ints 1) (at 0 Whole AllOf)) (int 1))) (stmt (Calls 4 (call 0 (argument 0 (typed (ints
    1) (Named (at 0 (Subscripted (subscript (SubscriptTriplet (Given (int 1)) (Given (int 5)) (Given (int 2))) no_subscript))
    AllOf)))
    no_argument))) (stmt (Print 5 ((typed (ints 1) (Named (at 0 Whole AllOf))) ∷ [])) no_stmt))))
    ((procedure 7 false false false
    (entity 8 declared.Integer (Explicit (span Absent (int 4) ∷ [])) (role.Dummy 0 intent.InOut) None ∷ [])
    None
    (stmt (Assigns (assign 9 (target (ints 1) (at 0 Whole AllOf)) (typed (ints 1) (Binary binary.Add (typed (ints 1) (Named
    (at 0 Whole AllOf))) (int 1))))) no_stmt)) ∷ [])

abbrev pub ExplicitShapeDiffers : Type 0
ExplicitShapeDiffers = Comes explicit_shape_differs ([]) 100 (faulted fault.DummyShape 4 ([]))

--     program p
--     print *, f(5), f(0)
--     contains
--     recursive pure function f(n) result(r)
--     integer, intent(in) :: n
--     integer :: r
--     if (n == 0) then
--       r = 1
--     else
--       r = n * f(n - 1)
--     end if
--     end function
--     end
unfoldable pub factorial : Program
factorial = program
    ([])
    (procedure 1 false false false
    ([])
    None
    (stmt (Print 2 ((typed (ints 0) (Called (call 0 (argument 0 (int 5) no_argument)))) ∷ (typed (ints 0) (Called (call 0
    (argument 0 (int 0) no_argument)))) ∷ [])) no_stmt))
    ((procedure 4 true true false
    (entity 5 declared.Integer Scalars (role.Dummy 0 intent.In) None ∷ entity 6 declared.Integer Scalars role.Own None ∷ [])
    (Some 1)
    (stmt (If (branch 7 (typed (logs 0) (Binary binary.Equal (typed (ints 0) (Named (at 0 Whole AllOf))) (int 0))) (stmt
    (Assigns (assign 8 (target (ints 0) (at 1 Whole AllOf)) (int 1))) no_stmt) no_branch) (stmt (Assigns (assign 10 (target
    (ints 0) (at 1 Whole AllOf)) (typed (ints 0) (Binary binary.Multiply (typed (ints 0) (Named (at 0 Whole AllOf))) (typed
    (ints 0) (Called (call 0 (argument 0 (typed (ints 0) (Binary binary.Subtract (typed (ints 0) (Named (at 0 Whole
    AllOf))) (int 1))) no_argument)))))))) no_stmt)) no_stmt)) ∷ [])

abbrev pub Factorial : Type 0
Factorial = Comes factorial ([]) 100 (ended ((num 120 ∷ num 1 ∷ []) ∷ []))

--     module m
--     integer, parameter :: k = 3
--     contains
--     pure function upto(n)
--     integer, intent(in) :: n
--     integer :: upto(n), i
--     do i = 1, n
--       upto(i) = i * k
--     end do
--     end function
--     pure function twice(s) result(r)
--     character(*), intent(in) :: s
--     character(6) :: r
--     r = s // s
--     end function
--     end module
--     program p
--     use m
--     integer :: n
--     n = 4
--     print *, upto(n), sum(upto(2)), twice('ab'), len(twice('x'))
--     end
unfoldable pub array_function_and_texts : Program
array_function_and_texts = program
    (scalar.Int (pos 3) ∷ [])
    (procedure 17 false false false
    (entity 19 declared.Integer Scalars role.Own None ∷ [])
    None
    (stmt (Assigns (assign 20 (target (ints 0) (at 0 Whole AllOf)) (int 4))) (stmt (Print 21 ((typed (ints 1) (Called (call 0
    (argument 0 (typed (ints 0) (Named (at 0 Whole AllOf))) no_argument)))) ∷ (typed (ints 0) (Reduced reduction.Sum None
    (argument 0 (typed (ints 1) (Called (call 0 (argument 0 (int 2) no_argument)))) no_argument))) ∷ (typed (texts 6 0)
    (Called (call 1 (argument 0 (text 2 (97 ∷ 98 ∷ [])) no_argument)))) ∷ (typed (ints 0) (Asked inquiry.Len None (Of
    (typed (texts 6 0) (Called (call 1 (argument 0 (text 1 (120 ∷ [])) no_argument))))))) ∷ [])) no_stmt)))
    ((procedure 4 false true false
    (entity 5 declared.Integer Scalars (role.Dummy 0 intent.In) None ∷ entity 6 declared.Integer (Explicit (span Absent
    (typed (ints 0) (Named (at 0 Whole AllOf))) ∷ [])) role.Own None ∷ entity 6 declared.Integer Scalars role.Own None ∷ [])
    (Some 1)
    (stmt (Do 7 2 (int 1) (typed (ints 0) (Named (at 0 Whole AllOf))) Absent (stmt (Assigns (assign 8 (target (ints 0) (at 1
    (Subscripted (subscript (One (typed (ints 0) (Named (at 2 Whole AllOf)))) no_subscript)) AllOf)) (typed (ints 0)
    (Binary binary.Multiply (typed (ints 0) (Named (at 2 Whole AllOf))) (constant_at 0 (ints 0)))))) no_stmt)) no_stmt)) ∷
    (procedure 11 false true false
    (entity 12 (declared.Character long.Assumed) Scalars (role.Dummy 0 intent.In) None ∷ entity 13 (declared.Character
    (long.Fixed 6)) Scalars role.Own None ∷ [])
    (Some 1)
    (stmt (Assigns (assign 14 (target (texts 6 0) (at 1 Whole AllOf)) (typed (some_texts 0) (Binary binary.Concat (typed
    (some_texts 0) (Named (at 0 Whole AllOf))) (typed (some_texts 0) (Named (at 0 Whole AllOf))))))) no_stmt)) ∷ [])

abbrev pub ArrayFunctionAndTexts : Type 0
ArrayFunctionAndTexts = Comes array_function_and_texts ([]) 100 (ended ((num 3 ∷ num 6 ∷ num 9 ∷ num 12 ∷ num 9 ∷ chars (97 ∷
    98 ∷ 97 ∷ 98 ∷ 32 ∷ 32 ∷ []) ∷ num 6 ∷ []) ∷ []))

--     program p
--     integer :: a(3), n
--     a = 0
--     call s(a, n, 5)
--     print *, a, n
--     contains
--     subroutine s(x, m, v)
--     integer, intent(out) :: x(0:), m
--     integer, intent(in) :: v
--     x(0) = v
--     m = ubound(x, 1)
--     x(m) = lbound(x, 1) + 7
--     return
--     m = 99
--     end subroutine
--     end
unfoldable pub lower_bounds_and_out : Program
lower_bounds_and_out = program
    ([])
    (procedure 1 false false false
    (entity 2 declared.Integer (Explicit (span Absent (int 3) ∷ [])) role.Own None ∷ entity 2 declared.Integer Scalars
    role.Own None ∷ [])
    None
    (stmt (Assigns (assign 3 (target (ints 1) (at 0 Whole AllOf)) (int 0))) (stmt (Calls 4 (call 0 (argument 0 (typed (ints
    1) (Named (at 0 Whole AllOf))) (argument 1 (typed (ints 0) (Named (at 1 Whole AllOf))) (argument 2 (int 5)
    no_argument))))) (stmt (Print 5 ((typed (ints 1) (Named (at 0 Whole AllOf))) ∷ (typed (ints 0) (Named (at 1 Whole
    AllOf))) ∷ [])) no_stmt))))
    ((procedure 7 false false false
    (entity 8 declared.Integer (Assumed ((Given (int 0)) ∷ [])) (role.Dummy 0 intent.Out) None ∷ entity 8 declared.Integer
    Scalars (role.Dummy 1 intent.Out) None ∷ entity 9 declared.Integer Scalars (role.Dummy 2 intent.In) None ∷ [])
    None
    (stmt (Assigns (assign 10 (target (ints 0) (at 0 (Subscripted (subscript (One (int 0)) no_subscript)) AllOf)) (typed
    (ints 0) (Named (at 2 Whole AllOf))))) (stmt (Assigns (assign 11 (target (ints 0) (at 1 Whole AllOf)) (typed (ints 0)
    (Asked inquiry.Ubound (Some 1) (Name 0))))) (stmt (Assigns (assign 12 (target (ints 0) (at 0 (Subscripted (subscript
    (One (typed (ints 0) (Named (at 1 Whole AllOf)))) no_subscript)) AllOf)) (typed (ints 0) (Binary binary.Add (typed
    (ints 0) (Asked inquiry.Lbound (Some 1) (Name 0))) (int 7))))) (stmt (Return 13) (stmt (Assigns (assign 14 (target
    (ints 0) (at 1 Whole AllOf)) (int 99))) no_stmt)))))) ∷ [])

abbrev pub LowerBoundsAndOut : Type 0
LowerBoundsAndOut = Comes lower_bounds_and_out ([]) 100 (ended ((num 5 ∷ num 0 ∷ num 7 ∷ num 2 ∷ []) ∷ []))
