-- Subroutines and functions.
use Rattle.std.specs.Prelude.{true, false, Some, None, [], ◌∷◌}
use Rattle.a95_base.specs.declared.fault.FaultKind.TheVariants as fault
use Rattle.f95_unit.specs.declared.operation.UnaryOp.TheVariants as unary
use Rattle.f95_unit.specs.declared.operation.BinaryOp.TheVariants as binary
use Rattle.f95_unit.specs.declared.operation.Inquiry.TheVariants as inquiry
use Rattle.f95_unit.specs.declared.operation.Rearranging.TheVariants as rearranging
use Rattle.f95_unit.specs.declared.unit.DeclaredType.TheVariants as declared
use Rattle.f95_unit.specs.declared.unit.Length.TheVariants as long
use Rattle.f95_unit.specs.declared.unit.Role.TheVariants as role
use Rattle.f95_unit.specs.declared.unit.Intent.TheVariants as intent
use Rattle.f95_unit.specs.Plain.{typed, Named, Brackets, Unary, Binary, Constructor, Trim, Asked, Rearranged, Called, at, Whole}
use Rattle.f95_unit.specs.Plain.{Subscripted, no_subscript, subscript, One, Vector, SubscriptTriplet, Absent, Given, AllOf, no_item}
use Rattle.f95_unit.specs.Plain.{value, no_argument, argument, Name, call, masked, no_masked, assigning, no_other, elsewhere}
use Rattle.f95_unit.specs.Plain.{Assigns, Masks, Calls, Allocate, Print, Do, no_stmt, stmt, Scalars, Explicit, Assumed, Deferred}
use Rattle.f95_unit.specs.Plain.{Program}
use Rattle.array_meaning.specs.Build.{ints, logs, texts, some_texts, int, text, target, assign, span, allocation, entity, procedure}
use Rattle.array_meaning.specs.Build.{program, num, chars, ended, faulted, going, Comes}

--     program p
--     integer :: i
--     i = 3
--     call s(i, (i))
--     print *, i
--     contains
--     subroutine s(x, y)
--     integer, intent(out) :: x
--     integer, intent(in) :: y
--     x = y + y
--     end subroutine
--     end
unfoldable pub brackets_pass_a_value : Program
brackets_pass_a_value = program
    ([])
    (procedure 1 false false false
    (entity 2 declared.Integer Scalars role.Own None ∷ [])
    None
    (stmt (Assigns (assign 3 (target (ints 0) (at 0 Whole AllOf)) (int 3))) (stmt (Calls 4 (call 0 (argument 0 (typed (ints
    0) (Named (at 0 Whole AllOf))) (argument 1 (typed (ints 0) (Brackets (typed (ints 0) (Named (at 0 Whole AllOf)))))
    no_argument)))) (stmt (Print 5 ((typed (ints 0) (Named (at 0 Whole AllOf))) ∷ [])) no_stmt))))
    ((procedure 7 false false false
    (entity 8 declared.Integer Scalars (role.Dummy 0 intent.Out) None ∷ entity 9 declared.Integer Scalars (role.Dummy 1
    intent.In) None ∷ [])
    None
    (stmt (Assigns (assign 10 (target (ints 0) (at 0 Whole AllOf)) (typed (ints 0) (Binary binary.Add (typed (ints 0) (Named
    (at 1 Whole AllOf))) (typed (ints 0) (Named (at 1 Whole AllOf))))))) no_stmt)) ∷ [])

abbrev pub BracketsPassAValue : Type 0
BracketsPassAValue = Comes brackets_pass_a_value ([]) 100 (ended ((num 6 ∷ []) ∷ []))

--     module life
--     contains
--       subroutine step(w)
--         integer, intent(inout) :: w(:,:)
--         integer :: n(size(w,1), size(w,2))
--         n = cshift(w,1,1) + cshift(w,-1,1) + cshift(w,1,2) + cshift(w,-1,2) &
--           + cshift(cshift(w,1,1),1,2) + cshift(cshift(w,1,1),-1,2) &
--           + cshift(cshift(w,-1,1),1,2) + cshift(cshift(w,-1,1),-1,2)
--         where (n == 3)
--           w = 1
--         elsewhere (n /= 2)
--           w = 0
--         end where
--       end subroutine step
--     end module life
--     program p
--       use life
--       integer :: w(5,5), i
--       w = 0
--       w(2:4,3) = 1
--       do i = 1, 2
--         call step(w)
--         print *, w
--       end do
--     end program p
unfoldable pub blinker : Program
blinker = program
    ([])
    (procedure 16 false false false
    (entity 18 declared.Integer (Explicit (span Absent (int 5) ∷ span Absent (int 5) ∷ [])) role.Own None ∷ entity 18
    declared.Integer Scalars role.Own None ∷ [])
    None
    (stmt (Assigns (assign 19 (target (ints 2) (at 0 Whole AllOf)) (int 0))) (stmt (Assigns (assign 20 (target (ints 1) (at 0
    (Subscripted (subscript (SubscriptTriplet (Given (int 2)) (Given (int 4)) Absent) (subscript (One (int 3)) no_subscript)))
    AllOf))
    (int 1))) (stmt (Do 21 1 (int 1) (int 2) Absent (stmt (Calls 22 (call 0 (argument 0 (typed (ints 2) (Named (at 0 Whole
    AllOf))) no_argument))) (stmt (Print 23 ((typed (ints 2) (Named (at 0 Whole AllOf))) ∷ [])) no_stmt))) no_stmt))))
    ((procedure 3 false false false
    (entity 4 declared.Integer (Assumed (Absent ∷ Absent ∷ [])) (role.Dummy 0 intent.InOut) None ∷ entity 5 declared.Integer
    (Explicit (span Absent (typed (ints 0) (Asked inquiry.Size (Some 1) (Name 0))) ∷ span Absent (typed (ints 0) (Asked
    inquiry.Size (Some 2) (Name 0))) ∷ [])) role.Own None ∷ [])
    None
    (stmt (Assigns (assign 6 (target (ints 2) (at 1 Whole AllOf)) (typed (ints 2) (Binary binary.Add (typed (ints 2) (Binary
    binary.Add (typed (ints 2) (Binary binary.Add (typed (ints 2) (Binary binary.Add (typed (ints 2) (Binary binary.Add
    (typed (ints 2) (Binary binary.Add (typed (ints 2) (Binary binary.Add (typed (ints 2) (Rearranged rearranging.Cshift
    (Some 1) (argument 0 (typed (ints 2) (Named (at 0 Whole AllOf))) (argument 1 (int 1) no_argument)))) (typed (ints 2)
    (Rearranged rearranging.Cshift (Some 1) (argument 0 (typed (ints 2) (Named (at 0 Whole AllOf))) (argument 1 (typed
    (ints 0) (Unary unary.Minus (int 1))) no_argument)))))) (typed (ints 2) (Rearranged rearranging.Cshift (Some 2)
    (argument 0 (typed (ints 2) (Named (at 0 Whole AllOf))) (argument 1 (int 1) no_argument)))))) (typed (ints 2)
    (Rearranged rearranging.Cshift (Some 2) (argument 0 (typed (ints 2) (Named (at 0 Whole AllOf))) (argument 1 (typed
    (ints 0) (Unary unary.Minus (int 1))) no_argument)))))) (typed (ints 2) (Rearranged rearranging.Cshift (Some 2)
    (argument 0 (typed (ints 2) (Rearranged rearranging.Cshift (Some 1) (argument 0 (typed (ints 2) (Named (at 0 Whole
    AllOf))) (argument 1 (int 1) no_argument)))) (argument 1 (int 1) no_argument)))))) (typed (ints 2) (Rearranged
    rearranging.Cshift (Some 2) (argument 0 (typed (ints 2) (Rearranged rearranging.Cshift (Some 1) (argument 0 (typed
    (ints 2) (Named (at 0 Whole AllOf))) (argument 1 (int 1) no_argument)))) (argument 1 (typed (ints 0) (Unary unary.Minus
    (int 1))) no_argument)))))) (typed (ints 2) (Rearranged rearranging.Cshift (Some 2) (argument 0 (typed (ints 2)
    (Rearranged rearranging.Cshift (Some 1) (argument 0 (typed (ints 2) (Named (at 0 Whole AllOf))) (argument 1 (typed
    (ints 0) (Unary unary.Minus (int 1))) no_argument)))) (argument 1 (int 1) no_argument)))))) (typed (ints 2) (Rearranged
    rearranging.Cshift (Some 2) (argument 0 (typed (ints 2) (Rearranged rearranging.Cshift (Some 1) (argument 0 (typed
    (ints 2) (Named (at 0 Whole AllOf))) (argument 1 (typed (ints 0) (Unary unary.Minus (int 1))) no_argument)))) (argument
    1 (typed (ints 0) (Unary unary.Minus (int 1))) no_argument)))))))) (stmt (Masks (masked 9 (typed (logs 2) (Binary
    binary.Equal (typed (ints 2) (Named (at 1 Whole AllOf))) (int 3))) (assigning (assign 10 (target (ints 2) (at 0 Whole
    AllOf)) (int 1)) no_masked) (elsewhere 11 (Some (typed (logs 2) (Binary binary.NotEqual (typed (ints 2) (Named (at 1
    Whole AllOf))) (int 2)))) (assigning (assign 12 (target (ints 2) (at 0 Whole AllOf)) (int 0)) no_masked) no_other)))
    no_stmt))) ∷ [])

abbrev pub Blinker : Type 0
Blinker = Comes blinker ([]) 100 (ended ((num 0 ∷ num 0 ∷ num 0 ∷ num 0 ∷ num 0 ∷ num 0 ∷ num 0 ∷ num 1 ∷ num 0 ∷ num 0 ∷ num
    0 ∷ num 0 ∷ num 1 ∷ num 0 ∷ num 0 ∷ num 0 ∷ num 0 ∷ num 1 ∷ num 0 ∷ num 0 ∷ num 0 ∷ num 0 ∷ num 0 ∷ num 0 ∷ num 0 ∷ []) ∷
    (num 0 ∷ num 0 ∷ num 0 ∷ num 0 ∷ num 0 ∷ num 0 ∷ num 0 ∷ num 0 ∷ num 0 ∷ num 0 ∷ num 0 ∷ num 1 ∷ num 1 ∷ num 1 ∷ num 0 ∷
    num 0 ∷ num 0 ∷ num 0 ∷ num 0 ∷ num 0 ∷ num 0 ∷ num 0 ∷ num 0 ∷ num 0 ∷ num 0 ∷ []) ∷ []))

--     program p
--     integer :: i
--     i = 3
--     call s(i, i)
--     contains
--     subroutine s(x, y)
--     integer, intent(in) :: x
--     integer, intent(out) :: y
--     y = x
--     end subroutine
--     end
unfoldable pub one_scalar_twice : Program
one_scalar_twice = program
    ([])
    (procedure 1 false false false
    (entity 2 declared.Integer Scalars role.Own None ∷ [])
    None
    (stmt (Assigns (assign 3 (target (ints 0) (at 0 Whole AllOf)) (int 3))) (stmt (Calls 4 (call 0 (argument 0 (typed (ints
    0) (Named (at 0 Whole AllOf))) (argument 1 (typed (ints 0) (Named (at 0 Whole AllOf))) no_argument)))) no_stmt)))
    ((procedure 6 false false false
    (entity 7 declared.Integer Scalars (role.Dummy 0 intent.In) None ∷ entity 8 declared.Integer Scalars (role.Dummy 1
    intent.Out) None ∷ [])
    None
    (stmt (Assigns (assign 9 (target (ints 0) (at 1 Whole AllOf)) (typed (ints 0) (Named (at 0 Whole AllOf))))) no_stmt)) ∷
    [])

abbrev pub OneScalarTwice : Type 0
OneScalarTwice = Comes one_scalar_twice ([]) 100 (faulted fault.Overlap 4 ([]))

--     program p
--     integer :: a(3)
--     a = (/1,2,3/)
--     call s(a(1:2), a((/1,2/)))
--     print *, a
--     contains
--     subroutine s(x, y)
--     integer, intent(inout) :: x(:)
--     integer, intent(in) :: y(:)
--     x = x + 10
--     x = x + y
--     end subroutine
--     end
unfoldable pub vector_subscript_is_a_value : Program
vector_subscript_is_a_value = program
    ([])
    (procedure 1 false false false
    (entity 2 declared.Integer (Explicit (span Absent (int 3) ∷ [])) role.Own None ∷ [])
    None
    (stmt (Assigns (assign 3 (target (ints 1) (at 0 Whole AllOf)) (typed (ints 1) (Constructor (value (int 1) (value (int 2)
    (value (int 3) no_item))))))) (stmt (Calls 4 (call 0 (argument 0 (typed (ints 1) (Named (at 0 (Subscripted (subscript
    (SubscriptTriplet (Given (int 1)) (Given (int 2)) Absent) no_subscript)) AllOf))) (argument 1 (typed (ints 1) (Named (at 0
    (Subscripted (subscript (Vector (typed (ints 1) (Constructor (value (int 1) (value (int 2) no_item))))) no_subscript))
    AllOf))) no_argument)))) (stmt (Print 5 ((typed (ints 1) (Named (at 0 Whole AllOf))) ∷ [])) no_stmt))))
    ((procedure 7 false false false
    (entity 8 declared.Integer (Assumed (Absent ∷ [])) (role.Dummy 0 intent.InOut) None ∷ entity 9 declared.Integer (Assumed
    (Absent ∷ [])) (role.Dummy 1 intent.In) None ∷ [])
    None
    (stmt (Assigns (assign 10 (target (ints 1) (at 0 Whole AllOf)) (typed (ints 1) (Binary binary.Add (typed (ints 1) (Named
    (at 0 Whole AllOf))) (int 10))))) (stmt (Assigns (assign 11 (target (ints 1) (at 0 Whole AllOf)) (typed (ints 1)
    (Binary binary.Add (typed (ints 1) (Named (at 0 Whole AllOf))) (typed (ints 1) (Named (at 1 Whole AllOf)))))))
    no_stmt))) ∷ [])

abbrev pub VectorSubscriptIsAValue : Type 0
VectorSubscriptIsAValue = Comes vector_subscript_is_a_value ([]) 100 (ended ((num 12 ∷ num 14 ∷ num 3 ∷ []) ∷ []))

--     program p
--     integer :: a(2)
--     a = (/1,2/)
--     call s(a)
--     print *, a
--     contains
--     subroutine s(x)
--     integer, intent(out) :: x(:)
--     x(2) = x(1) + 4
--     end subroutine
--     end
unfoldable pub out_starts_with_the_actual : Program
out_starts_with_the_actual = program
    ([])
    (procedure 1 false false false
    (entity 2 declared.Integer (Explicit (span Absent (int 2) ∷ [])) role.Own None ∷ [])
    None
    (stmt (Assigns (assign 3 (target (ints 1) (at 0 Whole AllOf)) (typed (ints 1) (Constructor (value (int 1) (value (int 2)
    no_item)))))) (stmt (Calls 4 (call 0 (argument 0 (typed (ints 1) (Named (at 0 Whole AllOf))) no_argument))) (stmt
    (Print 5 ((typed (ints 1) (Named (at 0 Whole AllOf))) ∷ [])) no_stmt))))
    ((procedure 7 false false false
    (entity 8 declared.Integer (Assumed (Absent ∷ [])) (role.Dummy 0 intent.Out) None ∷ [])
    None
    (stmt (Assigns (assign 9 (target (ints 0) (at 0 (Subscripted (subscript (One (int 2)) no_subscript)) AllOf)) (typed (ints
    0) (Binary binary.Add (typed (ints 0) (Named (at 0 (Subscripted (subscript (One (int 1)) no_subscript)) AllOf))) (int
    4))))) no_stmt)) ∷ [])

abbrev pub OutStartsWithTheActual : Type 0
OutStartsWithTheActual = Comes out_starts_with_the_actual ([]) 100 (ended ((num 1 ∷ num 5 ∷ []) ∷ []))

--     program p
--     character(5) :: s
--     s = 'ab'
--     call t(trim(s))
--     contains
--     subroutine t(x)
--     character(3), intent(in) :: x
--     print *, x
--     end subroutine
--     end
unfoldable pub length_differs : Program
length_differs = program
    ([])
    (procedure 1 false false false
    (entity 2 (declared.Character (long.Fixed 5)) Scalars role.Own None ∷ [])
    None
    (stmt (Assigns (assign 3 (target (texts 5 0) (at 0 Whole AllOf)) (text 2 (97 ∷ 98 ∷ [])))) (stmt (Calls 4 (call 0
    (argument 0 (typed (some_texts 0) (Trim (typed (texts 5 0) (Named (at 0 Whole AllOf))))) no_argument))) no_stmt)))
    ((procedure 6 false false false
    (entity 7 (declared.Character (long.Fixed 3)) Scalars (role.Dummy 0 intent.In) None ∷ [])
    None
    (stmt (Print 8 ((typed (texts 3 0) (Named (at 0 Whole AllOf))) ∷ [])) no_stmt)) ∷ [])

abbrev pub LengthDiffers : Type 0
LengthDiffers = Comes length_differs ([]) 100 (faulted fault.DummyShape 4 ([]))

--     program p
--     call s(1)
--     call s(2)
--     contains
--     subroutine s(k)
--     integer, intent(in) :: k
--     integer :: n, v(k)
--     integer, allocatable :: a(:)
--     n = n + k
--     allocate(a(k))
--     a = n
--     v = v + a
--     print *, v
--     end subroutine
--     end
unfoldable pub locals_begin_anew : Program
locals_begin_anew = program
    ([])
    (procedure 1 false false false
    ([])
    None
    (stmt (Calls 2 (call 0 (argument 0 (int 1) no_argument))) (stmt (Calls 3 (call 0 (argument 0 (int 2) no_argument)))
    no_stmt)))
    ((procedure 5 false false false
    (entity 6 declared.Integer Scalars (role.Dummy 0 intent.In) None ∷ entity 7 declared.Integer Scalars role.Own None ∷
    entity 7 declared.Integer (Explicit (span Absent (typed (ints 0) (Named (at 0 Whole AllOf))) ∷ [])) role.Own None ∷
    entity 8 declared.Integer (Deferred 1) role.Own None ∷ [])
    None
    (stmt (Assigns (assign 9 (target (ints 0) (at 1 Whole AllOf)) (typed (ints 0) (Binary binary.Add (typed (ints 0) (Named
    (at 1 Whole AllOf))) (typed (ints 0) (Named (at 0 Whole AllOf))))))) (stmt (Allocate 10 (allocation 3 (span Absent
    (typed (ints 0) (Named (at 0 Whole AllOf))) ∷ []) ∷ [])) (stmt (Assigns (assign 11 (target (ints 1) (at 3 Whole AllOf))
    (typed (ints 0) (Named (at 1 Whole AllOf))))) (stmt (Assigns (assign 12 (target (ints 1) (at 2 Whole AllOf)) (typed
    (ints 1) (Binary binary.Add (typed (ints 1) (Named (at 2 Whole AllOf))) (typed (ints 1) (Named (at 3 Whole AllOf)))))))
    (stmt (Print 13 ((typed (ints 1) (Named (at 2 Whole AllOf))) ∷ [])) no_stmt)))))) ∷ [])

abbrev pub LocalsBeginAnew : Type 0
LocalsBeginAnew = Comes locals_begin_anew ([]) 100 (ended ((num 1 ∷ []) ∷ (num 2 ∷ num 2 ∷ []) ∷ []))

--     program p
--     integer :: a(3)
--     a = 1
--     print *, a
--     print *, g(a)
--     contains
--     elemental integer function g(x)
--     integer, intent(in) :: x
--     g = x + 1
--     end function
--     end
unfoldable pub each_element_is_a_call : Program
each_element_is_a_call = program
    ([])
    (procedure 1 false false false
    (entity 2 declared.Integer (Explicit (span Absent (int 3) ∷ [])) role.Own None ∷ [])
    None
    (stmt (Assigns (assign 3 (target (ints 1) (at 0 Whole AllOf)) (int 1))) (stmt (Print 4 ((typed (ints 1) (Named (at 0
    Whole AllOf))) ∷ [])) (stmt (Print 5 ((typed (ints 1) (Called (call 0 (argument 0 (typed (ints 1) (Named (at 0 Whole
    AllOf))) no_argument)))) ∷ [])) no_stmt))))
    ((procedure 7 false false true
    (entity 7 declared.Integer Scalars role.Own None ∷ entity 8 declared.Integer Scalars (role.Dummy 0 intent.In) None ∷ [])
    (Some 0)
    (stmt (Assigns (assign 9 (target (ints 0) (at 0 Whole AllOf)) (typed (ints 0) (Binary binary.Add (typed (ints 0) (Named
    (at 1 Whole AllOf))) (int 1))))) no_stmt)) ∷ [])

abbrev pub EachElementIsACall : Type 0
EachElementIsACall = Comes each_element_is_a_call ([]) 2 (going ((num 1 ∷ num 1 ∷ num 1 ∷ []) ∷ []))

--     program p
--     print *, f(y = 2, x = 10), g('x')
--     contains
--     pure integer function f(x, y)
--     integer, intent(in) :: x, y
--     f = x - y
--     end function
--     elemental character(3) function g(s)
--     character(*), intent(in) :: s
--     g = s // '!'
--     end function
--     end
unfoldable pub keywords_and_text_result : Program
keywords_and_text_result = program
    ([])
    (procedure 1 false false false
    ([])
    None
    (stmt (Print 2 ((typed (ints 0) (Called (call 0 (argument 1 (int 2) (argument 0 (int 10) no_argument))))) ∷ (typed (texts
    3 0) (Called (call 1 (argument 0 (text 1 (120 ∷ [])) no_argument)))) ∷ [])) no_stmt))
    ((procedure 4 false true false
    (entity 4 declared.Integer Scalars role.Own None ∷ entity 5 declared.Integer Scalars (role.Dummy 0 intent.In) None ∷
    entity 5 declared.Integer Scalars (role.Dummy 1 intent.In) None ∷ [])
    (Some 0)
    (stmt (Assigns (assign 6 (target (ints 0) (at 0 Whole AllOf)) (typed (ints 0) (Binary binary.Subtract (typed (ints 0)
    (Named (at 1 Whole AllOf))) (typed (ints 0) (Named (at 2 Whole AllOf))))))) no_stmt)) ∷ (procedure 8 false false true
    (entity 8 (declared.Character (long.Fixed 3)) Scalars role.Own None ∷ entity 9 (declared.Character long.Assumed) Scalars
    (role.Dummy 0 intent.In) None ∷ [])
    (Some 0)
    (stmt (Assigns (assign 10 (target (texts 3 0) (at 0 Whole AllOf)) (typed (some_texts 0) (Binary binary.Concat (typed
    (some_texts 0) (Named (at 1 Whole AllOf))) (text 1 (33 ∷ [])))))) no_stmt)) ∷ [])

abbrev pub KeywordsAndTextResult : Type 0
KeywordsAndTextResult = Comes keywords_and_text_result ([]) 100 (ended ((num 8 ∷ chars (120 ∷ 33 ∷ 32 ∷ []) ∷ []) ∷ []))
