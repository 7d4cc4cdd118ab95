-- Intrinsic functions and constructors.
use Rattle.std.specs.Prelude.{true, false, None, [], ◌∷◌}
use Rattle.a95_base.specs.declared.fault.FaultKind.TheVariants as fault
use Rattle.f95_unit.specs.declared.operation.UnaryOp.TheVariants as unary
use Rattle.f95_unit.specs.declared.operation.BinaryOp.TheVariants as binary
use Rattle.f95_unit.specs.declared.operation.Elemental.TheVariants as elemental
use Rattle.f95_unit.specs.declared.operation.Inquiry.TheVariants as inquiry
use Rattle.f95_unit.specs.declared.operation.Reduction.TheVariants as reduction
use Rattle.f95_unit.specs.declared.operation.Rearranging.TheVariants as rearranging
use Rattle.f95_unit.specs.declared.unit.DeclaredType.TheVariants as declared
use Rattle.f95_unit.specs.declared.unit.Role.TheVariants as role
use Rattle.f95_unit.specs.Plain.{typed, Named, Brackets, Unary, Binary, Constructor, Elementwise, Asked, Reduced, Rearranged, at}
use Rattle.f95_unit.specs.Plain.{Whole, Subscripted, no_subscript, subscript, SubscriptTriplet, Absent, Given, AllOf, no_item}
use Rattle.f95_unit.specs.Plain.{value, loop, no_argument, argument, Of, Assigns, Print, no_stmt, stmt, Scalars, Explicit, Program}
use Rattle.array_meaning.specs.Build.{ints, logs, texts, int, log, text, index_at, target, assign, span, entity, procedure, program}
use Rattle.array_meaning.specs.Build.{num, neg, chars, ended, faulted, Comes}

--     program p
--     integer :: a(2,3)
--     a = reshape((/1,2,3,4/), (/2,3/), (/8,9/))
--     print *, a
--     a = reshape((/1,2,3,4,5,6/), (/2,3/), order=(/2,1/))
--     print *, a
--     end
unfoldable pub reshaped : Program
reshaped = program
    ([])
    (procedure 1 false false false
    (entity 2 declared.Integer (Explicit (span Absent (int 2) ∷ span Absent (int 3) ∷ [])) role.Own None ∷ [])
    None
    (stmt (Assigns (assign 3 (target (ints 2) (at 0 Whole AllOf)) (typed (ints 2) (Rearranged rearranging.Reshape None
    (argument 0 (typed (ints 1) (Constructor (value (int 1) (value (int 2) (value (int 3) (value (int 4) no_item))))))
    (argument 1 (typed (ints 1) (Constructor (value (int 2) (value (int 3) no_item)))) (argument 2 (typed (ints 1)
    (Constructor (value (int 8) (value (int 9) no_item)))) no_argument))))))) (stmt (Print 4 ((typed (ints 2) (Named (at 0
    Whole AllOf))) ∷ [])) (stmt (Assigns (assign 5 (target (ints 2) (at 0 Whole AllOf)) (typed (ints 2) (Rearranged
    rearranging.Reshape None (argument 0 (typed (ints 1) (Constructor (value (int 1) (value (int 2) (value (int 3) (value
    (int 4) (value (int 5) (value (int 6) no_item)))))))) (argument 1 (typed (ints 1) (Constructor (value (int 2) (value
    (int 3) no_item)))) (argument 3 (typed (ints 1) (Constructor (value (int 2) (value (int 1) no_item))))
    no_argument))))))) (stmt (Print 6 ((typed (ints 2) (Named (at 0 Whole AllOf))) ∷ [])) no_stmt)))))
    ([])

abbrev pub Reshaped : Type 0
Reshaped = Comes reshaped ([]) 100 (ended ((num 1 ∷ num 2 ∷ num 3 ∷ num 4 ∷ num 8 ∷ num 9 ∷ []) ∷ (num 1 ∷ num 4 ∷ num 2 ∷
    num 5 ∷ num 3 ∷ num 6 ∷ []) ∷ []))

--     program p
--     integer :: i, j, a(3)
--     a = (/ (i*i, i = 1, 3) /)
--     print *, a, (/ ((10*i + j, j = 1, i), i = 1, 3) /), (/ a, 7 /), (/ (i, i = 5, 1, -2) /)
--     print *, (/ 'ab', 'cd' /)
--     end
unfoldable pub constructors : Program
constructors = program
    ([])
    (procedure 1 false false false
    (entity 2 declared.Integer Scalars role.Own None ∷ entity 2 declared.Integer Scalars role.Own None ∷ entity 2
    declared.Integer (Explicit (span Absent (int 3) ∷ [])) role.Own None ∷ [])
    None
    (stmt (Assigns (assign 3 (target (ints 1) (at 2 Whole AllOf)) (typed (ints 1) (Constructor (loop (value (typed (ints 0)
    (Binary binary.Multiply (index_at 0) (index_at 0))) no_item) (int 1) (int 3) Absent no_item))))) (stmt (Print 4 ((typed
    (ints 1) (Named (at 2 Whole AllOf))) ∷ (typed (ints 1) (Constructor (loop (loop (value (typed (ints 0) (Binary
    binary.Add (typed (ints 0) (Binary binary.Multiply (int 10) (index_at 0))) (index_at 1))) no_item) (int 1) (index_at 0)
    Absent no_item) (int 1) (int 3) Absent no_item))) ∷ (typed (ints 1) (Constructor (value (typed (ints 1) (Named (at 2
    Whole AllOf))) (value (int 7) no_item)))) ∷ (typed (ints 1) (Constructor (loop (value (index_at 0) no_item) (int 5)
    (int 1) (Given (typed (ints 0) (Unary unary.Minus (int 2)))) no_item))) ∷ [])) (stmt (Print 5 ((typed (texts 2 1)
    (Constructor (value (text 2 (97 ∷ 98 ∷ [])) (value (text 2 (99 ∷ 100 ∷ [])) no_item)))) ∷ [])) no_stmt))))
    ([])

abbrev pub Constructors : Type 0
Constructors = Comes constructors ([]) 100 (ended ((num 1 ∷ num 4 ∷ num 9 ∷ num 11 ∷ num 21 ∷ num 22 ∷ num 31 ∷ num 32 ∷ num
    33 ∷ num 1 ∷ num 4 ∷ num 9 ∷ num 7 ∷ num 5 ∷ num 3 ∷ num 1 ∷ []) ∷ (chars (97 ∷ 98 ∷ []) ∷ chars (99 ∷ 100 ∷ []) ∷ []) ∷
    []))

--     program p; print *, 2**10, (-2)**3, 2**31, 3**0, 0**0, 1**(-5), (-1)**(-3), 5**(-2); end
unfoldable pub powers : Program
powers = program
    ([])
    (procedure 1 false false false
    ([])
    None
    (stmt (Print 1 ((typed (ints 0) (Binary binary.Power (int 2) (int 10))) ∷ (typed (ints 0) (Binary binary.Power (typed
    (ints 0) (Brackets (typed (ints 0) (Unary unary.Minus (int 2))))) (int 3))) ∷ (typed (ints 0) (Binary binary.Power (int
    2) (int 31))) ∷ (typed (ints 0) (Binary binary.Power (int 3) (int 0))) ∷ (typed (ints 0) (Binary binary.Power (int 0)
    (int 0))) ∷ (typed (ints 0) (Binary binary.Power (int 1) (typed (ints 0) (Brackets (typed (ints 0) (Unary unary.Minus
    (int 5))))))) ∷ (typed (ints 0) (Binary binary.Power (typed (ints 0) (Brackets (typed (ints 0) (Unary unary.Minus (int
    1))))) (typed (ints 0) (Brackets (typed (ints 0) (Unary unary.Minus (int 3))))))) ∷ (typed (ints 0) (Binary
    binary.Power (int 5) (typed (ints 0) (Brackets (typed (ints 0) (Unary unary.Minus (int 2))))))) ∷ [])) no_stmt))
    ([])

abbrev pub Powers : Type 0
Powers = Comes powers ([]) 100 (ended ((num 1024 ∷ neg 8 ∷ neg 2147483648 ∷ num 1 ∷ num 1 ∷ num 1 ∷ neg 1 ∷ num 0 ∷ []) ∷ []))

--     program p; integer :: n; n = 1/n + ichar(char(300 + n)); end
unfoldable pub scalar_elemental_is_a_part : Program
scalar_elemental_is_a_part = program
    ([])
    (procedure 1 false false false
    (entity 1 declared.Integer Scalars role.Own None ∷ [])
    None
    (stmt (Assigns (assign 1 (target (ints 0) (at 0 Whole AllOf)) (typed (ints 0) (Binary binary.Add (typed (ints 0) (Binary
    binary.Divide (int 1) (typed (ints 0) (Named (at 0 Whole AllOf))))) (typed (ints 0) (Elementwise elemental.Ichar
    (argument 0 (typed (texts 1 0) (Elementwise elemental.Char (argument 0 (typed (ints 0) (Binary binary.Add (int 300)
    (typed (ints 0) (Named (at 0 Whole AllOf))))) no_argument))) no_argument))))))) no_stmt))
    ([])

abbrev pub ScalarElementalIsAPart : Type 0
ScalarElementalIsAPart = Comes scalar_elemental_is_a_part ([]) 100 (faulted fault.CharRange 1 ([]))

--     program p
--     integer :: a(2), b(2)
--     a = (/65,300/)
--     b = (/0,1/)
--     print *, sum(ichar(char(a)), mask = 1/b > 0)
--     end
unfoldable pub place_by_place : Program
place_by_place = program
    ([])
    (procedure 1 false false false
    (entity 2 declared.Integer (Explicit (span Absent (int 2) ∷ [])) role.Own None ∷ entity 2 declared.Integer (Explicit
    (span Absent (int 2) ∷ [])) role.Own None ∷ [])
    None
    (stmt (Assigns (assign 3 (target (ints 1) (at 0 Whole AllOf)) (typed (ints 1) (Constructor (value (int 65) (value (int
    300) no_item)))))) (stmt (Assigns (assign 4 (target (ints 1) (at 1 Whole AllOf)) (typed (ints 1) (Constructor (value
    (int 0) (value (int 1) no_item)))))) (stmt (Print 5 ((typed (ints 0) (Reduced reduction.Sum None (argument 0 (typed
    (ints 1) (Elementwise elemental.Ichar (argument 0 (typed (texts 1 1) (Elementwise elemental.Char (argument 0 (typed
    (ints 1) (Named (at 0 Whole AllOf))) no_argument))) no_argument))) (argument 2 (typed (logs 1) (Binary binary.Greater
    (typed (ints 1) (Binary binary.Divide (int 1) (typed (ints 1) (Named (at 1 Whole AllOf))))) (int 0))) no_argument)))) ∷
    [])) no_stmt))))
    ([])

abbrev pub PlaceByPlace : Type 0
PlaceByPlace = Comes place_by_place ([]) 100 (faulted fault.ZeroDivide 5 ([]))

--     program p
--     integer :: a(2), b(2,2)
--     a = (/65,300/)
--     print *, matmul(ichar(char(a)), 1/b)
--     end
unfoldable pub matrices_one_after_the_other : Program
matrices_one_after_the_other = program
    ([])
    (procedure 1 false false false
    (entity 2 declared.Integer (Explicit (span Absent (int 2) ∷ [])) role.Own None ∷ entity 2 declared.Integer (Explicit
    (span Absent (int 2) ∷ span Absent (int 2) ∷ [])) role.Own None ∷ [])
    None
    (stmt (Assigns (assign 3 (target (ints 1) (at 0 Whole AllOf)) (typed (ints 1) (Constructor (value (int 65) (value (int
    300) no_item)))))) (stmt (Print 4 ((typed (ints 1) (Reduced reduction.Matmul None (argument 0 (typed (ints 1)
    (Elementwise elemental.Ichar (argument 0 (typed (texts 1 1) (Elementwise elemental.Char (argument 0 (typed (ints 1)
    (Named (at 0 Whole AllOf))) no_argument))) no_argument))) (argument 1 (typed (ints 2) (Binary binary.Divide (int 1)
    (typed (ints 2) (Named (at 1 Whole AllOf))))) no_argument)))) ∷ [])) no_stmt)))
    ([])

abbrev pub MatricesOneAfterTheOther : Type 0
MatricesOneAfterTheOther = Comes matrices_one_after_the_other ([]) 100 (faulted fault.CharRange 4 ([]))

--     program p
--     integer :: a(3), n
--     n = 2
--     print *, size(a + a(1:n))
--     end
unfoldable pub shape_asks_for_conformance : Program
shape_asks_for_conformance = program
    ([])
    (procedure 1 false false false
    (entity 2 declared.Integer (Explicit (span Absent (int 3) ∷ [])) role.Own None ∷ entity 2 declared.Integer Scalars
    role.Own None ∷ [])
    None
    (stmt (Assigns (assign 3 (target (ints 0) (at 1 Whole AllOf)) (int 2))) (stmt (Print 4 ((typed (ints 0) (Asked
    inquiry.Size None (Of (typed (ints 1) (Binary binary.Add (typed (ints 1) (Named (at 0 Whole AllOf))) (typed (ints 1)
    (Named (at 0 (Subscripted (subscript (SubscriptTriplet (Given (int 1)) (Given (typed (ints 0) (Named (at 1 Whole AllOf))))
    Absent)
    no_subscript)) AllOf)))))))) ∷ [])) no_stmt)))
    ([])

abbrev pub ShapeAsksForConformance : Type 0
ShapeAsksForConformance = Comes shape_asks_for_conformance ([]) 100 (faulted fault.Shape 4 ([]))

--     program p; integer :: n; print *, merge(1, 1/n, .true.); end
unfoldable pub merge_evaluates_all : Program
merge_evaluates_all = program
    ([])
    (procedure 1 false false false
    (entity 1 declared.Integer Scalars role.Own None ∷ [])
    None
    (stmt (Print 1 ((typed (ints 0) (Elementwise elemental.Merge (argument 0 (int 1) (argument 1 (typed (ints 0) (Binary
    binary.Divide (int 1) (typed (ints 0) (Named (at 0 Whole AllOf))))) (argument 2 (log true) no_argument))))) ∷ []))
    no_stmt))
    ([])

abbrev pub MergeEvaluatesAll : Type 0
MergeEvaluatesAll = Comes merge_evaluates_all ([]) 100 (faulted fault.ZeroDivide 1 ([]))

--     program p
--     integer :: a(3), n
--     n = 2
--     print *, unpack((/1,2/), a(1:n) == 0, a(2:3))
--     print *, unpack((/1,2/), a == 0, a)
--     end
unfoldable pub unpack_needs_elements : Program
unpack_needs_elements = program
    ([])
    (procedure 1 false false false
    (entity 2 declared.Integer (Explicit (span Absent (int 3) ∷ [])) role.Own None ∷ entity 2 declared.Integer Scalars
    role.Own None ∷ [])
    None
    (stmt (Assigns (assign 3 (target (ints 0) (at 1 Whole AllOf)) (int 2))) (stmt (Print 4 ((typed (ints 1) (Rearranged
    rearranging.Unpack None (argument 0 (typed (ints 1) (Constructor (value (int 1) (value (int 2) no_item)))) (argument 1
    (typed (logs 1) (Binary binary.Equal (typed (ints 1) (Named (at 0 (Subscripted (subscript (SubscriptTriplet (Given (int 1))
    (Given
    (typed (ints 0) (Named (at 1 Whole AllOf)))) Absent) no_subscript)) AllOf))) (int 0))) (argument 2 (typed (ints 1)
    (Named (at 0 (Subscripted (subscript (SubscriptTriplet (Given (int 2)) (Given (int 3)) Absent) no_subscript)) AllOf)))
    no_argument))))) ∷ [])) (stmt (Print 5 ((typed (ints 1) (Rearranged rearranging.Unpack None (argument 0 (typed (ints 1)
    (Constructor (value (int 1) (value (int 2) no_item)))) (argument 1 (typed (logs 1) (Binary binary.Equal (typed (ints 1)
    (Named (at 0 Whole AllOf))) (int 0))) (argument 2 (typed (ints 1) (Named (at 0 Whole AllOf))) no_argument))))) ∷ []))
    no_stmt))))
    ([])

abbrev pub UnpackNeedsElements : Type 0
UnpackNeedsElements = Comes unpack_needs_elements ([]) 100 (faulted fault.Argument 5 ((num 1 ∷ num 2 ∷ []) ∷ []))
