-- Assignments of whole arrays, sections, texts and scalars, and initial values.
use Rattle.std.specs.Prelude.{true, false, Some, None, [], ◌∷◌}
use Rattle.a95_base.specs.declared.fault.FaultKind.TheVariants as fault
use Rattle.f95_unit.specs.declared.operation.UnaryOp.TheVariants as unary
use Rattle.f95_unit.specs.declared.operation.BinaryOp.TheVariants as binary
use Rattle.f95_unit.specs.declared.operation.Elemental.TheVariants as elemental
use Rattle.f95_unit.specs.declared.operation.Inquiry.TheVariants as inquiry
use Rattle.f95_unit.specs.declared.operation.Reduction.TheVariants as reduction
use Rattle.f95_unit.specs.declared.unit.DeclaredType.TheVariants as declared
use Rattle.f95_unit.specs.declared.unit.Length.TheVariants as long
use Rattle.f95_unit.specs.declared.unit.Role.TheVariants as role
use Rattle.f95_unit.specs.Plain.{typed, Named, Brackets, Unary, Binary, Constructor, Elementwise, Asked, Reduced, at, Whole}
use Rattle.f95_unit.specs.Plain.{Subscripted, no_subscript, subscript, One, SubscriptTriplet, Absent, Given, AllOf, BytesOf}
use Rattle.f95_unit.specs.Plain.{no_item, value, loop, no_argument, argument, Of, Assigns, Print, no_stmt, stmt, Scalars, Explicit}
use Rattle.f95_unit.specs.Plain.{Program}
use Rattle.array_meaning.specs.Build.{ints, logs, texts, some_texts, int, text, index_at, target, assign, span, entity, procedure}
use Rattle.array_meaning.specs.Build.{program, num, neg, chars, truth, ended, faulted, Comes}

--     program p
--     character(6) :: s, c(2)
--     s = 'abcdef'
--     s(3:4) = 'xyz'
--     c = 'uvwxyz'
--     c(:)(5:) = 'Q'
--     s(4:2) = 'no'
--     print *, s, c, s(2:3)
--     end
unfoldable pub substring_stored : Program
substring_stored = program
    ([])
    (procedure 1 false false false
    (entity 2 (declared.Character (long.Fixed 6)) Scalars role.Own None ∷ entity 2 (declared.Character (long.Fixed 6))
    (Explicit (span Absent (int 2) ∷ [])) role.Own None ∷ [])
    None
    (stmt (Assigns (assign 3 (target (texts 6 0) (at 0 Whole AllOf)) (text 6 (97 ∷ 98 ∷ 99 ∷ 100 ∷ 101 ∷ 102 ∷ [])))) (stmt
    (Assigns (assign 4 (target (texts 2 0) (at 0 Whole (BytesOf (Given (int 3)) (Given (int 4))))) (text 3 (120 ∷ 121 ∷ 122
    ∷ [])))) (stmt (Assigns (assign 5 (target (texts 6 1) (at 1 Whole AllOf)) (text 6 (117 ∷ 118 ∷ 119 ∷ 120 ∷ 121 ∷ 122 ∷
    [])))) (stmt (Assigns (assign 6 (target (some_texts 1) (at 1 (Subscripted (subscript (SubscriptTriplet Absent Absent Absent)
    no_subscript)) (BytesOf (Given (int 5)) Absent))) (text 1 (81 ∷ [])))) (stmt (Assigns (assign 7 (target (texts 0 0) (at
    0 Whole (BytesOf (Given (int 4)) (Given (int 2))))) (text 2 (110 ∷ 111 ∷ [])))) (stmt (Print 8 ((typed (texts 6 0)
    (Named (at 0 Whole AllOf))) ∷ (typed (texts 6 1) (Named (at 1 Whole AllOf))) ∷ (typed (texts 2 0) (Named (at 0 Whole
    (BytesOf (Given (int 2)) (Given (int 3)))))) ∷ [])) no_stmt)))))))
    ([])

abbrev pub SubstringStored : Type 0
SubstringStored = Comes substring_stored ([]) 100 (ended ((chars (97 ∷ 98 ∷ 120 ∷ 121 ∷ 101 ∷ 102 ∷ []) ∷ chars (117 ∷ 118 ∷
    119 ∷ 120 ∷ 81 ∷ 32 ∷ []) ∷ chars (117 ∷ 118 ∷ 119 ∷ 120 ∷ 81 ∷ 32 ∷ []) ∷ chars (98 ∷ 120 ∷ []) ∷ []) ∷ []))

--     program p; print *, 2147483647 + 1, -7/2, mod(-7,2), modulo(-7,2), 2**(-1), -2**2; end
unfoldable pub integers_wrap : Program
integers_wrap = program
    ([])
    (procedure 1 false false false
    ([])
    None
    (stmt (Print 1 ((typed (ints 0) (Binary binary.Add (int 2147483647) (int 1))) ∷ (typed (ints 0) (Unary unary.Minus (typed
    (ints 0) (Binary binary.Divide (int 7) (int 2))))) ∷ (typed (ints 0) (Elementwise elemental.Mod (argument 0 (typed
    (ints 0) (Unary unary.Minus (int 7))) (argument 1 (int 2) no_argument)))) ∷ (typed (ints 0) (Elementwise
    elemental.Modulo (argument 0 (typed (ints 0) (Unary unary.Minus (int 7))) (argument 1 (int 2) no_argument)))) ∷ (typed
    (ints 0) (Binary binary.Power (int 2) (typed (ints 0) (Brackets (typed (ints 0) (Unary unary.Minus (int 1))))))) ∷
    (typed (ints 0) (Unary unary.Minus (typed (ints 0) (Binary binary.Power (int 2) (int 2))))) ∷ [])) no_stmt))
    ([])

abbrev pub IntegersWrap : Type 0
IntegersWrap = Comes integers_wrap ([]) 100 (ended ((neg 2147483648 ∷ neg 3 ∷ neg 1 ∷ num 1 ∷ num 0 ∷ neg 4 ∷ []) ∷ []))

--     program p
--     integer :: n = 3, a(3) = (/1,2,3/), b(2) = 7
--     character(4) :: s = 'ab'
--     logical :: t
--     print *, n, a, b, s, t
--     end
unfoldable pub initial_values : Program
initial_values = program
    ([])
    (procedure 1 false false false
    (entity 2 declared.Integer Scalars role.Own (Some (int 3)) ∷ entity 2 declared.Integer (Explicit (span Absent (int 3) ∷
    [])) role.Own (Some (typed (ints 1) (Constructor (value (int 1) (value (int 2) (value (int 3) no_item)))))) ∷ entity 2
    declared.Integer (Explicit (span Absent (int 2) ∷ [])) role.Own (Some (int 7)) ∷ entity 3 (declared.Character
    (long.Fixed 4)) Scalars role.Own (Some (text 2 (97 ∷ 98 ∷ []))) ∷ entity 4 declared.Logical Scalars role.Own None ∷ [])
    None
    (stmt (Print 5 ((typed (ints 0) (Named (at 0 Whole AllOf))) ∷ (typed (ints 1) (Named (at 1 Whole AllOf))) ∷ (typed (ints
    1) (Named (at 2 Whole AllOf))) ∷ (typed (texts 4 0) (Named (at 3 Whole AllOf))) ∷ (typed (logs 0) (Named (at 4 Whole
    AllOf))) ∷ [])) no_stmt))
    ([])

abbrev pub InitialValues : Type 0
InitialValues = Comes initial_values ([]) 100 (ended ((num 3 ∷ num 1 ∷ num 2 ∷ num 3 ∷ num 7 ∷ num 7 ∷ chars (97 ∷ 98 ∷ 32 ∷
    32 ∷ []) ∷ truth false ∷ []) ∷ []))

--     program p; integer :: a(2,2,2,2,2,2,2); a = 1; print *, sum(a); end
unfoldable pub seven_dimensions : Program
seven_dimensions = program
    ([])
    (procedure 1 false false false
    (entity 1 declared.Integer (Explicit (span Absent (int 2) ∷ span Absent (int 2) ∷ span Absent (int 2) ∷ span Absent (int
    2) ∷ span Absent (int 2) ∷ span Absent (int 2) ∷ span Absent (int 2) ∷ [])) role.Own None ∷ [])
    None
    (stmt (Assigns (assign 1 (target (ints 7) (at 0 Whole AllOf)) (int 1))) (stmt (Print 1 ((typed (ints 0) (Reduced
    reduction.Sum None (argument 0 (typed (ints 7) (Named (at 0 Whole AllOf))) no_argument))) ∷ [])) no_stmt)))
    ([])

abbrev pub SevenDimensions : Type 0
SevenDimensions = Comes seven_dimensions ([]) 100 (ended ((num 128 ∷ []) ∷ []))

--     program p; integer :: a(2,2,2,2,2,2,0); a = 1; print *, sum(a), maxval(a); end
unfoldable pub seven_dimensions_empty : Program
seven_dimensions_empty = program
    ([])
    (procedure 1 false false false
    (entity 1 declared.Integer (Explicit (span Absent (int 2) ∷ span Absent (int 2) ∷ span Absent (int 2) ∷ span Absent (int
    2) ∷ span Absent (int 2) ∷ span Absent (int 2) ∷ span Absent (int 0) ∷ [])) role.Own None ∷ [])
    None
    (stmt (Assigns (assign 1 (target (ints 7) (at 0 Whole AllOf)) (int 1))) (stmt (Print 1 ((typed (ints 0) (Reduced
    reduction.Sum None (argument 0 (typed (ints 7) (Named (at 0 Whole AllOf))) no_argument))) ∷ (typed (ints 0) (Reduced
    reduction.Maxval None (argument 0 (typed (ints 7) (Named (at 0 Whole AllOf))) no_argument))) ∷ [])) no_stmt)))
    ([])

abbrev pub SevenDimensionsEmpty : Type 0
SevenDimensionsEmpty = Comes seven_dimensions_empty ([]) 100 (ended ((num 0 ∷ neg 2147483648 ∷ []) ∷ []))

--     program p
--     integer :: a(5:1)
--     print *, size(a(:))
--     print *, a(::-1)
--     end
unfoldable pub bounds_left_out_are_declared : Program
bounds_left_out_are_declared = program
    ([])
    (procedure 1 false false false
    (entity 2 declared.Integer (Explicit (span (Given (int 5)) (int 1) ∷ [])) role.Own None ∷ [])
    None
    (stmt (Print 3 ((typed (ints 0) (Asked inquiry.Size None (Of (typed (ints 1) (Named (at 0 (Subscripted (subscript
    (SubscriptTriplet
    Absent Absent Absent) no_subscript)) AllOf)))))) ∷ [])) (stmt (Print 4 ((typed (ints 1) (Named (at 0 (Subscripted
    (subscript (SubscriptTriplet Absent Absent (Given (typed (ints 0) (Unary unary.Minus (int 1))))) no_subscript)) AllOf))) ∷ []))
    no_stmt)))
    ([])

abbrev pub BoundsLeftOutAreDeclared : Type 0
BoundsLeftOutAreDeclared = Comes bounds_left_out_are_declared ([]) 100 (faulted fault.Bounds 4 ((num 0 ∷ []) ∷ []))

--     program p
--     integer :: a(0:1,3)
--     a(0,:) = (/1,2,3/)
--     a(1,:) = a(0,3:1:-1) * 10
--     a(:,2) = a(:,(1 + 2))
--     print *, a, a(1,2:)
--     end
unfoldable pub two_dimensions : Program
two_dimensions = program
    ([])
    (procedure 1 false false false
    (entity 2 declared.Integer (Explicit (span (Given (int 0)) (int 1) ∷ span Absent (int 3) ∷ [])) role.Own None ∷ [])
    None
    (stmt (Assigns (assign 3 (target (ints 1) (at 0 (Subscripted (subscript (One (int 0)) (subscript (SubscriptTriplet Absent Absent
    Absent) no_subscript))) AllOf)) (typed (ints 1) (Constructor (value (int 1) (value (int 2) (value (int 3)
    no_item))))))) (stmt (Assigns (assign 4 (target (ints 1) (at 0 (Subscripted (subscript (One (int 1)) (subscript
    (SubscriptTriplet
    Absent Absent Absent) no_subscript))) AllOf)) (typed (ints 1) (Binary binary.Multiply (typed (ints 1) (Named (at 0
    (Subscripted (subscript (One (int 0)) (subscript (SubscriptTriplet (Given (int 3)) (Given (int 1)) (Given (typed (ints 0) (Unary
    unary.Minus (int 1))))) no_subscript))) AllOf))) (int 10))))) (stmt (Assigns (assign 5 (target (ints 1) (at 0
    (Subscripted (subscript (SubscriptTriplet Absent Absent Absent) (subscript (One (int 2)) no_subscript))) AllOf)) (typed (ints 1)
    (Named (at 0 (Subscripted (subscript (SubscriptTriplet Absent Absent Absent) (subscript (One (typed (ints 0) (Brackets (typed
    (ints 0) (Binary binary.Add (int 1) (int 2)))))) no_subscript))) AllOf))))) (stmt (Print 6 ((typed (ints 2) (Named (at
    0 Whole AllOf))) ∷ (typed (ints 1) (Named (at 0 (Subscripted (subscript (One (int 1)) (subscript (SubscriptTriplet (Given (int
    2))
    Absent Absent) no_subscript))) AllOf))) ∷ [])) no_stmt)))))
    ([])

abbrev pub TwoDimensions : Type 0
TwoDimensions = Comes two_dimensions ([]) 100 (ended ((num 1 ∷ num 30 ∷ num 3 ∷ num 10 ∷ num 3 ∷ num 10 ∷ num 10 ∷ num 10 ∷
    []) ∷ []))

--     program p
--     character(2) :: c(3)
--     c = (/'a ','bb','a '/)
--     print *, c == 'a', c // c(3:1:-1)
--     c(2:3)(2:2) = c(1:2)(1:1)
--     print *, c
--     end
unfoldable pub text_arrays_compared : Program
text_arrays_compared = program
    ([])
    (procedure 1 false false false
    (entity 2 (declared.Character (long.Fixed 2)) (Explicit (span Absent (int 3) ∷ [])) role.Own None ∷ [])
    None
    (stmt (Assigns (assign 3 (target (texts 2 1) (at 0 Whole AllOf)) (typed (texts 2 1) (Constructor (value (text 2 (97 ∷ 32
    ∷ [])) (value (text 2 (98 ∷ 98 ∷ [])) (value (text 2 (97 ∷ 32 ∷ [])) no_item))))))) (stmt (Print 4 ((typed (logs 1)
    (Binary binary.Equal (typed (texts 2 1) (Named (at 0 Whole AllOf))) (text 1 (97 ∷ [])))) ∷ (typed (texts 4 1) (Binary
    binary.Concat (typed (texts 2 1) (Named (at 0 Whole AllOf))) (typed (texts 2 1) (Named (at 0 (Subscripted (subscript
    (SubscriptTriplet (Given (int 3)) (Given (int 1)) (Given (typed (ints 0) (Unary unary.Minus (int 1))))) no_subscript))
    AllOf)))))
    ∷ [])) (stmt (Assigns (assign 5 (target (texts 1 1) (at 0 (Subscripted (subscript (SubscriptTriplet (Given (int 2)) (Given (int
    3)) Absent) no_subscript)) (BytesOf (Given (int 2)) (Given (int 2))))) (typed (texts 1 1) (Named (at 0 (Subscripted
    (subscript (SubscriptTriplet (Given (int 1)) (Given (int 2)) Absent) no_subscript)) (BytesOf (Given (int 1)) (Given (int
    1))))))))
    (stmt (Print 6 ((typed (texts 2 1) (Named (at 0 Whole AllOf))) ∷ [])) no_stmt)))))
    ([])

abbrev pub TextArraysCompared : Type 0
TextArraysCompared = Comes text_arrays_compared ([]) 100 (ended ((truth true ∷ truth false ∷ truth true ∷ chars (97 ∷ 32 ∷ 97
    ∷ 32 ∷ []) ∷ chars (98 ∷ 98 ∷ 98 ∷ 98 ∷ []) ∷ chars (97 ∷ 32 ∷ 97 ∷ 32 ∷ []) ∷ []) ∷ (chars (97 ∷ 32 ∷ []) ∷ chars (98 ∷
    97 ∷ []) ∷ chars (97 ∷ 98 ∷ []) ∷ []) ∷ []))

--     program trial
--     integer :: a(64), b(64), c(64)
--     integer :: i
--     a = (/ (i, i = 1, 64) /)
--     b = a * 3
--     c = 64 - a
--     print *, sum(a), sum(b), sum(c)
--     end program trial
unfoldable pub trial_of_none : Program
trial_of_none = program
    ([])
    (procedure 1 false false false
    (entity 2 declared.Integer (Explicit (span Absent (int 64) ∷ [])) role.Own None ∷ entity 2 declared.Integer (Explicit
    (span Absent (int 64) ∷ [])) role.Own None ∷ entity 2 declared.Integer (Explicit (span Absent (int 64) ∷ [])) role.Own
    None ∷ entity 3 declared.Integer Scalars role.Own None ∷ [])
    None
    (stmt (Assigns (assign 4 (target (ints 1) (at 0 Whole AllOf)) (typed (ints 1) (Constructor (loop (value (index_at 0)
    no_item) (int 1) (int 64) Absent no_item))))) (stmt (Assigns (assign 5 (target (ints 1) (at 1 Whole AllOf)) (typed
    (ints 1) (Binary binary.Multiply (typed (ints 1) (Named (at 0 Whole AllOf))) (int 3))))) (stmt (Assigns (assign 6
    (target (ints 1) (at 2 Whole AllOf)) (typed (ints 1) (Binary binary.Subtract (int 64) (typed (ints 1) (Named (at 0
    Whole AllOf))))))) (stmt (Print 7 ((typed (ints 0) (Reduced reduction.Sum None (argument 0 (typed (ints 1) (Named (at 0
    Whole AllOf))) no_argument))) ∷ (typed (ints 0) (Reduced reduction.Sum None (argument 0 (typed (ints 1) (Named (at 1
    Whole AllOf))) no_argument))) ∷ (typed (ints 0) (Reduced reduction.Sum None (argument 0 (typed (ints 1) (Named (at 2
    Whole AllOf))) no_argument))) ∷ [])) no_stmt)))))
    ([])

abbrev pub TrialOfNone : Type 0
TrialOfNone = Comes trial_of_none ([]) 100 (ended ((num 2080 ∷ num 6240 ∷ num 2016 ∷ []) ∷ []))
