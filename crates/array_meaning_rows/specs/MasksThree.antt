-- WHERE whose body changes its mask, and FORALL without combinations or with negative strides.
use Rattle.std.specs.Prelude.{false, Some, None, [], ◌∷◌}
use Rattle.f95_unit.specs.declared.operation.UnaryOp.TheVariants as unary
use Rattle.f95_unit.specs.declared.operation.BinaryOp.TheVariants as binary
use Rattle.f95_unit.specs.declared.operation.Elemental.TheVariants as elemental
use Rattle.f95_unit.specs.declared.operation.Inquiry.TheVariants as inquiry
use Rattle.f95_unit.specs.declared.operation.Rearranging.TheVariants as rearranging
use Rattle.f95_unit.specs.declared.unit.DeclaredType.TheVariants as declared
use Rattle.f95_unit.specs.declared.unit.Role.TheVariants as role
use Rattle.f95_unit.specs.Plain.{typed, Named, Brackets, Unary, Binary, Constructor, Elementwise, Asked, Rearranged, at, Whole}
use Rattle.f95_unit.specs.Plain.{Subscripted, no_subscript, subscript, One, SubscriptTriplet, Absent, Given, AllOf, no_item, value}
use Rattle.f95_unit.specs.Plain.{loop, no_argument, argument, Name, masked, no_masked, assigning, narrowed, no_other, elsewhere}
use Rattle.f95_unit.specs.Plain.{Assigns, Masks, ForAll, Print, no_stmt, stmt, Scalars, Explicit, Program}
use Rattle.array_meaning.specs.Build.{ints, logs, int, index_at, target, assign, triplet, forall_over, span, entity, procedure}
use Rattle.array_meaning.specs.Build.{program, num, neg, ended, Comes}

--     program p
--     integer :: a(4)
--     a = (/1,-2,3,-4/)
--     where (a > 0)
--       a = -a
--       a = a * 10
--     elsewhere
--       a = a - 1
--       a = a * 10
--     end where
--     print *, a
--     end
unfoldable pub mask_changed_in_its_body : Program
mask_changed_in_its_body = program
    ([])
    (procedure 1 false false false
    (entity 2 declared.Integer (Explicit (span Absent (int 4) ∷ [])) role.Own None ∷ [])
    None
    (stmt (Assigns (assign 3 (target (ints 1) (at 0 Whole AllOf)) (typed (ints 1) (Constructor (value (int 1) (value
    (typed (ints 0) (Unary unary.Minus (int 2))) (value (int 3) (value (typed (ints 0) (Unary unary.Minus (int 4)))
    no_item)))))))) (stmt (Masks (masked 4 (typed (logs 1) (Binary binary.Greater (typed (ints 1) (Named (at 0 Whole
    AllOf))) (int 0))) (assigning (assign 5 (target (ints 1) (at 0 Whole AllOf)) (typed (ints 1) (Unary unary.Minus (typed
    (ints 1) (Named (at 0 Whole AllOf)))))) (assigning (assign 6 (target (ints 1) (at 0 Whole AllOf)) (typed (ints 1)
    (Binary binary.Multiply (typed (ints 1) (Named (at 0 Whole AllOf))) (int 10)))) no_masked)) (elsewhere 7 None
    (assigning (assign 8 (target (ints 1) (at 0 Whole AllOf)) (typed (ints 1) (Binary binary.Subtract (typed (ints 1)
    (Named (at 0 Whole AllOf))) (int 1)))) (assigning (assign 9 (target (ints 1) (at 0 Whole AllOf)) (typed (ints 1)
    (Binary binary.Multiply (typed (ints 1) (Named (at 0 Whole AllOf))) (int 10)))) no_masked)) no_other))) (stmt (Print
    11 ((typed (ints 1) (Named (at 0 Whole AllOf))) ∷ [])) no_stmt))))
    ([])

abbrev pub MaskChangedInItsBody : Type 0
MaskChangedInItsBody = Comes mask_changed_in_its_body ([]) 100 (ended ((neg 10 ∷ neg 30 ∷ neg 30 ∷ neg 50 ∷ []) ∷ []))

--     program p
--     integer :: a(5), b(5), i
--     a = (/ (i, i = 1, 5) /)
--     b = 0
--     where (a > 4)
--       b = 1
--       a = 0
--     elsewhere (a > 2)
--       b = 2
--       a = 9
--     elsewhere (a > 1)
--       b = 3
--     elsewhere
--       b = 4
--     end where
--     print *, b, a
--     end
unfoldable pub masked_elsewheres_in_order : Program
masked_elsewheres_in_order = program
    ([])
    (procedure 1 false false false
    (entity 2 declared.Integer (Explicit (span Absent (int 5) ∷ [])) role.Own None ∷ entity 2 declared.Integer (Explicit
    (span Absent (int 5) ∷ [])) role.Own None ∷ entity 2 declared.Integer Scalars role.Own None ∷ [])
    None
    (stmt (Assigns (assign 3 (target (ints 1) (at 0 Whole AllOf)) (typed (ints 1) (Constructor (loop (value (index_at 0)
    no_item) (int 1) (int 5) Absent no_item))))) (stmt (Assigns (assign 4 (target (ints 1) (at 1 Whole AllOf)) (int 0)))
    (stmt (Masks (masked 5 (typed (logs 1) (Binary binary.Greater (typed (ints 1) (Named (at 0 Whole AllOf))) (int 4)))
    (assigning (assign 6 (target (ints 1) (at 1 Whole AllOf)) (int 1)) (assigning (assign 7 (target (ints 1) (at 0 Whole
    AllOf)) (int 0)) no_masked)) (elsewhere 8 (Some (typed (logs 1) (Binary binary.Greater (typed (ints 1) (Named (at 0
    Whole AllOf))) (int 2)))) (assigning (assign 9 (target (ints 1) (at 1 Whole AllOf)) (int 2)) (assigning (assign 10
    (target (ints 1) (at 0 Whole AllOf)) (int 9)) no_masked)) (elsewhere 11 (Some (typed (logs 1) (Binary binary.Greater
    (typed (ints 1) (Named (at 0 Whole AllOf))) (int 1)))) (assigning (assign 12 (target (ints 1) (at 1 Whole AllOf)) (int
    3)) no_masked) (elsewhere 13 None (assigning (assign 14 (target (ints 1) (at 1 Whole AllOf)) (int 4)) no_masked)
    no_other))))) (stmt (Print 16 ((typed (ints 1) (Named (at 1 Whole AllOf))) ∷ (typed (ints 1) (Named (at 0 Whole
    AllOf))) ∷ [])) no_stmt)))))
    ([])

abbrev pub MaskedElsewheresInOrder : Type 0
MaskedElsewheresInOrder = Comes masked_elsewheres_in_order ([]) 100 (ended ((num 4 ∷ num 3 ∷ num 2 ∷ num 2 ∷ num 1 ∷ num 1
    ∷ num 2 ∷ num 9 ∷ num 9 ∷ num 0 ∷ []) ∷ []))

--     program p
--     integer :: a(4), b(4)
--     a = (/1,2,3,4/)
--     b = 0
--     where (a > 3)
--       b = 7
--     elsewhere
--       where (mod(a, 2) == 1)
--         b = a
--         a = 8
--       elsewhere
--         b = -a
--       end where
--       b = b * 10
--     end where
--     print *, a, b
--     end
unfoldable pub where_within_elsewhere : Program
where_within_elsewhere = program
    ([])
    (procedure 1 false false false
    (entity 2 declared.Integer (Explicit (span Absent (int 4) ∷ [])) role.Own None ∷ entity 2 declared.Integer (Explicit
    (span Absent (int 4) ∷ [])) role.Own None ∷ [])
    None
    (stmt (Assigns (assign 3 (target (ints 1) (at 0 Whole AllOf)) (typed (ints 1) (Constructor (value (int 1) (value (int
    2) (value (int 3) (value (int 4) no_item)))))))) (stmt (Assigns (assign 4 (target (ints 1) (at 1 Whole AllOf)) (int
    0))) (stmt (Masks (masked 5 (typed (logs 1) (Binary binary.Greater (typed (ints 1) (Named (at 0 Whole AllOf))) (int
    3))) (assigning (assign 6 (target (ints 1) (at 1 Whole AllOf)) (int 7)) no_masked) (elsewhere 7 None (narrowed (masked
    8 (typed (logs 1) (Binary binary.Equal (typed (ints 1) (Elementwise elemental.Mod (argument 0 (typed (ints 1) (Named
    (at 0 Whole AllOf))) (argument 1 (int 2) no_argument)))) (int 1))) (assigning (assign 9 (target (ints 1) (at 1 Whole
    AllOf)) (typed (ints 1) (Named (at 0 Whole AllOf)))) (assigning (assign 10 (target (ints 1) (at 0 Whole AllOf)) (int
    8)) no_masked)) (elsewhere 11 None (assigning (assign 12 (target (ints 1) (at 1 Whole AllOf)) (typed (ints 1) (Unary
    unary.Minus (typed (ints 1) (Named (at 0 Whole AllOf)))))) no_masked) no_other)) (assigning (assign 14 (target (ints
    1) (at 1 Whole AllOf)) (typed (ints 1) (Binary binary.Multiply (typed (ints 1) (Named (at 1 Whole AllOf))) (int 10))))
    no_masked)) no_other))) (stmt (Print 16 ((typed (ints 1) (Named (at 0 Whole AllOf))) ∷ (typed (ints 1) (Named (at 1
    Whole AllOf))) ∷ [])) no_stmt)))))
    ([])

abbrev pub WhereWithinElsewhere : Type 0
WhereWithinElsewhere = Comes where_within_elsewhere ([]) 100 (ended ((num 8 ∷ num 2 ∷ num 8 ∷ num 4 ∷ num 10 ∷ neg 20 ∷
    num 30 ∷ num 7 ∷ []) ∷ []))

--     program p
--     integer :: a(3)
--     a = (/1,2,3/)
--     where (a > 5)
--       a = 1 / (a - a)
--     elsewhere (a > 9)
--       a = 0
--     end where
--     print *, a
--     end
unfoldable pub where_without_any_place : Program
where_without_any_place = program
    ([])
    (procedure 1 false false false
    (entity 2 declared.Integer (Explicit (span Absent (int 3) ∷ [])) role.Own None ∷ [])
    None
    (stmt (Assigns (assign 3 (target (ints 1) (at 0 Whole AllOf)) (typed (ints 1) (Constructor (value (int 1) (value (int
    2) (value (int 3) no_item))))))) (stmt (Masks (masked 4 (typed (logs 1) (Binary binary.Greater (typed (ints 1) (Named
    (at 0 Whole AllOf))) (int 5))) (assigning (assign 5 (target (ints 1) (at 0 Whole AllOf)) (typed (ints 1) (Binary
    binary.Divide (int 1) (typed (ints 1) (Brackets (typed (ints 1) (Binary binary.Subtract (typed (ints 1) (Named (at 0
    Whole AllOf))) (typed (ints 1) (Named (at 0 Whole AllOf)))))))))) no_masked) (elsewhere 6 (Some (typed (logs 1)
    (Binary binary.Greater (typed (ints 1) (Named (at 0 Whole AllOf))) (int 9)))) (assigning (assign 7 (target (ints 1)
    (at 0 Whole AllOf)) (int 0)) no_masked) no_other))) (stmt (Print 9 ((typed (ints 1) (Named (at 0 Whole AllOf))) ∷ []))
    no_stmt))))
    ([])

abbrev pub WhereWithoutAnyPlace : Type 0
WhereWithoutAnyPlace = Comes where_without_any_place ([]) 100 (ended ((num 1 ∷ num 2 ∷ num 3 ∷ []) ∷ []))

--     program p
--     integer :: a(0), b(3)
--     b = 4
--     where (b(3:2) > 0) b(3:2) = a
--     print *, b, size(a)
--     end
unfoldable pub where_of_no_elements : Program
where_of_no_elements = program
    ([])
    (procedure 1 false false false
    (entity 2 declared.Integer (Explicit (span Absent (int 0) ∷ [])) role.Own None ∷ entity 2 declared.Integer (Explicit
    (span Absent (int 3) ∷ [])) role.Own None ∷ [])
    None
    (stmt (Assigns (assign 3 (target (ints 1) (at 1 Whole AllOf)) (int 4))) (stmt (Masks (masked 4 (typed (logs 1) (Binary
    binary.Greater (typed (ints 1) (Named (at 1 (Subscripted (subscript (SubscriptTriplet (Given (int 3)) (Given (int 2))
    Absent) no_subscript)) AllOf))) (int 0))) (assigning (assign 4 (target (ints 1) (at 1 (Subscripted (subscript
    (SubscriptTriplet (Given (int 3)) (Given (int 2)) Absent) no_subscript)) AllOf)) (typed (ints 1) (Named (at 0 Whole
    AllOf)))) no_masked) no_other)) (stmt (Print 5 ((typed (ints 1) (Named (at 1 Whole AllOf))) ∷ (typed (ints 0) (Asked
    inquiry.Size None (Name 0))) ∷ [])) no_stmt))))
    ([])

abbrev pub WhereOfNoElements : Type 0
WhereOfNoElements = Comes where_of_no_elements ([]) 100 (ended ((num 4 ∷ num 4 ∷ num 4 ∷ num 0 ∷ []) ∷ []))

--     program p
--     integer :: a(3), i, j
--     a = (/1,2,3/)
--     forall (i = 3:1) a(i) = 9
--     forall (i = 1:3, j = 2:1) a(i) = a(i+j)
--     forall (i = 1:3, a(i) > 7) a(i) = a(i+9)
--     print *, a
--     end
unfoldable pub forall_without_combinations : Program
forall_without_combinations = program
    ([])
    (procedure 1 false false false
    (entity 2 declared.Integer (Explicit (span Absent (int 3) ∷ [])) role.Own None ∷ entity 2 declared.Integer Scalars
    role.Own None ∷ entity 2 declared.Integer Scalars role.Own None ∷ [])
    None
    (stmt (Assigns (assign 3 (target (ints 1) (at 0 Whole AllOf)) (typed (ints 1) (Constructor (value (int 1) (value (int
    2) (value (int 3) no_item))))))) (stmt (ForAll (forall_over 4 (triplet (int 3) (int 1) Absent ∷ []) None (assign 4
    (target (ints 0) (at 0 (Subscripted (subscript (One (index_at 0)) no_subscript)) AllOf)) (int 9) ∷ []))) (stmt (ForAll
    (forall_over 5 (triplet (int 1) (int 3) Absent ∷ triplet (int 2) (int 1) Absent ∷ []) None (assign 5 (target (ints 0)
    (at 0 (Subscripted (subscript (One (index_at 0)) no_subscript)) AllOf)) (typed (ints 0) (Named (at 0 (Subscripted
    (subscript (One (typed (ints 0) (Binary binary.Add (index_at 0) (index_at 1)))) no_subscript)) AllOf))) ∷ []))) (stmt
    (ForAll (forall_over 6 (triplet (int 1) (int 3) Absent ∷ []) (Some (typed (logs 0) (Binary binary.Greater (typed (ints
    0) (Named (at 0 (Subscripted (subscript (One (index_at 0)) no_subscript)) AllOf))) (int 7)))) (assign 6 (target (ints
    0) (at 0 (Subscripted (subscript (One (index_at 0)) no_subscript)) AllOf)) (typed (ints 0) (Named (at 0 (Subscripted
    (subscript (One (typed (ints 0) (Binary binary.Add (index_at 0) (int 9)))) no_subscript)) AllOf))) ∷ []))) (stmt
    (Print 7 ((typed (ints 1) (Named (at 0 Whole AllOf))) ∷ [])) no_stmt))))))
    ([])

abbrev pub ForallWithoutCombinations : Type 0
ForallWithoutCombinations = Comes forall_without_combinations ([]) 100 (ended ((num 1 ∷ num 2 ∷ num 3 ∷ []) ∷ []))

--     program p
--     integer :: a(6), i
--     a = (/ (i, i = 1, 6) /)
--     forall (i = 6:2:-2) a(i) = a(i-1) * 10
--     forall (i = 5:1:-2, a(i) /= 3) a(i) = -a(i)
--     print *, a
--     end
unfoldable pub forall_backwards_by_two : Program
forall_backwards_by_two = program
    ([])
    (procedure 1 false false false
    (entity 2 declared.Integer (Explicit (span Absent (int 6) ∷ [])) role.Own None ∷ entity 2 declared.Integer Scalars
    role.Own None ∷ [])
    None
    (stmt (Assigns (assign 3 (target (ints 1) (at 0 Whole AllOf)) (typed (ints 1) (Constructor (loop (value (index_at 0)
    no_item) (int 1) (int 6) Absent no_item))))) (stmt (ForAll (forall_over 4 (triplet (int 6) (int 2) (Given (typed (ints
    0) (Unary unary.Minus (int 2)))) ∷ []) None (assign 4 (target (ints 0) (at 0 (Subscripted (subscript (One (index_at
    0)) no_subscript)) AllOf)) (typed (ints 0) (Binary binary.Multiply (typed (ints 0) (Named (at 0 (Subscripted
    (subscript (One (typed (ints 0) (Binary binary.Subtract (index_at 0) (int 1)))) no_subscript)) AllOf))) (int 10))) ∷
    []))) (stmt (ForAll (forall_over 5 (triplet (int 5) (int 1) (Given (typed (ints 0) (Unary unary.Minus (int 2)))) ∷ [])
    (Some (typed (logs 0) (Binary binary.NotEqual (typed (ints 0) (Named (at 0 (Subscripted (subscript (One (index_at 0))
    no_subscript)) AllOf))) (int 3)))) (assign 5 (target (ints 0) (at 0 (Subscripted (subscript (One (index_at 0))
    no_subscript)) AllOf)) (typed (ints 0) (Unary unary.Minus (typed (ints 0) (Named (at 0 (Subscripted (subscript (One
    (index_at 0)) no_subscript)) AllOf))))) ∷ []))) (stmt (Print 6 ((typed (ints 1) (Named (at 0 Whole AllOf))) ∷ []))
    no_stmt)))))
    ([])

abbrev pub ForallBackwardsByTwo : Type 0
ForallBackwardsByTwo = Comes forall_backwards_by_two ([]) 100 (ended ((neg 1 ∷ num 10 ∷ num 3 ∷ num 30 ∷ neg 5 ∷ num 50 ∷
    []) ∷ []))

--     program p
--     integer :: b(3,3), i, j
--     b = reshape((/ (i, i = 1, 9) /), (/3,3/))
--     forall (i = 1:3, j = 1:3, i < j) b(i,j) = b(j,i)
--     print *, b
--     forall (i = 1:3) b(i,:) = b(:,i)
--     print *, b
--     end
unfoldable pub forall_transposes : Program
forall_transposes = program
    ([])
    (procedure 1 false false false
    (entity 2 declared.Integer (Explicit (span Absent (int 3) ∷ span Absent (int 3) ∷ [])) role.Own None ∷ entity 2
    declared.Integer Scalars role.Own None ∷ entity 2 declared.Integer Scalars role.Own None ∷ [])
    None
    (stmt (Assigns (assign 3 (target (ints 2) (at 0 Whole AllOf)) (typed (ints 2) (Rearranged rearranging.Reshape None
    (argument 0 (typed (ints 1) (Constructor (loop (value (index_at 0) no_item) (int 1) (int 9) Absent no_item)))
    (argument 1 (typed (ints 1) (Constructor (value (int 3) (value (int 3) no_item)))) no_argument)))))) (stmt (ForAll
    (forall_over 4 (triplet (int 1) (int 3) Absent ∷ triplet (int 1) (int 3) Absent ∷ []) (Some (typed (logs 0) (Binary
    binary.Less (index_at 0) (index_at 1)))) (assign 4 (target (ints 0) (at 0 (Subscripted (subscript (One (index_at 0))
    (subscript (One (index_at 1)) no_subscript))) AllOf)) (typed (ints 0) (Named (at 0 (Subscripted (subscript (One
    (index_at 1)) (subscript (One (index_at 0)) no_subscript))) AllOf))) ∷ []))) (stmt (Print 5 ((typed (ints 2) (Named
    (at 0 Whole AllOf))) ∷ [])) (stmt (ForAll (forall_over 6 (triplet (int 1) (int 3) Absent ∷ []) None (assign 6 (target
    (ints 1) (at 0 (Subscripted (subscript (One (index_at 0)) (subscript (SubscriptTriplet Absent Absent Absent)
    no_subscript))) AllOf)) (typed (ints 1) (Named (at 0 (Subscripted (subscript (SubscriptTriplet Absent Absent Absent)
    (subscript (One (index_at 0)) no_subscript))) AllOf))) ∷ []))) (stmt (Print 7 ((typed (ints 2) (Named (at 0 Whole
    AllOf))) ∷ [])) no_stmt))))))
    ([])

abbrev pub ForallTransposes : Type 0
ForallTransposes = Comes forall_transposes ([]) 100 (ended ((num 1 ∷ num 2 ∷ num 3 ∷ num 2 ∷ num 5 ∷ num 6 ∷ num 3 ∷ num 6
    ∷ num 9 ∷ []) ∷ (num 1 ∷ num 2 ∷ num 3 ∷ num 2 ∷ num 5 ∷ num 6 ∷ num 3 ∷ num 6 ∷ num 9 ∷ []) ∷ []))
