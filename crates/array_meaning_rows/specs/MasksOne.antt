-- WHERE and FORALL.
use Rattle.std.specs.Prelude.{true, false, Some, None, [], ◌∷◌}
use Rattle.a95_base.specs.declared.fault.FaultKind.TheVariants as fault
use Rattle.f95_unit.specs.declared.operation.UnaryOp.TheVariants as unary
use Rattle.f95_unit.specs.declared.operation.BinaryOp.TheVariants as binary
use Rattle.f95_unit.specs.declared.operation.Reduction.TheVariants as reduction
use Rattle.f95_unit.specs.declared.unit.DeclaredType.TheVariants as declared
use Rattle.f95_unit.specs.declared.unit.Role.TheVariants as role
use Rattle.f95_unit.specs.Plain.{typed, Named, Unary, Binary, Constructor, Reduced, at, Whole, Subscripted, no_subscript, subscript}
use Rattle.f95_unit.specs.Plain.{One, Vector, SubscriptTriplet, Absent, Given, AllOf, no_item, value, no_argument, argument, masked}
use Rattle.f95_unit.specs.Plain.{no_masked, assigning, narrowed, no_other, elsewhere, Assigns, Masks, ForAll, Print, no_stmt, stmt}
use Rattle.f95_unit.specs.Plain.{Scalars, Explicit, Program}
use Rattle.array_meaning.specs.Build.{ints, logs, int, log, index_at, target, assign, triplet, forall_over, span, entity, procedure}
use Rattle.array_meaning.specs.Build.{program, num, neg, ended, faulted, Comes}

--     program p; integer :: a(3); a = (/1,-2,3/); where (a > 0); a = -a; elsewhere; a = 10; end where; print *, a; end
unfoldable pub where_and_elsewhere : Program
where_and_elsewhere = program
    ([])
    (procedure 1 false false false
    (entity 1 declared.Integer (Explicit (span Absent (int 3) ∷ [])) role.Own None ∷ [])
    None
    (stmt (Assigns (assign 1 (target (ints 1) (at 0 Whole AllOf)) (typed (ints 1) (Constructor (value (int 1) (value (typed
    (ints 0) (Unary unary.Minus (int 2))) (value (int 3) no_item))))))) (stmt (Masks (masked 1 (typed (logs 1) (Binary
    binary.Greater (typed (ints 1) (Named (at 0 Whole AllOf))) (int 0))) (assigning (assign 1 (target (ints 1) (at 0 Whole
    AllOf)) (typed (ints 1) (Unary unary.Minus (typed (ints 1) (Named (at 0 Whole AllOf)))))) no_masked) (elsewhere 1 None
    (assigning (assign 1 (target (ints 1) (at 0 Whole AllOf)) (int 10)) no_masked) no_other))) (stmt (Print 1 ((typed (ints
    1) (Named (at 0 Whole AllOf))) ∷ [])) no_stmt))))
    ([])

abbrev pub WhereAndElsewhere : Type 0
WhereAndElsewhere = Comes where_and_elsewhere ([]) 100 (ended ((neg 1 ∷ num 10 ∷ neg 3 ∷ []) ∷ []))

--     program p
--     integer :: a(6), b(6)
--     a = (/1,2,3,4,5,6/)
--     b = 0
--     where (a < 4)
--       b = 1
--       where (a == 2) b = 20
--     elsewhere (a < 6)
--       b = 2
--     elsewhere
--       b = 3
--     end where
--     print *, b
--     end
unfoldable pub masked_elsewhere_and_nested : Program
masked_elsewhere_and_nested = program
    ([])
    (procedure 1 false false false
    (entity 2 declared.Integer (Explicit (span Absent (int 6) ∷ [])) role.Own None ∷ entity 2 declared.Integer (Explicit
    (span Absent (int 6) ∷ [])) role.Own None ∷ [])
    None
    (stmt (Assigns (assign 3 (target (ints 1) (at 0 Whole AllOf)) (typed (ints 1) (Constructor (value (int 1) (value (int 2)
    (value (int 3) (value (int 4) (value (int 5) (value (int 6) no_item)))))))))) (stmt (Assigns (assign 4 (target (ints 1)
    (at 1 Whole AllOf)) (int 0))) (stmt (Masks (masked 5 (typed (logs 1) (Binary binary.Less (typed (ints 1) (Named (at 0
    Whole AllOf))) (int 4))) (assigning (assign 6 (target (ints 1) (at 1 Whole AllOf)) (int 1)) (narrowed (masked 7 (typed
    (logs 1) (Binary binary.Equal (typed (ints 1) (Named (at 0 Whole AllOf))) (int 2))) (assigning (assign 7 (target (ints
    1) (at 1 Whole AllOf)) (int 20)) no_masked) no_other) no_masked)) (elsewhere 8 (Some (typed (logs 1) (Binary
    binary.Less (typed (ints 1) (Named (at 0 Whole AllOf))) (int 6)))) (assigning (assign 9 (target (ints 1) (at 1 Whole
    AllOf)) (int 2)) no_masked) (elsewhere 10 None (assigning (assign 11 (target (ints 1) (at 1 Whole AllOf)) (int 3))
    no_masked) no_other)))) (stmt (Print 13 ((typed (ints 1) (Named (at 1 Whole AllOf))) ∷ [])) no_stmt)))))
    ([])

abbrev pub MaskedElsewhereAndNested : Type 0
MaskedElsewhereAndNested = Comes masked_elsewhere_and_nested ([]) 100 (ended ((num 1 ∷ num 20 ∷ num 1 ∷ num 2 ∷ num 2 ∷ num 3
    ∷ []) ∷ []))

--     program p
--     integer :: a(3)
--     a = (/1,2,3/)
--     where (a > 1)
--       a = 0
--       a = a + 5
--     end where
--     print *, a
--     end
unfoldable pub mask_evaluated_once : Program
mask_evaluated_once = program
    ([])
    (procedure 1 false false false
    (entity 2 declared.Integer (Explicit (span Absent (int 3) ∷ [])) role.Own None ∷ [])
    None
    (stmt (Assigns (assign 3 (target (ints 1) (at 0 Whole AllOf)) (typed (ints 1) (Constructor (value (int 1) (value (int 2)
    (value (int 3) no_item))))))) (stmt (Masks (masked 4 (typed (logs 1) (Binary binary.Greater (typed (ints 1) (Named (at
    0 Whole AllOf))) (int 1))) (assigning (assign 5 (target (ints 1) (at 0 Whole AllOf)) (int 0)) (assigning (assign 6
    (target (ints 1) (at 0 Whole AllOf)) (typed (ints 1) (Binary binary.Add (typed (ints 1) (Named (at 0 Whole AllOf)))
    (int 5)))) no_masked)) no_other)) (stmt (Print 8 ((typed (ints 1) (Named (at 0 Whole AllOf))) ∷ [])) no_stmt))))
    ([])

abbrev pub MaskEvaluatedOnce : Type 0
MaskEvaluatedOnce = Comes mask_evaluated_once ([]) 100 (ended ((num 1 ∷ num 5 ∷ num 5 ∷ []) ∷ []))

--     program p; integer :: a(3); a = (/1,0,2/); where (a /= 0) a = 6 / a; print *, a; end
unfoldable pub division_at_true_places : Program
division_at_true_places = program
    ([])
    (procedure 1 false false false
    (entity 1 declared.Integer (Explicit (span Absent (int 3) ∷ [])) role.Own None ∷ [])
    None
    (stmt (Assigns (assign 1 (target (ints 1) (at 0 Whole AllOf)) (typed (ints 1) (Constructor (value (int 1) (value (int 0)
    (value (int 2) no_item))))))) (stmt (Masks (masked 1 (typed (logs 1) (Binary binary.NotEqual (typed (ints 1) (Named (at
    0 Whole AllOf))) (int 0))) (assigning (assign 1 (target (ints 1) (at 0 Whole AllOf)) (typed (ints 1) (Binary
    binary.Divide (int 6) (typed (ints 1) (Named (at 0 Whole AllOf)))))) no_masked) no_other)) (stmt (Print 1 ((typed (ints
    1) (Named (at 0 Whole AllOf))) ∷ [])) no_stmt))))
    ([])

abbrev pub DivisionAtTruePlaces : Type 0
DivisionAtTruePlaces = Comes division_at_true_places ([]) 100 (ended ((num 6 ∷ num 0 ∷ num 3 ∷ []) ∷ []))

--     program p; integer :: a(4), i; a = (/1,2,3,4/); forall (i = 1:4, i > 1) a(i) = a(i-1); print *, a; end
unfoldable pub forall_with_mask : Program
forall_with_mask = program
    ([])
    (procedure 1 false false false
    (entity 1 declared.Integer (Explicit (span Absent (int 4) ∷ [])) role.Own None ∷ entity 1 declared.Integer Scalars
    role.Own None ∷ [])
    None
    (stmt (Assigns (assign 1 (target (ints 1) (at 0 Whole AllOf)) (typed (ints 1) (Constructor (value (int 1) (value (int 2)
    (value (int 3) (value (int 4) no_item)))))))) (stmt (ForAll (forall_over 1 (triplet (int 1) (int 4) Absent ∷ []) (Some
    (typed (logs 0) (Binary binary.Greater (index_at 0) (int 1)))) (assign 1 (target (ints 0) (at 0 (Subscripted (subscript
    (One (index_at 0)) no_subscript)) AllOf)) (typed (ints 0) (Named (at 0 (Subscripted (subscript (One (typed (ints 0)
    (Binary binary.Subtract (index_at 0) (int 1)))) no_subscript)) AllOf))) ∷ []))) (stmt (Print 1 ((typed (ints 1) (Named
    (at 0 Whole AllOf))) ∷ [])) no_stmt))))
    ([])

abbrev pub ForallWithMask : Type 0
ForallWithMask = Comes forall_with_mask ([]) 100 (ended ((num 1 ∷ num 1 ∷ num 2 ∷ num 3 ∷ []) ∷ []))

--     program p
--     integer :: a(3,3), b(3), i, j
--     a = 0
--     b = 0
--     forall (i = 1:3, j = 1:3, i /= j)
--       a(i,j) = 10*i + j
--     end forall
--     forall (i = 1:3)
--       b(i) = sum(a(i,:))
--       a(i,:) = b(4-i)
--     end forall
--     print *, b
--     print *, a
--     end
unfoldable pub forall_two_assignments : Program
forall_two_assignments = program
    ([])
    (procedure 1 false false false
    (entity 2 declared.Integer (Explicit (span Absent (int 3) ∷ span Absent (int 3) ∷ [])) role.Own None ∷ entity 2
    declared.Integer (Explicit (span Absent (int 3) ∷ [])) role.Own None ∷ entity 2 declared.Integer Scalars role.Own None
    ∷ entity 2 declared.Integer Scalars role.Own None ∷ [])
    None
    (stmt (Assigns (assign 3 (target (ints 2) (at 0 Whole AllOf)) (int 0))) (stmt (Assigns (assign 4 (target (ints 1) (at 1
    Whole AllOf)) (int 0))) (stmt (ForAll (forall_over 5 (triplet (int 1) (int 3) Absent ∷ triplet (int 1) (int 3) Absent ∷
    []) (Some (typed (logs 0) (Binary binary.NotEqual (index_at 0) (index_at 1)))) (assign 6 (target (ints 0) (at 0
    (Subscripted (subscript (One (index_at 0)) (subscript (One (index_at 1)) no_subscript))) AllOf)) (typed (ints 0)
    (Binary binary.Add (typed (ints 0) (Binary binary.Multiply (int 10) (index_at 0))) (index_at 1))) ∷ []))) (stmt (ForAll
    (forall_over 8 (triplet (int 1) (int 3) Absent ∷ []) None (assign 9 (target (ints 0) (at 1 (Subscripted (subscript (One
    (index_at 0)) no_subscript)) AllOf)) (typed (ints 0) (Reduced reduction.Sum None (argument 0 (typed (ints 1) (Named (at
    0 (Subscripted (subscript (One (index_at 0)) (subscript (SubscriptTriplet Absent Absent Absent) no_subscript))) AllOf)))
    no_argument))) ∷ assign 10 (target (ints 1) (at 0 (Subscripted (subscript (One (index_at 0)) (subscript (SubscriptTriplet Absent
    Absent Absent) no_subscript))) AllOf)) (typed (ints 0) (Named (at 1 (Subscripted (subscript (One (typed (ints 0)
    (Binary binary.Subtract (int 4) (index_at 0)))) no_subscript)) AllOf))) ∷ []))) (stmt (Print 12 ((typed (ints 1) (Named
    (at 1 Whole AllOf))) ∷ [])) (stmt (Print 13 ((typed (ints 2) (Named (at 0 Whole AllOf))) ∷ [])) no_stmt)))))))
    ([])

abbrev pub ForallTwoAssignments : Type 0
ForallTwoAssignments = Comes forall_two_assignments ([]) 100 (ended ((num 25 ∷ num 44 ∷ num 63 ∷ []) ∷ (num 63 ∷ num 44 ∷ num
    25 ∷ num 63 ∷ num 44 ∷ num 25 ∷ num 63 ∷ num 44 ∷ num 25 ∷ []) ∷ []))

--     program p
--     integer :: a(5), i
--     a = 0
--     forall (i = 5:1:-2) a(i) = i
--     print *, a
--     end
unfoldable pub forall_backwards : Program
forall_backwards = program
    ([])
    (procedure 1 false false false
    (entity 2 declared.Integer (Explicit (span Absent (int 5) ∷ [])) role.Own None ∷ entity 2 declared.Integer Scalars
    role.Own None ∷ [])
    None
    (stmt (Assigns (assign 3 (target (ints 1) (at 0 Whole AllOf)) (int 0))) (stmt (ForAll (forall_over 4 (triplet (int 5)
    (int 1) (Given (typed (ints 0) (Unary unary.Minus (int 2)))) ∷ []) None (assign 4 (target (ints 0) (at 0 (Subscripted
    (subscript (One (index_at 0)) no_subscript)) AllOf)) (index_at 0) ∷ []))) (stmt (Print 5 ((typed (ints 1) (Named (at 0
    Whole AllOf))) ∷ [])) no_stmt))))
    ([])

abbrev pub ForallBackwards : Type 0
ForallBackwards = Comes forall_backwards ([]) 100 (ended ((num 1 ∷ num 0 ∷ num 3 ∷ num 0 ∷ num 5 ∷ []) ∷ []))

--     program p
--     integer :: a(3), n
--     n = 2
--     where (a == 0)
--       a = 1
--     elsewhere (a(1:n) == 0)
--       a = 2
--     end where
--     end
unfoldable pub masks_of_another_shape : Program
masks_of_another_shape = program
    ([])
    (procedure 1 false false false
    (entity 2 declared.Integer (Explicit (span Absent (int 3) ∷ [])) role.Own None ∷ entity 2 declared.Integer Scalars
    role.Own None ∷ [])
    None
    (stmt (Assigns (assign 3 (target (ints 0) (at 1 Whole AllOf)) (int 2))) (stmt (Masks (masked 4 (typed (logs 1) (Binary
    binary.Equal (typed (ints 1) (Named (at 0 Whole AllOf))) (int 0))) (assigning (assign 5 (target (ints 1) (at 0 Whole
    AllOf)) (int 1)) no_masked) (elsewhere 6 (Some (typed (logs 1) (Binary binary.Equal (typed (ints 1) (Named (at 0
    (Subscripted (subscript (SubscriptTriplet (Given (int 1)) (Given (typed (ints 0) (Named (at 1 Whole AllOf)))) Absent)
    no_subscript)) AllOf))) (int 0)))) (assigning (assign 7 (target (ints 1) (at 0 Whole AllOf)) (int 2)) no_masked)
    no_other))) no_stmt)))
    ([])

abbrev pub MasksOfAnotherShape : Type 0
MasksOfAnotherShape = Comes masks_of_another_shape ([]) 100 (faulted fault.Shape 6 ([]))

--     program p
--     integer :: a(3)
--     where ((/.true.,.false./)) a((/1,1/)) = 5
--     end
unfoldable pub many_one_at_false_places : Program
many_one_at_false_places = program
    ([])
    (procedure 1 false false false
    (entity 2 declared.Integer (Explicit (span Absent (int 3) ∷ [])) role.Own None ∷ [])
    None
    (stmt (Masks (masked 3 (typed (logs 1) (Constructor (value (log true) (value (log false) no_item)))) (assigning (assign 3
    (target (ints 1) (at 0 (Subscripted (subscript (Vector (typed (ints 1) (Constructor (value (int 1) (value (int 1)
    no_item))))) no_subscript)) AllOf)) (int 5)) no_masked) no_other)) no_stmt))
    ([])

abbrev pub ManyOneAtFalsePlaces : Type 0
ManyOneAtFalsePlaces = Comes many_one_at_false_places ([]) 100 (faulted fault.ManyOne 3 ([]))
