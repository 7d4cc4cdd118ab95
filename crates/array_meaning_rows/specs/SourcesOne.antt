-- Small whole sources.
use Rattle.std.specs.Prelude.{true, false, None, [], ◌∷◌}
use Rattle.a95_base.specs.declared.fault.FaultKind.TheVariants as fault
use Rattle.f95_unit.specs.declared.operation.BinaryOp.TheVariants as binary
use Rattle.f95_unit.specs.declared.operation.Reduction.TheVariants as reduction
use Rattle.f95_unit.specs.declared.unit.DeclaredType.TheVariants as declared
use Rattle.f95_unit.specs.declared.unit.Length.TheVariants as long
use Rattle.f95_unit.specs.declared.unit.Role.TheVariants as role
use Rattle.f95_unit.specs.Plain.{typed, Named, Binary, Constructor, Reduced, at, Whole, Subscripted, no_subscript, subscript, One}
use Rattle.f95_unit.specs.Plain.{SubscriptTriplet, Absent, Given, AllOf, BytesOf, no_item, value, no_argument, argument, masked}
use Rattle.f95_unit.specs.Plain.{no_masked, assigning, narrowed, no_other, elsewhere, Assigns, Masks, ForAll, Print, Do, no_stmt}
use Rattle.f95_unit.specs.Plain.{stmt, Scalars, Explicit, Program}
use Rattle.array_meaning.specs.Build.{ints, logs, texts, int, text, index_at, target, assign, triplet, forall_over, span, entity}
use Rattle.array_meaning.specs.Build.{procedure, program, num, chars, truth, ended, faulted, Comes}

--     program p; character(3) :: t; logical :: q; t = 'ab'; q = t == 'ab '; print *, q, t, 'c', t(2:1) // 'd'; end
unfoldable pub texts_and_truth : Program
texts_and_truth = program
    ([])
    (procedure 1 false false false
    (entity 1 (declared.Character (long.Fixed 3)) Scalars role.Own None ∷ entity 1 declared.Logical Scalars role.Own None ∷
    [])
    None
    (stmt (Assigns (assign 1 (target (texts 3 0) (at 0 Whole AllOf)) (text 2 (97 ∷ 98 ∷ [])))) (stmt (Assigns (assign 1
    (target (logs 0) (at 1 Whole AllOf)) (typed (logs 0) (Binary binary.Equal (typed (texts 3 0) (Named (at 0 Whole
    AllOf))) (text 3 (97 ∷ 98 ∷ 32 ∷ [])))))) (stmt (Print 1 ((typed (logs 0) (Named (at 1 Whole AllOf))) ∷ (typed (texts 3
    0) (Named (at 0 Whole AllOf))) ∷ (text 1 (99 ∷ [])) ∷ (typed (texts 1 0) (Binary binary.Concat (typed (texts 0 0)
    (Named (at 0 Whole (BytesOf (Given (int 2)) (Given (int 1)))))) (text 1 (100 ∷ [])))) ∷ [])) no_stmt))))
    ([])

abbrev pub TextsAndTruth : Type 0
TextsAndTruth = Comes texts_and_truth ([]) 100 (ended ((truth true ∷ chars (97 ∷ 98 ∷ 32 ∷ []) ∷ chars (99 ∷ []) ∷ chars (100
    ∷ []) ∷ []) ∷ []))

--     program p; integer :: i; do i = 1, 10, 4; print *, i; end do; print *, i; end
unfoldable pub steps_of_four : Program
steps_of_four = program
    ([])
    (procedure 1 false false false
    (entity 1 declared.Integer Scalars role.Own None ∷ [])
    None
    (stmt (Do 1 0 (int 1) (int 10) (Given (int 4)) (stmt (Print 1 ((typed (ints 0) (Named (at 0 Whole AllOf))) ∷ []))
    no_stmt)) (stmt (Print 1 ((typed (ints 0) (Named (at 0 Whole AllOf))) ∷ [])) no_stmt)))
    ([])

abbrev pub StepsOfFour : Type 0
StepsOfFour = Comes steps_of_four ([]) 100 (ended ((num 1 ∷ []) ∷ (num 5 ∷ []) ∷ (num 9 ∷ []) ∷ (num 13 ∷ []) ∷ []))

--     program p; integer :: a(3), n; a = (/1,2,3/); n = 4; a(1:2) = a(2:n); print *, a; end
unfoldable pub section_past_the_end : Program
section_past_the_end = program
    ([])
    (procedure 1 false false false
    (entity 1 declared.Integer (Explicit (span Absent (int 3) ∷ [])) role.Own None ∷ entity 1 declared.Integer Scalars
    role.Own None ∷ [])
    None
    (stmt (Assigns (assign 1 (target (ints 1) (at 0 Whole AllOf)) (typed (ints 1) (Constructor (value (int 1) (value (int 2)
    (value (int 3) no_item))))))) (stmt (Assigns (assign 1 (target (ints 0) (at 1 Whole AllOf)) (int 4))) (stmt (Assigns
    (assign 1 (target (ints 1) (at 0 (Subscripted (subscript (SubscriptTriplet (Given (int 1)) (Given (int 2)) Absent)
    no_subscript))
    AllOf)) (typed (ints 1) (Named (at 0 (Subscripted (subscript (SubscriptTriplet (Given (int 2)) (Given (typed (ints 0) (Named
    (at 1
    Whole AllOf)))) Absent) no_subscript)) AllOf))))) (stmt (Print 1 ((typed (ints 1) (Named (at 0 Whole AllOf))) ∷ []))
    no_stmt)))))
    ([])

abbrev pub SectionPastTheEnd : Type 0
SectionPastTheEnd = Comes section_past_the_end ([]) 100 (faulted fault.Bounds 1 ([]))

--     program p; integer :: a(3), n; a = (/1,2,3/); n = 3; a(1:2) = a(1:n); print *, a; end
unfoldable pub section_too_long : Program
section_too_long = program
    ([])
    (procedure 1 false false false
    (entity 1 declared.Integer (Explicit (span Absent (int 3) ∷ [])) role.Own None ∷ entity 1 declared.Integer Scalars
    role.Own None ∷ [])
    None
    (stmt (Assigns (assign 1 (target (ints 1) (at 0 Whole AllOf)) (typed (ints 1) (Constructor (value (int 1) (value (int 2)
    (value (int 3) no_item))))))) (stmt (Assigns (assign 1 (target (ints 0) (at 1 Whole AllOf)) (int 3))) (stmt (Assigns
    (assign 1 (target (ints 1) (at 0 (Subscripted (subscript (SubscriptTriplet (Given (int 1)) (Given (int 2)) Absent)
    no_subscript))
    AllOf)) (typed (ints 1) (Named (at 0 (Subscripted (subscript (SubscriptTriplet (Given (int 1)) (Given (typed (ints 0) (Named
    (at 1
    Whole AllOf)))) Absent) no_subscript)) AllOf))))) (stmt (Print 1 ((typed (ints 1) (Named (at 0 Whole AllOf))) ∷ []))
    no_stmt)))))
    ([])

abbrev pub SectionTooLong : Type 0
SectionTooLong = Comes section_too_long ([]) 100 (faulted fault.Shape 1 ([]))

--     program p; integer :: a(3), n; a = (/1,2,3/); n = 0; a(1:2) = a(1:2:n); print *, a; end
unfoldable pub section_without_stride : Program
section_without_stride = program
    ([])
    (procedure 1 false false false
    (entity 1 declared.Integer (Explicit (span Absent (int 3) ∷ [])) role.Own None ∷ entity 1 declared.Integer Scalars
    role.Own None ∷ [])
    None
    (stmt (Assigns (assign 1 (target (ints 1) (at 0 Whole AllOf)) (typed (ints 1) (Constructor (value (int 1) (value (int 2)
    (value (int 3) no_item))))))) (stmt (Assigns (assign 1 (target (ints 0) (at 1 Whole AllOf)) (int 0))) (stmt (Assigns
    (assign 1 (target (ints 1) (at 0 (Subscripted (subscript (SubscriptTriplet (Given (int 1)) (Given (int 2)) Absent)
    no_subscript))
    AllOf)) (typed (ints 1) (Named (at 0 (Subscripted (subscript (SubscriptTriplet (Given (int 1)) (Given (int 2)) (Given (typed
    (ints
    0) (Named (at 1 Whole AllOf))))) no_subscript)) AllOf))))) (stmt (Print 1 ((typed (ints 1) (Named (at 0 Whole AllOf)))
    ∷ [])) no_stmt)))))
    ([])

abbrev pub SectionWithoutStride : Type 0
SectionWithoutStride = Comes section_without_stride ([]) 100 (faulted fault.ZeroStep 1 ([]))

--     program p
--     integer :: a(3)
--     a = (/1,2,3/)
--     where (a > 1)
--     where (a < 3)
--     a = 0
--     end where
--     elsewhere
--     a = 9
--     end where
--     print *, a
--     end
unfoldable pub where_in_where : Program
where_in_where = program
    ([])
    (procedure 1 false false false
    (entity 2 declared.Integer (Explicit (span Absent (int 3) ∷ [])) role.Own None ∷ [])
    None
    (stmt (Assigns (assign 3 (target (ints 1) (at 0 Whole AllOf)) (typed (ints 1) (Constructor (value (int 1) (value (int 2)
    (value (int 3) no_item))))))) (stmt (Masks (masked 4 (typed (logs 1) (Binary binary.Greater (typed (ints 1) (Named (at
    0 Whole AllOf))) (int 1))) (narrowed (masked 5 (typed (logs 1) (Binary binary.Less (typed (ints 1) (Named (at 0 Whole
    AllOf))) (int 3))) (assigning (assign 6 (target (ints 1) (at 0 Whole AllOf)) (int 0)) no_masked) no_other) no_masked)
    (elsewhere 8 None (assigning (assign 9 (target (ints 1) (at 0 Whole AllOf)) (int 9)) no_masked) no_other))) (stmt
    (Print 11 ((typed (ints 1) (Named (at 0 Whole AllOf))) ∷ [])) no_stmt))))
    ([])

abbrev pub WhereInWhere : Type 0
WhereInWhere = Comes where_in_where ([]) 100 (ended ((num 9 ∷ num 0 ∷ num 3 ∷ []) ∷ []))

--     program p; integer :: a(3), b(3), i; a = (/1,2,3/); forall (i = 1:3); b(i) = a(4-i); a(i) = b(i); end forall; print *, a; end
unfoldable pub forall_reverses : Program
forall_reverses = program
    ([])
    (procedure 1 false false false
    (entity 1 declared.Integer (Explicit (span Absent (int 3) ∷ [])) role.Own None ∷ entity 1 declared.Integer (Explicit
    (span Absent (int 3) ∷ [])) role.Own None ∷ entity 1 declared.Integer Scalars role.Own None ∷ [])
    None
    (stmt (Assigns (assign 1 (target (ints 1) (at 0 Whole AllOf)) (typed (ints 1) (Constructor (value (int 1) (value (int 2)
    (value (int 3) no_item))))))) (stmt (ForAll (forall_over 1 (triplet (int 1) (int 3) Absent ∷ []) None (assign 1 (target
    (ints 0) (at 1 (Subscripted (subscript (One (index_at 0)) no_subscript)) AllOf)) (typed (ints 0) (Named (at 0
    (Subscripted (subscript (One (typed (ints 0) (Binary binary.Subtract (int 4) (index_at 0)))) no_subscript)) AllOf))) ∷
    assign 1 (target (ints 0) (at 0 (Subscripted (subscript (One (index_at 0)) no_subscript)) AllOf)) (typed (ints 0)
    (Named (at 1 (Subscripted (subscript (One (index_at 0)) no_subscript)) AllOf))) ∷ []))) (stmt (Print 1 ((typed (ints 1)
    (Named (at 0 Whole AllOf))) ∷ [])) no_stmt))))
    ([])

abbrev pub ForallReverses : Type 0
ForallReverses = Comes forall_reverses ([]) 100 (ended ((num 3 ∷ num 2 ∷ num 1 ∷ []) ∷ []))

--     program p; integer :: k(3), i; k = (/2,3,1/); forall (i = 1:3) k(k(i)) = i; print *, k; end
unfoldable pub forall_inverts : Program
forall_inverts = program
    ([])
    (procedure 1 false false false
    (entity 1 declared.Integer (Explicit (span Absent (int 3) ∷ [])) role.Own None ∷ entity 1 declared.Integer Scalars
    role.Own None ∷ [])
    None
    (stmt (Assigns (assign 1 (target (ints 1) (at 0 Whole AllOf)) (typed (ints 1) (Constructor (value (int 2) (value (int 3)
    (value (int 1) no_item))))))) (stmt (ForAll (forall_over 1 (triplet (int 1) (int 3) Absent ∷ []) None (assign 1 (target
    (ints 0) (at 0 (Subscripted (subscript (One (typed (ints 0) (Named (at 0 (Subscripted (subscript (One (index_at 0))
    no_subscript)) AllOf)))) no_subscript)) AllOf)) (index_at 0) ∷ []))) (stmt (Print 1 ((typed (ints 1) (Named (at 0 Whole
    AllOf))) ∷ [])) no_stmt))))
    ([])

abbrev pub ForallInverts : Type 0
ForallInverts = Comes forall_inverts ([]) 100 (ended ((num 3 ∷ num 1 ∷ num 2 ∷ []) ∷ []))

--     program p
--     integer :: a(2,2), v(2)
--     a(1,:) = (/1,2/)
--     a(2,:) = (/3,4/)
--     v = (/5,6/)
--     print *, matmul(a, v), dot_product(v, v), maxloc(v)
--     end
unfoldable pub matrix_and_vector : Program
matrix_and_vector = program
    ([])
    (procedure 1 false false false
    (entity 2 declared.Integer (Explicit (span Absent (int 2) ∷ span Absent (int 2) ∷ [])) role.Own None ∷ entity 2
    declared.Integer (Explicit (span Absent (int 2) ∷ [])) role.Own None ∷ [])
    None
    (stmt (Assigns (assign 3 (target (ints 1) (at 0 (Subscripted (subscript (One (int 1)) (subscript (SubscriptTriplet Absent Absent
    Absent) no_subscript))) AllOf)) (typed (ints 1) (Constructor (value (int 1) (value (int 2) no_item)))))) (stmt (Assigns
    (assign 4 (target (ints 1) (at 0 (Subscripted (subscript (One (int 2)) (subscript (SubscriptTriplet Absent Absent Absent)
    no_subscript))) AllOf)) (typed (ints 1) (Constructor (value (int 3) (value (int 4) no_item)))))) (stmt (Assigns (assign
    5 (target (ints 1) (at 1 Whole AllOf)) (typed (ints 1) (Constructor (value (int 5) (value (int 6) no_item)))))) (stmt
    (Print 6 ((typed (ints 1) (Reduced reduction.Matmul None (argument 0 (typed (ints 2) (Named (at 0 Whole AllOf)))
    (argument 1 (typed (ints 1) (Named (at 1 Whole AllOf))) no_argument)))) ∷ (typed (ints 0) (Reduced reduction.DotProduct
    None (argument 0 (typed (ints 1) (Named (at 1 Whole AllOf))) (argument 1 (typed (ints 1) (Named (at 1 Whole AllOf)))
    no_argument)))) ∷ (typed (ints 1) (Reduced reduction.Maxloc None (argument 0 (typed (ints 1) (Named (at 1 Whole
    AllOf))) no_argument))) ∷ [])) no_stmt)))))
    ([])

abbrev pub MatrixAndVector : Type 0
MatrixAndVector = Comes matrix_and_vector ([]) 100 (ended ((num 17 ∷ num 39 ∷ num 61 ∷ num 2 ∷ []) ∷ []))
