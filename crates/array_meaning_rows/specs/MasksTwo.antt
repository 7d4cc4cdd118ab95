-- WHERE and FORALL.
use Rattle.std.specs.Prelude.{false, Some, None, [], ◌∷◌}
use Rattle.a95_base.specs.declared.fault.FaultKind.TheVariants as fault
use Rattle.f95_unit.specs.declared.operation.BinaryOp.TheVariants as binary
use Rattle.f95_unit.specs.declared.unit.DeclaredType.TheVariants as declared
use Rattle.f95_unit.specs.declared.unit.Role.TheVariants as role
use Rattle.f95_unit.specs.Plain.{typed, Named, Binary, Constructor, at, Whole, Subscripted, no_subscript, subscript, One}
use Rattle.f95_unit.specs.Plain.{SubscriptTriplet, Absent, Given, AllOf, no_item, value, loop, masked, no_masked, assigning}
use Rattle.f95_unit.specs.Plain.{narrowed, no_other, elsewhere, Assigns, Masks, ForAll, Print, no_stmt, stmt, Scalars, Explicit}
use Rattle.f95_unit.specs.Plain.{Program}
use Rattle.array_meaning.specs.Build.{ints, logs, int, index_at, target, assign, triplet, forall_over, span, entity, procedure}
use Rattle.array_meaning.specs.Build.{program, num, ended, faulted, Comes}

--     program p
--     integer :: a(5), b(5)
--     a = (/1,2,3,4,5/)
--     b = 0
--     where (a > 1)
--       where (a > 3)
--         b = 1
--       elsewhere
--         b = 2
--       end where
--       b = b + 10
--     end where
--     print *, b
--     end
unfoldable pub nested_where_with_elsewhere : Program
nested_where_with_elsewhere = program
    ([])
    (procedure 1 false false false
    (entity 2 declared.Integer (Explicit (span Absent (int 5) ∷ [])) role.Own None ∷ entity 2 declared.Integer (Explicit
    (span Absent (int 5) ∷ [])) role.Own None ∷ [])
    None
    (stmt (Assigns (assign 3 (target (ints 1) (at 0 Whole AllOf)) (typed (ints 1) (Constructor (value (int 1) (value (int 2)
    (value (int 3) (value (int 4) (value (int 5) no_item))))))))) (stmt (Assigns (assign 4 (target (ints 1) (at 1 Whole
    AllOf)) (int 0))) (stmt (Masks (masked 5 (typed (logs 1) (Binary binary.Greater (typed (ints 1) (Named (at 0 Whole
    AllOf))) (int 1))) (narrowed (masked 6 (typed (logs 1) (Binary binary.Greater (typed (ints 1) (Named (at 0 Whole
    AllOf))) (int 3))) (assigning (assign 7 (target (ints 1) (at 1 Whole AllOf)) (int 1)) no_masked) (elsewhere 8 None
    (assigning (assign 9 (target (ints 1) (at 1 Whole AllOf)) (int 2)) no_masked) no_other)) (assigning (assign 11 (target
    (ints 1) (at 1 Whole AllOf)) (typed (ints 1) (Binary binary.Add (typed (ints 1) (Named (at 1 Whole AllOf))) (int 10))))
    no_masked)) no_other)) (stmt (Print 13 ((typed (ints 1) (Named (at 1 Whole AllOf))) ∷ [])) no_stmt)))))
    ([])

abbrev pub NestedWhereWithElsewhere : Type 0
NestedWhereWithElsewhere = Comes nested_where_with_elsewhere ([]) 100 (ended ((num 0 ∷ num 12 ∷ num 12 ∷ num 11 ∷ num 11 ∷
    []) ∷ []))

--     program p
--     integer :: a(3), i
--     i = 7
--     forall (i = 1:3) a(i) = i
--     print *, i, a, (/ (i, i = 1, 2) /), i
--     end
unfoldable pub index_keeps_to_forall : Program
index_keeps_to_forall = program
    ([])
    (procedure 1 false false false
    (entity 2 declared.Integer (Explicit (span Absent (int 3) ∷ [])) role.Own None ∷ entity 2 declared.Integer Scalars
    role.Own None ∷ [])
    None
    (stmt (Assigns (assign 3 (target (ints 0) (at 1 Whole AllOf)) (int 7))) (stmt (ForAll (forall_over 4 (triplet (int 1)
    (int 3) Absent ∷ []) None (assign 4 (target (ints 0) (at 0 (Subscripted (subscript (One (index_at 0)) no_subscript))
    AllOf)) (index_at 0) ∷ []))) (stmt (Print 5 ((typed (ints 0) (Named (at 1 Whole AllOf))) ∷ (typed (ints 1) (Named (at 0
    Whole AllOf))) ∷ (typed (ints 1) (Constructor (loop (value (index_at 0) no_item) (int 1) (int 2) Absent no_item))) ∷
    (typed (ints 0) (Named (at 1 Whole AllOf))) ∷ [])) no_stmt))))
    ([])

abbrev pub IndexKeepsToForall : Type 0
IndexKeepsToForall = Comes index_keeps_to_forall ([]) 100 (ended ((num 7 ∷ num 1 ∷ num 2 ∷ num 3 ∷ num 1 ∷ num 2 ∷ num 7 ∷
    []) ∷ []))

--     program p
--     integer :: a(3,4), i
--     a = 0
--     forall (i = 1:3, i /= 2) a(i,2:3) = (/ i, 10*i /)
--     print *, a
--     end
unfoldable pub forall_section : Program
forall_section = program
    ([])
    (procedure 1 false false false
    (entity 2 declared.Integer (Explicit (span Absent (int 3) ∷ span Absent (int 4) ∷ [])) role.Own None ∷ entity 2
    declared.Integer Scalars role.Own None ∷ [])
    None
    (stmt (Assigns (assign 3 (target (ints 2) (at 0 Whole AllOf)) (int 0))) (stmt (ForAll (forall_over 4 (triplet (int 1)
    (int 3) Absent ∷ []) (Some (typed (logs 0) (Binary binary.NotEqual (index_at 0) (int 2)))) (assign 4 (target (ints 1)
    (at 0 (Subscripted (subscript (One (index_at 0)) (subscript (SubscriptTriplet (Given (int 2)) (Given (int 3)) Absent)
    no_subscript))) AllOf)) (typed (ints 1) (Constructor (value (index_at 0) (value (typed (ints 0) (Binary binary.Multiply
    (int 10) (index_at 0))) no_item)))) ∷ []))) (stmt (Print 5 ((typed (ints 2) (Named (at 0 Whole AllOf))) ∷ []))
    no_stmt))))
    ([])

abbrev pub ForallSection : Type 0
ForallSection = Comes forall_section ([]) 100 (ended ((num 0 ∷ num 0 ∷ num 0 ∷ num 1 ∷ num 0 ∷ num 3 ∷ num 10 ∷ num 0 ∷ num
    30 ∷ num 0 ∷ num 0 ∷ num 0 ∷ []) ∷ []))

--     program p
--     integer :: k(2), i, j, n, a(3,3)
--     forall (i = 1:3:n, j = k(9):2) a(i,j) = 1
--     end
unfoldable pub forall_strides_in_order : Program
forall_strides_in_order = program
    ([])
    (procedure 1 false false false
    (entity 2 declared.Integer (Explicit (span Absent (int 2) ∷ [])) role.Own None ∷ entity 2 declared.Integer Scalars
    role.Own None ∷ entity 2 declared.Integer Scalars role.Own None ∷ entity 2 declared.Integer Scalars role.Own None ∷
    entity 2 declared.Integer (Explicit (span Absent (int 3) ∷ span Absent (int 3) ∷ [])) role.Own None ∷ [])
    None
    (stmt (ForAll (forall_over 3 (triplet (int 1) (int 3) (Given (typed (ints 0) (Named (at 3 Whole AllOf)))) ∷ triplet
    (typed (ints 0) (Named (at 0 (Subscripted (subscript (One (int 9)) no_subscript)) AllOf))) (int 2) Absent ∷ []) None
    (assign 3 (target (ints 0) (at 4 (Subscripted (subscript (One (index_at 0)) (subscript (One (index_at 1))
    no_subscript))) AllOf)) (int 1) ∷ []))) no_stmt))
    ([])

abbrev pub ForallStridesInOrder : Type 0
ForallStridesInOrder = Comes forall_strides_in_order ([]) 100 (faulted fault.ZeroStep 3 ([]))
