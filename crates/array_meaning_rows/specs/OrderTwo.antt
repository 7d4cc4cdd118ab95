-- What is evaluated and tested before what.
use Rattle.std.specs.Prelude.{false, None, [], ◌∷◌}
use Rattle.a95_base.specs.declared.fault.FaultKind.TheVariants as fault
use Rattle.f95_unit.specs.declared.operation.BinaryOp.TheVariants as binary
use Rattle.f95_unit.specs.declared.operation.Elemental.TheVariants as elemental
use Rattle.f95_unit.specs.declared.unit.DeclaredType.TheVariants as declared
use Rattle.f95_unit.specs.declared.unit.Role.TheVariants as role
use Rattle.f95_unit.specs.Plain.{typed, Named, Binary, Constructor, Elementwise, at, Whole, Subscripted, no_subscript, subscript}
use Rattle.f95_unit.specs.Plain.{One, Vector, SubscriptTriplet, Absent, Given, AllOf, no_item, value, no_argument, argument, masked}
use Rattle.f95_unit.specs.Plain.{no_masked, assigning, narrowed, no_other, Assigns, Masks, ForAll, no_stmt, stmt, Scalars, Explicit}
use Rattle.f95_unit.specs.Plain.{Program}
use Rattle.array_meaning.specs.Build.{ints, logs, int, target, assign, triplet, forall_over, span, entity, procedure, program}
use Rattle.array_meaning.specs.Build.{faulted, Comes}

--     program p; integer :: a(3), n; n = 2; where (a(1:n) == 0) a = 1; end
unfoldable pub mask_of_another_shape : Program
mask_of_another_shape = program
    ([])
    (procedure 1 false false false
    (entity 1 declared.Integer (Explicit (span Absent (int 3) ∷ [])) role.Own None ∷ entity 1 declared.Integer Scalars
    role.Own None ∷ [])
    None
    (stmt (Assigns (assign 1 (target (ints 0) (at 1 Whole AllOf)) (int 2))) (stmt (Masks (masked 1 (typed (logs 1) (Binary
    binary.Equal (typed (ints 1) (Named (at 0 (Subscripted (subscript (SubscriptTriplet (Given (int 1)) (Given (typed (ints 0)
    (Named
    (at 1 Whole AllOf)))) Absent) no_subscript)) AllOf))) (int 0))) (assigning (assign 1 (target (ints 1) (at 0 Whole
    AllOf)) (int 1)) no_masked) no_other)) no_stmt)))
    ([])

abbrev pub MaskOfAnotherShape : Type 0
MaskOfAnotherShape = Comes mask_of_another_shape ([]) 100 (faulted fault.Shape 1 ([]))

--     program p
--     integer :: a(3), n
--     n = 2
--     where (a == 0)
--       where (a(1:n) == 0) a = 1
--     end where
--     end
unfoldable pub nested_mask_of_another_shape : Program
nested_mask_of_another_shape = program
    ([])
    (procedure 1 false false false
    (entity 2 declared.Integer (Explicit (span Absent (int 3) ∷ [])) role.Own None ∷ entity 2 declared.Integer Scalars
    role.Own None ∷ [])
    None
    (stmt (Assigns (assign 3 (target (ints 0) (at 1 Whole AllOf)) (int 2))) (stmt (Masks (masked 4 (typed (logs 1) (Binary
    binary.Equal (typed (ints 1) (Named (at 0 Whole AllOf))) (int 0))) (narrowed (masked 5 (typed (logs 1) (Binary
    binary.Equal (typed (ints 1) (Named (at 0 (Subscripted (subscript (SubscriptTriplet (Given (int 1)) (Given (typed (ints 0)
    (Named
    (at 1 Whole AllOf)))) Absent) no_subscript)) AllOf))) (int 0))) (assigning (assign 5 (target (ints 1) (at 0 Whole
    AllOf)) (int 1)) no_masked) no_other) no_masked) no_other)) no_stmt)))
    ([])

abbrev pub NestedMaskOfAnotherShape : Type 0
NestedMaskOfAnotherShape = Comes nested_mask_of_another_shape ([]) 100 (faulted fault.Shape 5 ([]))

--     program p
--     integer :: a(3), n
--     n = 2
--     where (a(1:n) == 0) a((/1,1,2/)) = 1
--     end
unfoldable pub mask_shape_before_many_one : Program
mask_shape_before_many_one = program
    ([])
    (procedure 1 false false false
    (entity 2 declared.Integer (Explicit (span Absent (int 3) ∷ [])) role.Own None ∷ entity 2 declared.Integer Scalars
    role.Own None ∷ [])
    None
    (stmt (Assigns (assign 3 (target (ints 0) (at 1 Whole AllOf)) (int 2))) (stmt (Masks (masked 4 (typed (logs 1) (Binary
    binary.Equal (typed (ints 1) (Named (at 0 (Subscripted (subscript (SubscriptTriplet (Given (int 1)) (Given (typed (ints 0)
    (Named
    (at 1 Whole AllOf)))) Absent) no_subscript)) AllOf))) (int 0))) (assigning (assign 4 (target (ints 1) (at 0
    (Subscripted (subscript (Vector (typed (ints 1) (Constructor (value (int 1) (value (int 1) (value (int 2) no_item))))))
    no_subscript)) AllOf)) (int 1)) no_masked) no_other)) no_stmt)))
    ([])

abbrev pub MaskShapeBeforeManyOne : Type 0
MaskShapeBeforeManyOne = Comes mask_shape_before_many_one ([]) 100 (faulted fault.Shape 4 ([]))

--     program p; integer :: a(3), i, n; forall (i = 1:1) a(4 + n) = mod(1, n); end
unfoldable pub left_parts_behind_right_in_forall : Program
left_parts_behind_right_in_forall = program
    ([])
    (procedure 1 false false false
    (entity 1 declared.Integer (Explicit (span Absent (int 3) ∷ [])) role.Own None ∷ entity 1 declared.Integer Scalars
    role.Own None ∷ entity 1 declared.Integer Scalars role.Own None ∷ [])
    None
    (stmt (ForAll (forall_over 1 (triplet (int 1) (int 1) Absent ∷ []) None (assign 1 (target (ints 0) (at 0 (Subscripted
    (subscript (One (typed (ints 0) (Binary binary.Add (int 4) (typed (ints 0) (Named (at 2 Whole AllOf))))))
    no_subscript)) AllOf)) (typed (ints 0) (Elementwise elemental.Mod (argument 0 (int 1) (argument 1 (typed (ints 0)
    (Named (at 2 Whole AllOf))) no_argument)))) ∷ []))) no_stmt))
    ([])

abbrev pub LeftPartsBehindRightInForall : Type 0
LeftPartsBehindRightInForall = Comes left_parts_behind_right_in_forall ([]) 100 (faulted fault.ZeroDivide 1 ([]))
