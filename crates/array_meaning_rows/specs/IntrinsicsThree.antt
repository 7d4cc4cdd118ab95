-- Intrinsic functions and constructors.
use Rattle.std.specs.Prelude.{true, false, Some, None, [], ◌∷◌}
use Rattle.a95_base.specs.declared.fault.FaultKind.TheVariants as fault
use Rattle.f95_unit.specs.declared.operation.UnaryOp.TheVariants as unary
use Rattle.f95_unit.specs.declared.operation.BinaryOp.TheVariants as binary
use Rattle.f95_unit.specs.declared.operation.Inquiry.TheVariants as inquiry
use Rattle.f95_unit.specs.declared.operation.Reduction.TheVariants as reduction
use Rattle.f95_unit.specs.declared.operation.Rearranging.TheVariants as rearranging
use Rattle.f95_unit.specs.declared.unit.DeclaredType.TheVariants as declared
use Rattle.f95_unit.specs.declared.unit.Role.TheVariants as role
use Rattle.f95_unit.specs.Plain.{typed, Named, Unary, Binary, Constructor, Asked, Reduced, Rearranged, at, Whole, Subscripted}
use Rattle.f95_unit.specs.Plain.{no_subscript, subscript, One, SubscriptTriplet, Absent, Given, AllOf, no_item, value, no_argument}
use Rattle.f95_unit.specs.Plain.{argument, Of, Assigns, Print, no_stmt, stmt, Scalars, Explicit, Program}
use Rattle.array_meaning.specs.Build.{ints, logs, int, log, target, assign, span, entity, procedure, program, num, truth, ended}
use Rattle.array_meaning.specs.Build.{faulted, Comes}

--     program p; integer :: n; n = -1; print *, reshape((/1,2/), (/n/)); end
unfoldable pub shape_is_negative : Program
shape_is_negative = program
    ([])
    (procedure 1 false false false
    (entity 1 declared.Integer Scalars role.Own None ∷ [])
    None
    (stmt (Assigns (assign 1 (target (ints 0) (at 0 Whole AllOf)) (typed (ints 0) (Unary unary.Minus (int 1))))) (stmt (Print
    1 ((typed (ints 1) (Rearranged rearranging.Reshape None (argument 0 (typed (ints 1) (Constructor (value (int 1) (value
    (int 2) no_item)))) (argument 1 (typed (ints 1) (Constructor (value (typed (ints 0) (Named (at 0 Whole AllOf)))
    no_item))) no_argument)))) ∷ [])) no_stmt)))
    ([])

abbrev pub ShapeIsNegative : Type 0
ShapeIsNegative = Comes shape_is_negative ([]) 100 (faulted fault.Argument 1 ([]))

--     program p
--     logical :: l(2,2)
--     l = reshape((/.true.,.false.,.false.,.true./), (/2,2/))
--     print *, count(l .eqv. transpose(l)), cshift(l, 1), matmul(l, l), eoshift(l(1,:), 1), pack(l, l), all(l, 1)
--     end
unfoldable pub logical_arrays : Program
logical_arrays = program
    ([])
    (procedure 1 false false false
    (entity 2 declared.Logical (Explicit (span Absent (int 2) ∷ span Absent (int 2) ∷ [])) role.Own None ∷ [])
    None
    (stmt (Assigns (assign 3 (target (logs 2) (at 0 Whole AllOf)) (typed (logs 2) (Rearranged rearranging.Reshape None
    (argument 0 (typed (logs 1) (Constructor (value (log true) (value (log false) (value (log false) (value (log true)
    no_item)))))) (argument 1 (typed (ints 1) (Constructor (value (int 2) (value (int 2) no_item)))) no_argument))))))
    (stmt (Print 4 ((typed (ints 0) (Reduced reduction.Count None (argument 0 (typed (logs 2) (Binary binary.Equivalent
    (typed (logs 2) (Named (at 0 Whole AllOf))) (typed (logs 2) (Rearranged rearranging.Transpose None (argument 0 (typed
    (logs 2) (Named (at 0 Whole AllOf))) no_argument))))) no_argument))) ∷ (typed (logs 2) (Rearranged rearranging.Cshift
    None (argument 0 (typed (logs 2) (Named (at 0 Whole AllOf))) (argument 1 (int 1) no_argument)))) ∷ (typed (logs 2)
    (Reduced reduction.Matmul None (argument 0 (typed (logs 2) (Named (at 0 Whole AllOf))) (argument 1 (typed (logs 2)
    (Named (at 0 Whole AllOf))) no_argument)))) ∷ (typed (logs 1) (Rearranged rearranging.Eoshift None (argument 0 (typed
    (logs 1) (Named (at 0 (Subscripted (subscript (One (int 1)) (subscript (SubscriptTriplet Absent Absent Absent) no_subscript)))
    AllOf))) (argument 1 (int 1) no_argument)))) ∷ (typed (logs 1) (Rearranged rearranging.Pack None (argument 0 (typed
    (logs 2) (Named (at 0 Whole AllOf))) (argument 1 (typed (logs 2) (Named (at 0 Whole AllOf))) no_argument)))) ∷ (typed
    (logs 1) (Reduced reduction.All (Some 1) (argument 0 (typed (logs 2) (Named (at 0 Whole AllOf))) no_argument))) ∷ []))
    no_stmt)))
    ([])

abbrev pub LogicalArrays : Type 0
LogicalArrays = Comes logical_arrays ([]) 100 (ended ((num 4 ∷ truth false ∷ truth true ∷ truth true ∷ truth false ∷ truth
    true ∷ truth false ∷ truth false ∷ truth true ∷ truth false ∷ truth false ∷ truth true ∷ truth true ∷ truth false ∷ truth
    false ∷ []) ∷ []))

--     program p; integer :: a(2,3), n; n = 0; a = 0; print *, matmul(a(:,1:n), a(1:n,:)), sum(a(1:n,:), 1), size(spread(a, 1,
-- -2)); end
unfoldable pub empty_matrices : Program
empty_matrices = program
    ([])
    (procedure 1 false false false
    (entity 1 declared.Integer (Explicit (span Absent (int 2) ∷ span Absent (int 3) ∷ [])) role.Own None ∷ entity 1
    declared.Integer Scalars role.Own None ∷ [])
    None
    (stmt (Assigns (assign 1 (target (ints 0) (at 1 Whole AllOf)) (int 0))) (stmt (Assigns (assign 1 (target (ints 2) (at 0
    Whole AllOf)) (int 0))) (stmt (Print 1 ((typed (ints 2) (Reduced reduction.Matmul None (argument 0 (typed (ints 2)
    (Named (at 0 (Subscripted (subscript (SubscriptTriplet Absent Absent Absent) (subscript (SubscriptTriplet (Given (int 1))
    (Given (typed (ints
    0) (Named (at 1 Whole AllOf)))) Absent) no_subscript))) AllOf))) (argument 1 (typed (ints 2) (Named (at 0 (Subscripted
    (subscript (SubscriptTriplet (Given (int 1)) (Given (typed (ints 0) (Named (at 1 Whole AllOf)))) Absent) (subscript
    (SubscriptTriplet Absent
    Absent Absent) no_subscript))) AllOf))) no_argument)))) ∷ (typed (ints 1) (Reduced reduction.Sum (Some 1) (argument 0
    (typed (ints 2) (Named (at 0 (Subscripted (subscript (SubscriptTriplet (Given (int 1)) (Given (typed (ints 0) (Named (at 1 Whole
    AllOf)))) Absent) (subscript (SubscriptTriplet Absent Absent Absent) no_subscript))) AllOf))) no_argument))) ∷ (typed (ints 0)
    (Asked inquiry.Size None (Of (typed (ints 3) (Rearranged rearranging.Spread (Some 1) (argument 0 (typed (ints 2) (Named
    (at 0 Whole AllOf))) (argument 2 (typed (ints 0) (Unary unary.Minus (int 2))) no_argument))))))) ∷ [])) no_stmt))))
    ([])

abbrev pub EmptyMatrices : Type 0
EmptyMatrices = Comes empty_matrices ([]) 100 (ended ((num 0 ∷ num 0 ∷ num 0 ∷ num 0 ∷ num 0 ∷ num 0 ∷ num 0 ∷ num 0 ∷ num 0
    ∷ num 0 ∷ []) ∷ []))
