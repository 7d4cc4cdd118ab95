-- Small sources that show what acts when.
use Rattle.std.specs.Prelude.{ℕ, pos, false, Some, None, [], ◌∷◌}
use Rattle.a95_base.specs.declared.fault.FaultKind.TheVariants as fault
use Rattle.f95_unit.specs.declared.operation.UnaryOp.TheVariants as unary
use Rattle.f95_unit.specs.declared.operation.BinaryOp.TheVariants as binary
use Rattle.f95_unit.specs.declared.operation.Elemental.TheVariants as elemental
use Rattle.f95_unit.specs.declared.operation.Inquiry.TheVariants as inquiry
use Rattle.f95_unit.specs.declared.operation.Reduction.TheVariants as reduction
use Rattle.f95_unit.specs.declared.operation.Rearranging.TheVariants as rearranging
use Rattle.f95_unit.specs.declared.unit.DeclaredType.TheVariants as declared
use Rattle.f95_unit.specs.declared.unit.Role.TheVariants as role
use Rattle.f95_unit.specs.Plain.{Expr, typed, Named, Asked, Of, Unary, Binary, Constructor, Elementwise, Reduced, Rearranged, at}
use Rattle.f95_unit.specs.Plain.{Whole, Subscripted, no_subscript, subscript, One, Vector, SubscriptTriplet, Absent, Given, AllOf}
use Rattle.f95_unit.specs.Plain.{no_item, value, no_argument, argument, masked, no_masked, assigning, no_other, elsewhere, Assigns}
use Rattle.f95_unit.specs.Plain.{Masks, ForAll, Print, Do, no_stmt, stmt, Scalars, Explicit, Program}
use Rattle.array_meaning.specs.State.{State, dimension, fresh}
use Rattle.array_meaning.specs.Trees.{Caller}
use Rattle.array_meaning.specs.Reads.{Reads, is_spared}
use Rattle.array_meaning.specs.Build.{ints, logs, texts, int, index_at, target, assign, triplet, forall_over, span, entity}
use Rattle.array_meaning.specs.Build.{procedure, program, num, ended, faulted, going, Comes}

--     program p
--     integer :: a(5)
--     a = (/1,2,3,4,5/)
--     a(2:5) = a(1:4)
--     print *, a
--     end
unfoldable pub shifted_section : Program
shifted_section = program
    ([])
    (procedure 1 false false false
    (entity 2 declared.Integer (Explicit (span Absent (int 5) ∷ [])) role.Own None ∷ [])
    None
    (stmt (Assigns (assign 3 (target (ints 1) (at 0 Whole AllOf)) (typed (ints 1) (Constructor (value (int 1) (value (int 2)
    (value (int 3) (value (int 4) (value (int 5) no_item))))))))) (stmt (Assigns (assign 4 (target (ints 1) (at 0
    (Subscripted (subscript (SubscriptTriplet (Given (int 2)) (Given (int 5)) Absent) no_subscript)) AllOf)) (typed (ints 1) (Named
    (at 0 (Subscripted (subscript (SubscriptTriplet (Given (int 1)) (Given (int 4)) Absent) no_subscript)) AllOf))))) (stmt (Print 5
    ((typed (ints 1) (Named (at 0 Whole AllOf))) ∷ [])) no_stmt))))
    ([])

abbrev pub ShiftedSection : Type 0
ShiftedSection = Comes shifted_section ([]) 100 (ended ((num 1 ∷ num 1 ∷ num 2 ∷ num 3 ∷ num 4 ∷ []) ∷ []))

--     program p; integer :: a(3); a = (/1,2,3/); where (a > 1) a = sum(a); print *, a; end
unfoldable pub sum_without_mask : Program
sum_without_mask = program
    ([])
    (procedure 1 false false false
    (entity 1 declared.Integer (Explicit (span Absent (int 3) ∷ [])) role.Own None ∷ [])
    None
    (stmt (Assigns (assign 1 (target (ints 1) (at 0 Whole AllOf)) (typed (ints 1) (Constructor (value (int 1) (value (int 2)
    (value (int 3) no_item))))))) (stmt (Masks (masked 1 (typed (logs 1) (Binary binary.Greater (typed (ints 1) (Named (at
    0 Whole AllOf))) (int 1))) (assigning (assign 1 (target (ints 1) (at 0 Whole AllOf)) (typed (ints 0) (Reduced
    reduction.Sum None (argument 0 (typed (ints 1) (Named (at 0 Whole AllOf))) no_argument)))) no_masked) no_other)) (stmt
    (Print 1 ((typed (ints 1) (Named (at 0 Whole AllOf))) ∷ [])) no_stmt))))
    ([])

abbrev pub SumWithoutMask : Type 0
SumWithoutMask = Comes sum_without_mask ([]) 100 (ended ((num 1 ∷ num 6 ∷ num 6 ∷ []) ∷ []))

--     program p
--     integer :: a(3), b(3)
--     a = (/0,1,2/)
--     b = 0
--     where (a == 0)
--       b = 9
--     elsewhere (6 / a > 3)
--       b = 1
--     end where
--     print *, b
--     end
unfoldable pub pending_places_alone : Program
pending_places_alone = program
    ([])
    (procedure 1 false false false
    (entity 2 declared.Integer (Explicit (span Absent (int 3) ∷ [])) role.Own None ∷ entity 2 declared.Integer (Explicit
    (span Absent (int 3) ∷ [])) role.Own None ∷ [])
    None
    (stmt (Assigns (assign 3 (target (ints 1) (at 0 Whole AllOf)) (typed (ints 1) (Constructor (value (int 0) (value (int 1)
    (value (int 2) no_item))))))) (stmt (Assigns (assign 4 (target (ints 1) (at 1 Whole AllOf)) (int 0))) (stmt (Masks
    (masked 5 (typed (logs 1) (Binary binary.Equal (typed (ints 1) (Named (at 0 Whole AllOf))) (int 0))) (assigning (assign
    6 (target (ints 1) (at 1 Whole AllOf)) (int 9)) no_masked) (elsewhere 7 (Some (typed (logs 1) (Binary binary.Greater
    (typed (ints 1) (Binary binary.Divide (int 6) (typed (ints 1) (Named (at 0 Whole AllOf))))) (int 3)))) (assigning
    (assign 8 (target (ints 1) (at 1 Whole AllOf)) (int 1)) no_masked) no_other))) (stmt (Print 10 ((typed (ints 1) (Named
    (at 1 Whole AllOf))) ∷ [])) no_stmt)))))
    ([])

abbrev pub PendingPlacesAlone : Type 0
PendingPlacesAlone = Comes pending_places_alone ([]) 100 (ended ((num 9 ∷ num 1 ∷ num 0 ∷ []) ∷ []))

--     program p; integer :: a(4), i; a = (/1,2,3,4/); forall (i = 2:4) a(i) = a(i-1); print *, a; end
unfoldable pub forall_before_any_store : Program
forall_before_any_store = program
    ([])
    (procedure 1 false false false
    (entity 1 declared.Integer (Explicit (span Absent (int 4) ∷ [])) role.Own None ∷ entity 1 declared.Integer Scalars
    role.Own None ∷ [])
    None
    (stmt (Assigns (assign 1 (target (ints 1) (at 0 Whole AllOf)) (typed (ints 1) (Constructor (value (int 1) (value (int 2)
    (value (int 3) (value (int 4) no_item)))))))) (stmt (ForAll (forall_over 1 (triplet (int 2) (int 4) Absent ∷ []) None
    (assign 1 (target (ints 0) (at 0 (Subscripted (subscript (One (index_at 0)) no_subscript)) AllOf)) (typed (ints 0)
    (Named (at 0 (Subscripted (subscript (One (typed (ints 0) (Binary binary.Subtract (index_at 0) (int 1))))
    no_subscript)) AllOf))) ∷ []))) (stmt (Print 1 ((typed (ints 1) (Named (at 0 Whole AllOf))) ∷ [])) no_stmt))))
    ([])

abbrev pub ForallBeforeAnyStore : Type 0
ForallBeforeAnyStore = Comes forall_before_any_store ([]) 100 (ended ((num 1 ∷ num 1 ∷ num 2 ∷ num 3 ∷ []) ∷ []))

--     program p
--     integer :: i
--     do i = 1, 5
--       print *, i
--     end do
--     end
unfoldable pub turns_run_out : Program
turns_run_out = program
    ([])
    (procedure 1 false false false
    (entity 2 declared.Integer Scalars role.Own None ∷ [])
    None
    (stmt (Do 3 0 (int 1) (int 5) Absent (stmt (Print 4 ((typed (ints 0) (Named (at 0 Whole AllOf))) ∷ [])) no_stmt))
    no_stmt))
    ([])

abbrev pub TurnsRunOut : Type 0
TurnsRunOut = Comes turns_run_out ([]) 3 (going ((num 1 ∷ []) ∷ (num 2 ∷ []) ∷ (num 3 ∷ []) ∷ []))

--     program p
--     integer :: a(5), b(2,3)
--     a = (/1,2,3,4,5/)
--     b = reshape((/1,2,3,4,5,6/), (/2,3/))
--     print *, cshift(a,1), cshift(a,-2), eoshift(a,2), eoshift(a,-1,9)
--     print *, cshift(b,1), cshift(b,1,2), eoshift(b,1,0,2)
--     end
unfoldable pub shifts : Program
shifts = program
    ([])
    (procedure 1 false false false
    (entity 2 declared.Integer (Explicit (span Absent (int 5) ∷ [])) role.Own None ∷ entity 2 declared.Integer (Explicit
    (span Absent (int 2) ∷ span Absent (int 3) ∷ [])) role.Own None ∷ [])
    None
    (stmt (Assigns (assign 3 (target (ints 1) (at 0 Whole AllOf)) (typed (ints 1) (Constructor (value (int 1) (value (int 2)
    (value (int 3) (value (int 4) (value (int 5) no_item))))))))) (stmt (Assigns (assign 4 (target (ints 2) (at 1 Whole
    AllOf)) (typed (ints 2) (Rearranged rearranging.Reshape None (argument 0 (typed (ints 1) (Constructor (value (int 1)
    (value (int 2) (value (int 3) (value (int 4) (value (int 5) (value (int 6) no_item)))))))) (argument 1 (typed (ints 1)
    (Constructor (value (int 2) (value (int 3) no_item)))) no_argument)))))) (stmt (Print 5 ((typed (ints 1) (Rearranged
    rearranging.Cshift None (argument 0 (typed (ints 1) (Named (at 0 Whole AllOf))) (argument 1 (int 1) no_argument)))) ∷
    (typed (ints 1) (Rearranged rearranging.Cshift None (argument 0 (typed (ints 1) (Named (at 0 Whole AllOf))) (argument 1
    (typed (ints 0) (Unary unary.Minus (int 2))) no_argument)))) ∷ (typed (ints 1) (Rearranged rearranging.Eoshift None
    (argument 0 (typed (ints 1) (Named (at 0 Whole AllOf))) (argument 1 (int 2) no_argument)))) ∷ (typed (ints 1)
    (Rearranged rearranging.Eoshift None (argument 0 (typed (ints 1) (Named (at 0 Whole AllOf))) (argument 1 (typed (ints
    0) (Unary unary.Minus (int 1))) (argument 2 (int 9) no_argument))))) ∷ [])) (stmt (Print 6 ((typed (ints 2) (Rearranged
    rearranging.Cshift None (argument 0 (typed (ints 2) (Named (at 1 Whole AllOf))) (argument 1 (int 1) no_argument)))) ∷
    (typed (ints 2) (Rearranged rearranging.Cshift (Some 2) (argument 0 (typed (ints 2) (Named (at 1 Whole AllOf)))
    (argument 1 (int 1) no_argument)))) ∷ (typed (ints 2) (Rearranged rearranging.Eoshift (Some 2) (argument 0 (typed (ints
    2) (Named (at 1 Whole AllOf))) (argument 1 (int 1) (argument 2 (int 0) no_argument))))) ∷ [])) no_stmt)))))
    ([])

abbrev pub Shifts : Type 0
Shifts = Comes shifts ([]) 100 (ended ((num 2 ∷ num 3 ∷ num 4 ∷ num 5 ∷ num 1 ∷ num 4 ∷ num 5 ∷ num 1 ∷ num 2 ∷ num 3 ∷ num 3
    ∷ num 4 ∷ num 5 ∷ num 0 ∷ num 0 ∷ num 9 ∷ num 1 ∷ num 2 ∷ num 3 ∷ num 4 ∷ []) ∷ (num 2 ∷ num 1 ∷ num 4 ∷ num 3 ∷ num 6 ∷
    num 5 ∷ num 3 ∷ num 4 ∷ num 5 ∷ num 6 ∷ num 1 ∷ num 2 ∷ num 3 ∷ num 4 ∷ num 5 ∷ num 6 ∷ num 0 ∷ num 0 ∷ []) ∷ []))

--     program p
--     integer :: a(3), n
--     n = 2
--     a((/1,1,2/)) = a(1:n)
--     end
unfoldable pub shape_before_many_one : Program
shape_before_many_one = program
    ([])
    (procedure 1 false false false
    (entity 2 declared.Integer (Explicit (span Absent (int 3) ∷ [])) role.Own None ∷ entity 2 declared.Integer Scalars
    role.Own None ∷ [])
    None
    (stmt (Assigns (assign 3 (target (ints 0) (at 1 Whole AllOf)) (int 2))) (stmt (Assigns (assign 4 (target (ints 1) (at 0
    (Subscripted (subscript (Vector (typed (ints 1) (Constructor (value (int 1) (value (int 1) (value (int 2) no_item))))))
    no_subscript)) AllOf)) (typed (ints 1) (Named (at 0 (Subscripted (subscript (SubscriptTriplet (Given (int 1)) (Given (typed
    (ints
    0) (Named (at 1 Whole AllOf)))) Absent) no_subscript)) AllOf))))) no_stmt)))
    ([])

abbrev pub ShapeBeforeManyOne : Type 0
ShapeBeforeManyOne = Comes shape_before_many_one ([]) 100 (faulted fault.Shape 4 ([]))

--     program p
--     integer :: a(3), b(2)
--     a((/1,1/)) = 1 / b
--     end
unfoldable pub many_one_before_elements : Program
many_one_before_elements = program
    ([])
    (procedure 1 false false false
    (entity 2 declared.Integer (Explicit (span Absent (int 3) ∷ [])) role.Own None ∷ entity 2 declared.Integer (Explicit
    (span Absent (int 2) ∷ [])) role.Own None ∷ [])
    None
    (stmt (Assigns (assign 3 (target (ints 1) (at 0 (Subscripted (subscript (Vector (typed (ints 1) (Constructor (value (int
    1) (value (int 1) no_item))))) no_subscript)) AllOf)) (typed (ints 1) (Binary binary.Divide (int 1) (typed (ints 1)
    (Named (at 1 Whole AllOf))))))) no_stmt))
    ([])

abbrev pub ManyOneBeforeElements : Type 0
ManyOneBeforeElements = Comes many_one_before_elements ([]) 100 (faulted fault.ManyOne 3 ([]))

--     program p
--     integer :: a(2), n
--     a = (/65,300/)
--     print *, sum(ichar(char(a)), mask = 1/n > 0)
--     end
unfoldable pub scalar_mask_by_itself : Program
scalar_mask_by_itself = program
    ([])
    (procedure 1 false false false
    (entity 2 declared.Integer (Explicit (span Absent (int 2) ∷ [])) role.Own None ∷ entity 2 declared.Integer Scalars
    role.Own None ∷ [])
    None
    (stmt (Assigns (assign 3 (target (ints 1) (at 0 Whole AllOf)) (typed (ints 1) (Constructor (value (int 65) (value (int
    300) no_item)))))) (stmt (Print 4 ((typed (ints 0) (Reduced reduction.Sum None (argument 0 (typed (ints 1) (Elementwise
    elemental.Ichar (argument 0 (typed (texts 1 1) (Elementwise elemental.Char (argument 0 (typed (ints 1) (Named (at 0
    Whole AllOf))) no_argument))) no_argument))) (argument 2 (typed (logs 0) (Binary binary.Greater (typed (ints 0) (Binary
    binary.Divide (int 1) (typed (ints 0) (Named (at 1 Whole AllOf))))) (int 0))) no_argument)))) ∷ [])) no_stmt)))
    ([])

abbrev pub ScalarMaskByItself : Type 0
ScalarMaskByItself = Comes scalar_mask_by_itself ([]) 100 (faulted fault.CharRange 4 ([]))

--     program p
--     print *, reshape((/1,2,3,4,5,6,7,8,9,10,11,12/), (/2,3,2/), order=(/2,3,1/))
--     print *, reshape((/1,2,3,4,5,6,7,8,9,10,11,12/), (/2,3,2/), order=(/3,1,2/))
--     end
unfoldable pub order_of_three : Program
order_of_three = program
    ([])
    (procedure 1 false false false
    ([])
    None
    (stmt (Print 2 ((typed (ints 3) (Rearranged rearranging.Reshape None (argument 0 (typed (ints 1) (Constructor (value (int
    1) (value (int 2) (value (int 3) (value (int 4) (value (int 5) (value (int 6) (value (int 7) (value (int 8) (value (int
    9) (value (int 10) (value (int 11) (value (int 12) no_item)))))))))))))) (argument 1 (typed (ints 1) (Constructor
    (value (int 2) (value (int 3) (value (int 2) no_item))))) (argument 3 (typed (ints 1) (Constructor (value (int 2)
    (value (int 3) (value (int 1) no_item))))) no_argument))))) ∷ [])) (stmt (Print 3 ((typed (ints 3) (Rearranged
    rearranging.Reshape None (argument 0 (typed (ints 1) (Constructor (value (int 1) (value (int 2) (value (int 3) (value
    (int 4) (value (int 5) (value (int 6) (value (int 7) (value (int 8) (value (int 9) (value (int 10) (value (int 11)
    (value (int 12) no_item)))))))))))))) (argument 1 (typed (ints 1) (Constructor (value (int 2) (value (int 3) (value
    (int 2) no_item))))) (argument 3 (typed (ints 1) (Constructor (value (int 3) (value (int 1) (value (int 2) no_item)))))
    no_argument))))) ∷ [])) no_stmt)))
    ([])

abbrev pub OrderOfThree : Type 0
OrderOfThree = Comes order_of_three ([]) 100 (ended ((num 1 ∷ num 7 ∷ num 2 ∷ num 8 ∷ num 3 ∷ num 9 ∷ num 4 ∷ num 10 ∷ num 5
    ∷ num 11 ∷ num 6 ∷ num 12 ∷ []) ∷ (num 1 ∷ num 3 ∷ num 5 ∷ num 7 ∷ num 9 ∷ num 11 ∷ num 2 ∷ num 4 ∷ num 6 ∷ num 8 ∷ num
    10 ∷ num 12 ∷ []) ∷ []))

-- with `integer :: a(5)`, the expression `a(1) + size(a(2:5))` reads no place that the store `a(2) = 9` stores into, whatever turns
-- are left
abbrev pub first_and_size : Expr
first_and_size = typed (ints 0) (Binary binary.Add (typed (ints 0) (Named (at 0 (Subscripted (subscript (One (int 1))
    no_subscript)) AllOf))) (typed (ints 0) (Asked inquiry.Size None (Of (typed (ints 1) (Named (at 0 (Subscripted (subscript
    (SubscriptTriplet (Given (int 2)) (Given (int 5)) Absent) no_subscript)) AllOf)))))))

abbrev pub five_elements : ℕ → State
five_elements turns = record {
  variables = fresh (num 0) (dimension (pos 1) (pos 5) ∷ []) ∷ [];
  input = [];
  written = [];
  left = turns;
}

abbrev pub ReadsElsewhere : Type 0
ReadsElsewhere = (unit : Program) (calls : Caller) (line turns : ℕ) → Reads unit calls line (five_elements turns)
    (is_spared 0 ((1, num 9) ∷ [])) [] first_and_size
