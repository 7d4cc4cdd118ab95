-- What is evaluated and tested before what.
use Rattle.std.specs.Prelude.{false, None, [], ◌∷◌}
use Rattle.a95_base.specs.declared.fault.FaultKind.TheVariants as fault
use Rattle.f95_unit.specs.declared.operation.BinaryOp.TheVariants as binary
use Rattle.f95_unit.specs.declared.operation.Elemental.TheVariants as elemental
use Rattle.f95_unit.specs.declared.operation.Reduction.TheVariants as reduction
use Rattle.f95_unit.specs.declared.operation.Rearranging.TheVariants as rearranging
use Rattle.f95_unit.specs.declared.unit.DeclaredType.TheVariants as declared
use Rattle.f95_unit.specs.declared.unit.Length.TheVariants as long
use Rattle.f95_unit.specs.declared.unit.Role.TheVariants as role
use Rattle.f95_unit.specs.declared.unit.Intent.TheVariants as intent
use Rattle.f95_unit.specs.Plain.{typed, Named, Binary, Constructor, Elementwise, Reduced, Rearranged, at, Whole, Subscripted}
use Rattle.f95_unit.specs.Plain.{no_subscript, subscript, One, SubscriptTriplet, Absent, Given, AllOf, no_item, value, no_argument}
use Rattle.f95_unit.specs.Plain.{argument, call, Assigns, ForAll, Calls, Print, no_stmt, stmt, Scalars, Explicit, Assumed, Program}
use Rattle.array_meaning.specs.Build.{ints, logs, texts, some_texts, int, index_at, target, assign, triplet, forall_over, span}
use Rattle.array_meaning.specs.Build.{entity, procedure, program, faulted, Comes}

--     program p; integer :: a(3), n; a(4 + n) = mod(1, n); end
unfoldable pub left_parts_behind_right : Program
left_parts_behind_right = program
    ([])
    (procedure 1 false false false
    (entity 1 declared.Integer (Explicit (span Absent (int 3) ∷ [])) role.Own None ∷ entity 1 declared.Integer Scalars
    role.Own None ∷ [])
    None
    (stmt (Assigns (assign 1 (target (ints 0) (at 0 (Subscripted (subscript (One (typed (ints 0) (Binary binary.Add (int 4)
    (typed (ints 0) (Named (at 1 Whole AllOf)))))) no_subscript)) AllOf)) (typed (ints 0) (Elementwise elemental.Mod
    (argument 0 (int 1) (argument 1 (typed (ints 0) (Named (at 1 Whole AllOf))) no_argument)))))) no_stmt))
    ([])

abbrev pub LeftPartsBehindRight : Type 0
LeftPartsBehindRight = Comes left_parts_behind_right ([]) 100 (faulted fault.ZeroDivide 1 ([]))

--     program p
--     integer :: a(2), b(2)
--     a = (/65,300/)
--     b = (/0,1/)
--     print *, dot_product(ichar(char(a)), 1/b)
--     end
unfoldable pub dot_product_place_by_place : Program
dot_product_place_by_place = program
    ([])
    (procedure 1 false false false
    (entity 2 declared.Integer (Explicit (span Absent (int 2) ∷ [])) role.Own None ∷ entity 2 declared.Integer (Explicit
    (span Absent (int 2) ∷ [])) role.Own None ∷ [])
    None
    (stmt (Assigns (assign 3 (target (ints 1) (at 0 Whole AllOf)) (typed (ints 1) (Constructor (value (int 65) (value (int
    300) no_item)))))) (stmt (Assigns (assign 4 (target (ints 1) (at 1 Whole AllOf)) (typed (ints 1) (Constructor (value
    (int 0) (value (int 1) no_item)))))) (stmt (Print 5 ((typed (ints 0) (Reduced reduction.DotProduct None (argument 0
    (typed (ints 1) (Elementwise elemental.Ichar (argument 0 (typed (texts 1 1) (Elementwise elemental.Char (argument 0
    (typed (ints 1) (Named (at 0 Whole AllOf))) no_argument))) no_argument))) (argument 1 (typed (ints 1) (Binary
    binary.Divide (int 1) (typed (ints 1) (Named (at 1 Whole AllOf))))) no_argument)))) ∷ [])) no_stmt))))
    ([])

abbrev pub DotProductPlaceByPlace : Type 0
DotProductPlaceByPlace = Comes dot_product_place_by_place ([]) 100 (faulted fault.ZeroDivide 5 ([]))

--     program p
--     integer :: a(2), b(2)
--     a = (/65,300/)
--     b = (/0,1/)
--     print *, pack(ichar(char(a)), 1/b > 0)
--     end
unfoldable pub pack_one_after_the_other : Program
pack_one_after_the_other = program
    ([])
    (procedure 1 false false false
    (entity 2 declared.Integer (Explicit (span Absent (int 2) ∷ [])) role.Own None ∷ entity 2 declared.Integer (Explicit
    (span Absent (int 2) ∷ [])) role.Own None ∷ [])
    None
    (stmt (Assigns (assign 3 (target (ints 1) (at 0 Whole AllOf)) (typed (ints 1) (Constructor (value (int 65) (value (int
    300) no_item)))))) (stmt (Assigns (assign 4 (target (ints 1) (at 1 Whole AllOf)) (typed (ints 1) (Constructor (value
    (int 0) (value (int 1) no_item)))))) (stmt (Print 5 ((typed (ints 1) (Rearranged rearranging.Pack None (argument 0
    (typed (ints 1) (Elementwise elemental.Ichar (argument 0 (typed (texts 1 1) (Elementwise elemental.Char (argument 0
    (typed (ints 1) (Named (at 0 Whole AllOf))) no_argument))) no_argument))) (argument 1 (typed (logs 1) (Binary
    binary.Greater (typed (ints 1) (Binary binary.Divide (int 1) (typed (ints 1) (Named (at 1 Whole AllOf))))) (int 0)))
    no_argument)))) ∷ [])) no_stmt))))
    ([])

abbrev pub PackOneAfterTheOther : Type 0
PackOneAfterTheOther = Comes pack_one_after_the_other ([]) 100 (faulted fault.CharRange 5 ([]))

--     program p
--     integer :: k(2), n
--     print *, mod(p = k(9 + n), a = 1/n)
--     end
unfoldable pub arguments_in_text_order : Program
arguments_in_text_order = program
    ([])
    (procedure 1 false false false
    (entity 2 declared.Integer (Explicit (span Absent (int 2) ∷ [])) role.Own None ∷ entity 2 declared.Integer Scalars
    role.Own None ∷ [])
    None
    (stmt (Print 3 ((typed (ints 0) (Elementwise elemental.Mod (argument 1 (typed (ints 0) (Named (at 0 (Subscripted
    (subscript (One (typed (ints 0) (Binary binary.Add (int 9) (typed (ints 0) (Named (at 1 Whole AllOf))))))
    no_subscript)) AllOf))) (argument 0 (typed (ints 0) (Binary binary.Divide (int 1) (typed (ints 0) (Named (at 1 Whole
    AllOf))))) no_argument)))) ∷ [])) no_stmt))
    ([])

abbrev pub ArgumentsInTextOrder : Type 0
ArgumentsInTextOrder = Comes arguments_in_text_order ([]) 100 (faulted fault.Bounds 3 ([]))

--     program p
--     integer :: a(2), b(2), k(1), i
--     forall (i = 1:2) a(i) = 1/b(i) + k(i)
--     end
unfoldable pub forall_combination_by_combination : Program
forall_combination_by_combination = program
    ([])
    (procedure 1 false false false
    (entity 2 declared.Integer (Explicit (span Absent (int 2) ∷ [])) role.Own None ∷ entity 2 declared.Integer (Explicit
    (span Absent (int 2) ∷ [])) role.Own None ∷ entity 2 declared.Integer (Explicit (span Absent (int 1) ∷ [])) role.Own
    None ∷ entity 2 declared.Integer Scalars role.Own None ∷ [])
    None
    (stmt (ForAll (forall_over 3 (triplet (int 1) (int 2) Absent ∷ []) None (assign 3 (target (ints 0) (at 0 (Subscripted
    (subscript (One (index_at 0)) no_subscript)) AllOf)) (typed (ints 0) (Binary binary.Add (typed (ints 0) (Binary
    binary.Divide (int 1) (typed (ints 0) (Named (at 1 (Subscripted (subscript (One (index_at 0)) no_subscript)) AllOf)))))
    (typed (ints 0) (Named (at 2 (Subscripted (subscript (One (index_at 0)) no_subscript)) AllOf))))) ∷ []))) no_stmt))
    ([])

abbrev pub ForallCombinationByCombination : Type 0
ForallCombinationByCombination = Comes forall_combination_by_combination ([]) 100 (faulted fault.ZeroDivide 3 ([]))

--     program p; integer :: a(3), b(2), i; b = (/1,0/); forall (i = 1:2) a(1) = 6 / b(i); end
unfoldable pub forall_elements_before_many_one : Program
forall_elements_before_many_one = program
    ([])
    (procedure 1 false false false
    (entity 1 declared.Integer (Explicit (span Absent (int 3) ∷ [])) role.Own None ∷ entity 1 declared.Integer (Explicit
    (span Absent (int 2) ∷ [])) role.Own None ∷ entity 1 declared.Integer Scalars role.Own None ∷ [])
    None
    (stmt (Assigns (assign 1 (target (ints 1) (at 1 Whole AllOf)) (typed (ints 1) (Constructor (value (int 1) (value (int 0)
    no_item)))))) (stmt (ForAll (forall_over 1 (triplet (int 1) (int 2) Absent ∷ []) None (assign 1 (target (ints 0) (at 0
    (Subscripted (subscript (One (int 1)) no_subscript)) AllOf)) (typed (ints 0) (Binary binary.Divide (int 6) (typed (ints
    0) (Named (at 1 (Subscripted (subscript (One (index_at 0)) no_subscript)) AllOf))))) ∷ []))) no_stmt)))
    ([])

abbrev pub ForallElementsBeforeManyOne : Type 0
ForallElementsBeforeManyOne = Comes forall_elements_before_many_one ([]) 100 (faulted fault.ZeroDivide 1 ([]))

--     program p
--     integer :: a(5)
--     a = (/1,2,3,4,5/)
--     call s(a(1:3), a(3:5))
--     print *, a
--     contains
--     subroutine s(x, y)
--     integer, intent(inout) :: x(:), y(:)
--     x = x + 10
--     y = y + 20
--     end subroutine
--     end
unfoldable pub call_tested_before_its_turn : Program
call_tested_before_its_turn = program
    ([])
    (procedure 1 false false false
    (entity 2 declared.Integer (Explicit (span Absent (int 5) ∷ [])) role.Own None ∷ [])
    None
    (stmt (Assigns (assign 3 (target (ints 1) (at 0 Whole AllOf)) (typed (ints 1) (Constructor (value (int 1) (value (int 2)
    (value (int 3) (value (int 4) (value (int 5) no_item))))))))) (stmt (Calls 4 (call 0 (argument 0 (typed (ints 1) (Named
    (at 0 (Subscripted (subscript (SubscriptTriplet (Given (int 1)) (Given (int 3)) Absent) no_subscript)) AllOf))) (argument 1
    (typed
    (ints 1) (Named (at 0 (Subscripted (subscript (SubscriptTriplet (Given (int 3)) (Given (int 5)) Absent) no_subscript)) AllOf)))
    no_argument)))) (stmt (Print 5 ((typed (ints 1) (Named (at 0 Whole AllOf))) ∷ [])) no_stmt))))
    ((procedure 7 false false false
    (entity 8 declared.Integer (Assumed (Absent ∷ [])) (role.Dummy 0 intent.InOut) None ∷ entity 8 declared.Integer (Assumed
    (Absent ∷ [])) (role.Dummy 1 intent.InOut) None ∷ [])
    None
    (stmt (Assigns (assign 9 (target (ints 1) (at 0 Whole AllOf)) (typed (ints 1) (Binary binary.Add (typed (ints 1) (Named
    (at 0 Whole AllOf))) (int 10))))) (stmt (Assigns (assign 10 (target (ints 1) (at 1 Whole AllOf)) (typed (ints 1)
    (Binary binary.Add (typed (ints 1) (Named (at 1 Whole AllOf))) (int 20))))) no_stmt))) ∷ [])

abbrev pub CallTestedBeforeItsTurn : Type 0
CallTestedBeforeItsTurn = Comes call_tested_before_its_turn ([]) 0 (faulted fault.Overlap 4 ([]))

--     program p
--     call s(0)
--     contains
--     subroutine s(k)
--     integer, intent(in) :: k
--     integer :: v(1/k)
--     v = 1
--     end subroutine
--     end
unfoldable pub extent_of_a_declaration_faults : Program
extent_of_a_declaration_faults = program
    ([])
    (procedure 1 false false false
    ([])
    None
    (stmt (Calls 2 (call 0 (argument 0 (int 0) no_argument))) no_stmt))
    ((procedure 4 false false false
    (entity 5 declared.Integer Scalars (role.Dummy 0 intent.In) None ∷ entity 6 declared.Integer (Explicit (span Absent
    (typed (ints 0) (Binary binary.Divide (int 1) (typed (ints 0) (Named (at 0 Whole AllOf))))) ∷ [])) role.Own None ∷ [])
    None
    (stmt (Assigns (assign 7 (target (ints 1) (at 1 Whole AllOf)) (int 1))) no_stmt)) ∷ [])

abbrev pub ExtentOfADeclarationFaults : Type 0
ExtentOfADeclarationFaults = Comes extent_of_a_declaration_faults ([]) 100 (faulted fault.ZeroDivide 6 ([]))

--     program p
--     character(2) :: c(1)
--     call s(adjustl(c), 0)
--     contains
--     subroutine s(x, k)
--     integer, intent(in) :: k
--     character(3), intent(in) :: x(1/k)
--     print *, x
--     end subroutine
--     end
unfoldable pub length_before_bounds : Program
length_before_bounds = program
    ([])
    (procedure 1 false false false
    (entity 2 (declared.Character (long.Fixed 2)) (Explicit (span Absent (int 1) ∷ [])) role.Own None ∷ [])
    None
    (stmt (Calls 3 (call 0 (argument 0 (typed (some_texts 1) (Elementwise elemental.Adjustl (argument 0 (typed (texts 2 1)
    (Named (at 0 Whole AllOf))) no_argument))) (argument 1 (int 0) no_argument)))) no_stmt))
    ((procedure 5 false false false
    (entity 6 declared.Integer Scalars (role.Dummy 1 intent.In) None ∷ entity 7 (declared.Character (long.Fixed 3)) (Explicit
    (span Absent (typed (ints 0) (Binary binary.Divide (int 1) (typed (ints 0) (Named (at 0 Whole AllOf))))) ∷ []))
    (role.Dummy 0 intent.In) None ∷ [])
    None
    (stmt (Print 8 ((typed (texts 3 1) (Named (at 1 Whole AllOf))) ∷ [])) no_stmt)) ∷ [])

abbrev pub LengthBeforeBounds : Type 0
LengthBeforeBounds = Comes length_before_bounds ([]) 100 (faulted fault.DummyShape 3 ([]))
