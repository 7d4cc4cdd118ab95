-- Sections without elements, with negative strides, and by subscripts that stand twice on the right.
use Rattle.std.specs.Prelude.{false, None, [], ◌∷◌}
use Rattle.f95_unit.specs.declared.operation.UnaryOp.TheVariants as unary
use Rattle.f95_unit.specs.declared.operation.BinaryOp.TheVariants as binary
use Rattle.f95_unit.specs.declared.operation.Inquiry.TheVariants as inquiry
use Rattle.f95_unit.specs.declared.operation.Reduction.TheVariants as reduction
use Rattle.f95_unit.specs.declared.unit.DeclaredType.TheVariants as declared
use Rattle.f95_unit.specs.declared.unit.Role.TheVariants as role
use Rattle.f95_unit.specs.Plain.{typed, Named, Unary, Binary, Constructor, Asked, Reduced, at, Whole, Subscripted, no_subscript}
use Rattle.f95_unit.specs.Plain.{subscript, Vector, SubscriptTriplet, Absent, Given, AllOf, no_item, value, loop, no_argument}
use Rattle.f95_unit.specs.Plain.{argument, Of, Assigns, Print, no_stmt, stmt, Scalars, Explicit, Program}
use Rattle.array_meaning.specs.Build.{ints, int, index_at, target, assign, span, entity, procedure, program, num, neg, ended, Comes}

--     program p
--     integer :: a(5), i
--     a = (/ (i, i = 1, 5) /)
--     a(4:3) = a(5:4) + 7
--     a(2:1:1) = 9
--     a(1:0) = a(9:2)
--     print *, a, size(a(3:2)), sum(a(3:2)), maxval(a(3:2))
--     end
unfoldable pub empty_sections : Program
empty_sections = program
    ([])
    (procedure 1 false false false
    (entity 2 declared.Integer (Explicit (span Absent (int 5) ∷ [])) role.Own None ∷ entity 2 declared.Integer Scalars
    role.Own None ∷ [])
    None
    (stmt (Assigns (assign 3 (target (ints 1) (at 0 Whole AllOf)) (typed (ints 1) (Constructor (loop (value (index_at 0)
    no_item) (int 1) (int 5) Absent no_item))))) (stmt (Assigns (assign 4 (target (ints 1) (at 0 (Subscripted (subscript
    (SubscriptTriplet (Given (int 4)) (Given (int 3)) Absent) no_subscript)) AllOf)) (typed (ints 1) (Binary binary.Add
    (typed (ints 1) (Named (at 0 (Subscripted (subscript (SubscriptTriplet (Given (int 5)) (Given (int 4)) Absent)
    no_subscript)) AllOf))) (int 7))))) (stmt (Assigns (assign 5 (target (ints 1) (at 0 (Subscripted (subscript
    (SubscriptTriplet (Given (int 2)) (Given (int 1)) (Given (int 1))) no_subscript)) AllOf)) (int 9))) (stmt (Assigns
    (assign 6 (target (ints 1) (at 0 (Subscripted (subscript (SubscriptTriplet (Given (int 1)) (Given (int 0)) Absent)
    no_subscript)) AllOf)) (typed (ints 1) (Named (at 0 (Subscripted (subscript (SubscriptTriplet (Given (int 9)) (Given
    (int 2)) Absent) no_subscript)) AllOf))))) (stmt (Print 7 ((typed (ints 1) (Named (at 0 Whole AllOf))) ∷ (typed (ints
    0) (Asked inquiry.Size None (Of (typed (ints 1) (Named (at 0 (Subscripted (subscript (SubscriptTriplet (Given (int 3))
    (Given (int 2)) Absent) no_subscript)) AllOf)))))) ∷ (typed (ints 0) (Reduced reduction.Sum None (argument 0 (typed
    (ints 1) (Named (at 0 (Subscripted (subscript (SubscriptTriplet (Given (int 3)) (Given (int 2)) Absent) no_subscript))
    AllOf))) no_argument))) ∷ (typed (ints 0) (Reduced reduction.Maxval None (argument 0 (typed (ints 1) (Named (at 0
    (Subscripted (subscript (SubscriptTriplet (Given (int 3)) (Given (int 2)) Absent) no_subscript)) AllOf)))
    no_argument))) ∷ [])) no_stmt))))))
    ([])

abbrev pub EmptySections : Type 0
EmptySections = Comes empty_sections ([]) 100 (ended ((num 1 ∷ num 2 ∷ num 3 ∷ num 4 ∷ num 5 ∷ num 0 ∷ num 0 ∷ neg
    2147483648 ∷ []) ∷ []))

--     program p
--     integer :: a(6), i
--     a = (/ (i, i = 1, 6) /)
--     a(6:2:-2) = a(1:5:2)
--     a(5:1:-1) = a(2:6)
--     print *, a
--     print *, a(6:1:-1), a(5:2:-2)
--     end
unfoldable pub backwards_onto_itself : Program
backwards_onto_itself = program
    ([])
    (procedure 1 false false false
    (entity 2 declared.Integer (Explicit (span Absent (int 6) ∷ [])) role.Own None ∷ entity 2 declared.Integer Scalars
    role.Own None ∷ [])
    None
    (stmt (Assigns (assign 3 (target (ints 1) (at 0 Whole AllOf)) (typed (ints 1) (Constructor (loop (value (index_at 0)
    no_item) (int 1) (int 6) Absent no_item))))) (stmt (Assigns (assign 4 (target (ints 1) (at 0 (Subscripted (subscript
    (SubscriptTriplet (Given (int 6)) (Given (int 2)) (Given (typed (ints 0) (Unary unary.Minus (int 2))))) no_subscript))
    AllOf)) (typed (ints 1) (Named (at 0 (Subscripted (subscript (SubscriptTriplet (Given (int 1)) (Given (int 5)) (Given
    (int 2))) no_subscript)) AllOf))))) (stmt (Assigns (assign 5 (target (ints 1) (at 0 (Subscripted (subscript
    (SubscriptTriplet (Given (int 5)) (Given (int 1)) (Given (typed (ints 0) (Unary unary.Minus (int 1))))) no_subscript))
    AllOf)) (typed (ints 1) (Named (at 0 (Subscripted (subscript (SubscriptTriplet (Given (int 2)) (Given (int 6)) Absent)
    no_subscript)) AllOf))))) (stmt (Print 6 ((typed (ints 1) (Named (at 0 Whole AllOf))) ∷ [])) (stmt (Print 7 ((typed
    (ints 1) (Named (at 0 (Subscripted (subscript (SubscriptTriplet (Given (int 6)) (Given (int 1)) (Given (typed (ints 0)
    (Unary unary.Minus (int 1))))) no_subscript)) AllOf))) ∷ (typed (ints 1) (Named (at 0 (Subscripted (subscript
    (SubscriptTriplet (Given (int 5)) (Given (int 2)) (Given (typed (ints 0) (Unary unary.Minus (int 2))))) no_subscript))
    AllOf))) ∷ [])) no_stmt))))))
    ([])

abbrev pub BackwardsOntoItself : Type 0
BackwardsOntoItself = Comes backwards_onto_itself ([]) 100 (ended ((num 1 ∷ num 5 ∷ num 3 ∷ num 3 ∷ num 5 ∷ num 1 ∷ []) ∷
    (num 1 ∷ num 5 ∷ num 3 ∷ num 3 ∷ num 5 ∷ num 1 ∷ num 5 ∷ num 3 ∷ []) ∷ []))

--     program p
--     integer :: a(5), i
--     a = (/ (i, i = 1, 5) /)
--     a(1:4:3) = -a(5:3:-2)
--     print *, a(1:5:4), a(5:2:-3), a
--     end
unfoldable pub stride_past_the_end : Program
stride_past_the_end = program
    ([])
    (procedure 1 false false false
    (entity 2 declared.Integer (Explicit (span Absent (int 5) ∷ [])) role.Own None ∷ entity 2 declared.Integer Scalars
    role.Own None ∷ [])
    None
    (stmt (Assigns (assign 3 (target (ints 1) (at 0 Whole AllOf)) (typed (ints 1) (Constructor (loop (value (index_at 0)
    no_item) (int 1) (int 5) Absent no_item))))) (stmt (Assigns (assign 4 (target (ints 1) (at 0 (Subscripted (subscript
    (SubscriptTriplet (Given (int 1)) (Given (int 4)) (Given (int 3))) no_subscript)) AllOf)) (typed (ints 1) (Unary
    unary.Minus (typed (ints 1) (Named (at 0 (Subscripted (subscript (SubscriptTriplet (Given (int 5)) (Given (int 3))
    (Given (typed (ints 0) (Unary unary.Minus (int 2))))) no_subscript)) AllOf))))))) (stmt (Print 5 ((typed (ints 1)
    (Named (at 0 (Subscripted (subscript (SubscriptTriplet (Given (int 1)) (Given (int 5)) (Given (int 4))) no_subscript))
    AllOf))) ∷ (typed (ints 1) (Named (at 0 (Subscripted (subscript (SubscriptTriplet (Given (int 5)) (Given (int 2))
    (Given (typed (ints 0) (Unary unary.Minus (int 3))))) no_subscript)) AllOf))) ∷ (typed (ints 1) (Named (at 0 Whole
    AllOf))) ∷ [])) no_stmt))))
    ([])

abbrev pub StridePastTheEnd : Type 0
StridePastTheEnd = Comes stride_past_the_end ([]) 100 (ended ((neg 5 ∷ num 5 ∷ num 5 ∷ num 2 ∷ neg 5 ∷ num 2 ∷ num 3 ∷ neg
    3 ∷ num 5 ∷ []) ∷ []))

--     program p
--     integer :: a(4), v(6), b(6)
--     a = (/10,20,30,40/)
--     v = (/4,4,1,2,2,2/)
--     b = a(v)
--     print *, b
--     a((/2,4/)) = a((/3,3/)) + a(v(1:3:2))
--     print *, a
--     print *, a(v(v(4:6)))
--     end
unfoldable pub repeats_on_the_right : Program
repeats_on_the_right = program
    ([])
    (procedure 1 false false false
    (entity 2 declared.Integer (Explicit (span Absent (int 4) ∷ [])) role.Own None ∷ entity 2 declared.Integer (Explicit
    (span Absent (int 6) ∷ [])) role.Own None ∷ entity 2 declared.Integer (Explicit (span Absent (int 6) ∷ [])) role.Own
    None ∷ [])
    None
    (stmt (Assigns (assign 3 (target (ints 1) (at 0 Whole AllOf)) (typed (ints 1) (Constructor (value (int 10) (value (int
    20) (value (int 30) (value (int 40) no_item)))))))) (stmt (Assigns (assign 4 (target (ints 1) (at 1 Whole AllOf))
    (typed (ints 1) (Constructor (value (int 4) (value (int 4) (value (int 1) (value (int 2) (value (int 2) (value (int 2)
    no_item)))))))))) (stmt (Assigns (assign 5 (target (ints 1) (at 2 Whole AllOf)) (typed (ints 1) (Named (at 0
    (Subscripted (subscript (Vector (typed (ints 1) (Named (at 1 Whole AllOf)))) no_subscript)) AllOf))))) (stmt (Print 6
    ((typed (ints 1) (Named (at 2 Whole AllOf))) ∷ [])) (stmt (Assigns (assign 7 (target (ints 1) (at 0 (Subscripted
    (subscript (Vector (typed (ints 1) (Constructor (value (int 2) (value (int 4) no_item))))) no_subscript)) AllOf))
    (typed (ints 1) (Binary binary.Add (typed (ints 1) (Named (at 0 (Subscripted (subscript (Vector (typed (ints 1)
    (Constructor (value (int 3) (value (int 3) no_item))))) no_subscript)) AllOf))) (typed (ints 1) (Named (at 0
    (Subscripted (subscript (Vector (typed (ints 1) (Named (at 1 (Subscripted (subscript (SubscriptTriplet (Given (int 1))
    (Given (int 3)) (Given (int 2))) no_subscript)) AllOf)))) no_subscript)) AllOf))))))) (stmt (Print 8 ((typed (ints 1)
    (Named (at 0 Whole AllOf))) ∷ [])) (stmt (Print 9 ((typed (ints 1) (Named (at 0 (Subscripted (subscript (Vector (typed
    (ints 1) (Named (at 1 (Subscripted (subscript (Vector (typed (ints 1) (Named (at 1 (Subscripted (subscript
    (SubscriptTriplet (Given (int 4)) (Given (int 6)) Absent) no_subscript)) AllOf)))) no_subscript)) AllOf))))
    no_subscript)) AllOf))) ∷ [])) no_stmt))))))))
    ([])

abbrev pub RepeatsOnTheRight : Type 0
RepeatsOnTheRight = Comes repeats_on_the_right ([]) 100 (ended ((num 40 ∷ num 40 ∷ num 10 ∷ num 20 ∷ num 20 ∷ num 20 ∷ [])
    ∷ (num 10 ∷ num 70 ∷ num 30 ∷ num 40 ∷ []) ∷ (num 40 ∷ num 40 ∷ num 40 ∷ []) ∷ []))

--     program p
--     integer :: a(3), v(4)
--     a = (/1,2,3/)
--     v = 99
--     a(v(3:2)) = 5
--     print *, a, size(a(v(2:1)))
--     end
unfoldable pub vector_of_no_subscripts : Program
vector_of_no_subscripts = program
    ([])
    (procedure 1 false false false
    (entity 2 declared.Integer (Explicit (span Absent (int 3) ∷ [])) role.Own None ∷ entity 2 declared.Integer (Explicit
    (span Absent (int 4) ∷ [])) role.Own None ∷ [])
    None
    (stmt (Assigns (assign 3 (target (ints 1) (at 0 Whole AllOf)) (typed (ints 1) (Constructor (value (int 1) (value (int
    2) (value (int 3) no_item))))))) (stmt (Assigns (assign 4 (target (ints 1) (at 1 Whole AllOf)) (int 99))) (stmt
    (Assigns (assign 5 (target (ints 1) (at 0 (Subscripted (subscript (Vector (typed (ints 1) (Named (at 1 (Subscripted
    (subscript (SubscriptTriplet (Given (int 3)) (Given (int 2)) Absent) no_subscript)) AllOf)))) no_subscript)) AllOf))
    (int 5))) (stmt (Print 6 ((typed (ints 1) (Named (at 0 Whole AllOf))) ∷ (typed (ints 0) (Asked inquiry.Size None (Of
    (typed (ints 1) (Named (at 0 (Subscripted (subscript (Vector (typed (ints 1) (Named (at 1 (Subscripted (subscript
    (SubscriptTriplet (Given (int 2)) (Given (int 1)) Absent) no_subscript)) AllOf)))) no_subscript)) AllOf)))))) ∷ []))
    no_stmt)))))
    ([])

abbrev pub VectorOfNoSubscripts : Type 0
VectorOfNoSubscripts = Comes vector_of_no_subscripts ([]) 100 (ended ((num 1 ∷ num 2 ∷ num 3 ∷ num 0 ∷ []) ∷ []))
