-- Assignments of whole arrays, sections, texts and scalars, and initial values.
use Rattle.std.specs.Prelude.{false, None, [], ◌∷◌}
use Rattle.f95_unit.specs.declared.operation.UnaryOp.TheVariants as unary
use Rattle.f95_unit.specs.declared.operation.BinaryOp.TheVariants as binary
use Rattle.f95_unit.specs.declared.operation.Elemental.TheVariants as elemental
use Rattle.f95_unit.specs.declared.unit.DeclaredType.TheVariants as declared
use Rattle.f95_unit.specs.declared.unit.Length.TheVariants as long
use Rattle.f95_unit.specs.declared.unit.Role.TheVariants as role
use Rattle.f95_unit.specs.Plain.{typed, Named, Brackets, Unary, Binary, Constructor, Elementwise, at, Whole, Subscripted}
use Rattle.f95_unit.specs.Plain.{no_subscript, subscript, One, Vector, SubscriptTriplet, Absent, Given, AllOf, no_item, value}
use Rattle.f95_unit.specs.Plain.{no_argument, argument, Assigns, ForAll, Print, no_stmt, stmt, Scalars, Explicit, Program}
use Rattle.array_meaning.specs.Build.{ints, texts, int, text, index_at, target, assign, triplet, forall_over, span, entity}
use Rattle.array_meaning.specs.Build.{procedure, program, num, chars, ended, Comes}

--     program p; integer :: a(3); a = 2; print *, a; end
unfoldable pub whole_arrays : Program
whole_arrays = program
    ([])
    (procedure 1 false false false
    (entity 1 declared.Integer (Explicit (span Absent (int 3) ∷ [])) role.Own None ∷ [])
    None
    (stmt (Assigns (assign 1 (target (ints 1) (at 0 Whole AllOf)) (int 2))) (stmt (Print 1 ((typed (ints 1) (Named (at 0
    Whole AllOf))) ∷ [])) no_stmt)))
    ([])

abbrev pub WholeArrays : Type 0
WholeArrays = Comes whole_arrays ([]) 100 (ended ((num 2 ∷ num 2 ∷ num 2 ∷ []) ∷ []))

--     program p
--     integer :: a(5)
--     a = (/1,2,3,4,5/)
--     a(2:4) = a(1:3) + a(3:5)
--     print *, a
--     end
unfoldable pub both_neighbours : Program
both_neighbours = program
    ([])
    (procedure 1 false false false
    (entity 2 declared.Integer (Explicit (span Absent (int 5) ∷ [])) role.Own None ∷ [])
    None
    (stmt (Assigns (assign 3 (target (ints 1) (at 0 Whole AllOf)) (typed (ints 1) (Constructor (value (int 1) (value (int 2)
    (value (int 3) (value (int 4) (value (int 5) no_item))))))))) (stmt (Assigns (assign 4 (target (ints 1) (at 0
    (Subscripted (subscript (SubscriptTriplet (Given (int 2)) (Given (int 4)) Absent) no_subscript)) AllOf)) (typed (ints 1) (Binary
    binary.Add (typed (ints 1) (Named (at 0 (Subscripted (subscript (SubscriptTriplet (Given (int 1)) (Given (int 3)) Absent)
    no_subscript)) AllOf))) (typed (ints 1) (Named (at 0 (Subscripted (subscript (SubscriptTriplet (Given (int 3)) (Given (int 5))
    Absent) no_subscript)) AllOf))))))) (stmt (Print 5 ((typed (ints 1) (Named (at 0 Whole AllOf))) ∷ [])) no_stmt))))
    ([])

abbrev pub BothNeighbours : Type 0
BothNeighbours = Comes both_neighbours ([]) 100 (ended ((num 1 ∷ num 4 ∷ num 6 ∷ num 8 ∷ num 5 ∷ []) ∷ []))

--     program p
--     integer :: a(5)
--     a = (/1,2,3,4,5/)
--     a(5:1:-1) = a
--     print *, a
--     end
unfoldable pub reversed_onto_itself : Program
reversed_onto_itself = program
    ([])
    (procedure 1 false false false
    (entity 2 declared.Integer (Explicit (span Absent (int 5) ∷ [])) role.Own None ∷ [])
    None
    (stmt (Assigns (assign 3 (target (ints 1) (at 0 Whole AllOf)) (typed (ints 1) (Constructor (value (int 1) (value (int 2)
    (value (int 3) (value (int 4) (value (int 5) no_item))))))))) (stmt (Assigns (assign 4 (target (ints 1) (at 0
    (Subscripted (subscript (SubscriptTriplet (Given (int 5)) (Given (int 1)) (Given (typed (ints 0) (Unary unary.Minus (int 1)))))
    no_subscript)) AllOf)) (typed (ints 1) (Named (at 0 Whole AllOf))))) (stmt (Print 5 ((typed (ints 1) (Named (at 0 Whole
    AllOf))) ∷ [])) no_stmt))))
    ([])

abbrev pub ReversedOntoItself : Type 0
ReversedOntoItself = Comes reversed_onto_itself ([]) 100 (ended ((num 5 ∷ num 4 ∷ num 3 ∷ num 2 ∷ num 1 ∷ []) ∷ []))

--     program p
--     integer :: b(3,3), i, j
--     forall (i=1:3, j=1:3) b(i,j) = i + 3*(j-1)
--     b(2:3,1:2) = b(1:2,2:3)
--     print *, b
--     end
unfoldable pub block_moved : Program
block_moved = program
    ([])
    (procedure 1 false false false
    (entity 2 declared.Integer (Explicit (span Absent (int 3) ∷ span Absent (int 3) ∷ [])) role.Own None ∷ entity 2
    declared.Integer Scalars role.Own None ∷ entity 2 declared.Integer Scalars role.Own None ∷ [])
    None
    (stmt (ForAll (forall_over 3 (triplet (int 1) (int 3) Absent ∷ triplet (int 1) (int 3) Absent ∷ []) None (assign 3
    (target (ints 0) (at 0 (Subscripted (subscript (One (index_at 0)) (subscript (One (index_at 1)) no_subscript))) AllOf))
    (typed (ints 0) (Binary binary.Add (index_at 0) (typed (ints 0) (Binary binary.Multiply (int 3) (typed (ints 0)
    (Brackets (typed (ints 0) (Binary binary.Subtract (index_at 1) (int 1))))))))) ∷ []))) (stmt (Assigns (assign 4 (target
    (ints 2) (at 0 (Subscripted (subscript (SubscriptTriplet (Given (int 2)) (Given (int 3)) Absent) (subscript (SubscriptTriplet
    (Given (int 1))
    (Given (int 2)) Absent) no_subscript))) AllOf)) (typed (ints 2) (Named (at 0 (Subscripted (subscript (SubscriptTriplet (Given
    (int
    1)) (Given (int 2)) Absent) (subscript (SubscriptTriplet (Given (int 2)) (Given (int 3)) Absent) no_subscript))) AllOf)))))
    (stmt
    (Print 5 ((typed (ints 2) (Named (at 0 Whole AllOf))) ∷ [])) no_stmt))))
    ([])

abbrev pub BlockMoved : Type 0
BlockMoved = Comes block_moved ([]) 100 (ended ((num 1 ∷ num 4 ∷ num 5 ∷ num 4 ∷ num 7 ∷ num 8 ∷ num 7 ∷ num 8 ∷ num 9 ∷ [])
    ∷ []))

--     program p; integer :: a(3); a = (/5,7,9/); a = a - a(1); print *, a; end
unfoldable pub first_element_read_once : Program
first_element_read_once = program
    ([])
    (procedure 1 false false false
    (entity 1 declared.Integer (Explicit (span Absent (int 3) ∷ [])) role.Own None ∷ [])
    None
    (stmt (Assigns (assign 1 (target (ints 1) (at 0 Whole AllOf)) (typed (ints 1) (Constructor (value (int 5) (value (int 7)
    (value (int 9) no_item))))))) (stmt (Assigns (assign 1 (target (ints 1) (at 0 Whole AllOf)) (typed (ints 1) (Binary
    binary.Subtract (typed (ints 1) (Named (at 0 Whole AllOf))) (typed (ints 0) (Named (at 0 (Subscripted (subscript (One
    (int 1)) no_subscript)) AllOf))))))) (stmt (Print 1 ((typed (ints 1) (Named (at 0 Whole AllOf))) ∷ [])) no_stmt))))
    ([])

abbrev pub FirstElementReadOnce : Type 0
FirstElementReadOnce = Comes first_element_read_once ([]) 100 (ended ((num 0 ∷ num 2 ∷ num 4 ∷ []) ∷ []))

--     program p; integer :: a(3); a = 4; a(5:1) = a(9:8); print *, a; end
unfoldable pub no_places_no_bounds : Program
no_places_no_bounds = program
    ([])
    (procedure 1 false false false
    (entity 1 declared.Integer (Explicit (span Absent (int 3) ∷ [])) role.Own None ∷ [])
    None
    (stmt (Assigns (assign 1 (target (ints 1) (at 0 Whole AllOf)) (int 4))) (stmt (Assigns (assign 1 (target (ints 1) (at 0
    (Subscripted (subscript (SubscriptTriplet (Given (int 5)) (Given (int 1)) Absent) no_subscript)) AllOf)) (typed (ints 1) (Named
    (at 0 (Subscripted (subscript (SubscriptTriplet (Given (int 9)) (Given (int 8)) Absent) no_subscript)) AllOf))))) (stmt (Print 1
    ((typed (ints 1) (Named (at 0 Whole AllOf))) ∷ [])) no_stmt))))
    ([])

abbrev pub NoPlacesNoBounds : Type 0
NoPlacesNoBounds = Comes no_places_no_bounds ([]) 100 (ended ((num 4 ∷ num 4 ∷ num 4 ∷ []) ∷ []))

--     program p
--     integer :: a(4), v(3)
--     a = (/10,20,30,40/)
--     v = (/4,1,2/)
--     a(v) = a(v) + v
--     print *, a, a((/2,2,3/))
--     end
unfoldable pub vector_subscript : Program
vector_subscript = program
    ([])
    (procedure 1 false false false
    (entity 2 declared.Integer (Explicit (span Absent (int 4) ∷ [])) role.Own None ∷ entity 2 declared.Integer (Explicit
    (span Absent (int 3) ∷ [])) role.Own None ∷ [])
    None
    (stmt (Assigns (assign 3 (target (ints 1) (at 0 Whole AllOf)) (typed (ints 1) (Constructor (value (int 10) (value (int
    20) (value (int 30) (value (int 40) no_item)))))))) (stmt (Assigns (assign 4 (target (ints 1) (at 1 Whole AllOf))
    (typed (ints 1) (Constructor (value (int 4) (value (int 1) (value (int 2) no_item))))))) (stmt (Assigns (assign 5
    (target (ints 1) (at 0 (Subscripted (subscript (Vector (typed (ints 1) (Named (at 1 Whole AllOf)))) no_subscript))
    AllOf)) (typed (ints 1) (Binary binary.Add (typed (ints 1) (Named (at 0 (Subscripted (subscript (Vector (typed (ints 1)
    (Named (at 1 Whole AllOf)))) no_subscript)) AllOf))) (typed (ints 1) (Named (at 1 Whole AllOf))))))) (stmt (Print 6
    ((typed (ints 1) (Named (at 0 Whole AllOf))) ∷ (typed (ints 1) (Named (at 0 (Subscripted (subscript (Vector (typed
    (ints 1) (Constructor (value (int 2) (value (int 2) (value (int 3) no_item)))))) no_subscript)) AllOf))) ∷ []))
    no_stmt)))))
    ([])

abbrev pub VectorSubscript : Type 0
VectorSubscript = Comes vector_subscript ([]) 100 (ended ((num 11 ∷ num 22 ∷ num 30 ∷ num 44 ∷ num 22 ∷ num 22 ∷ num 30 ∷ [])
    ∷ []))

--     program p
--     integer :: a(-1:3)
--     a = (/1,2,3,4,5/)
--     a(3:-1:-2) = a(0:2)
--     print *, a(-1), a(1::1), a(:0)
--     end
unfoldable pub bounds_and_negative_stride : Program
bounds_and_negative_stride = program
    ([])
    (procedure 1 false false false
    (entity 2 declared.Integer (Explicit (span (Given (typed (ints 0) (Unary unary.Minus (int 1)))) (int 3) ∷ [])) role.Own
    None ∷ [])
    None
    (stmt (Assigns (assign 3 (target (ints 1) (at 0 Whole AllOf)) (typed (ints 1) (Constructor (value (int 1) (value (int 2)
    (value (int 3) (value (int 4) (value (int 5) no_item))))))))) (stmt (Assigns (assign 4 (target (ints 1) (at 0
    (Subscripted (subscript (SubscriptTriplet (Given (int 3)) (Given (typed (ints 0) (Unary unary.Minus (int 1)))) (Given (typed
    (ints
    0) (Unary unary.Minus (int 2))))) no_subscript)) AllOf)) (typed (ints 1) (Named (at 0 (Subscripted (subscript (SubscriptTriplet
    (Given (int 0)) (Given (int 2)) Absent) no_subscript)) AllOf))))) (stmt (Print 5 ((typed (ints 0) (Named (at 0
    (Subscripted (subscript (One (typed (ints 0) (Unary unary.Minus (int 1)))) no_subscript)) AllOf))) ∷ (typed (ints 1)
    (Named (at 0 (Subscripted (subscript (SubscriptTriplet (Given (int 1)) Absent (Given (int 1))) no_subscript)) AllOf))) ∷ (typed
    (ints 1) (Named (at 0 (Subscripted (subscript (SubscriptTriplet Absent (Given (int 0)) Absent) no_subscript)) AllOf))) ∷ []))
    no_stmt))))
    ([])

abbrev pub BoundsAndNegativeStride : Type 0
BoundsAndNegativeStride = Comes bounds_and_negative_stride ([]) 100 (ended ((num 4 ∷ num 3 ∷ num 4 ∷ num 2 ∷ num 4 ∷ num 2 ∷
    []) ∷ []))

--     program p
--     character(5) :: c(2)
--     c(1) = 'abcdefg'
--     c(2) = 'xy'
--     print *, c, len_trim(c), 'z'
--     end
unfoldable pub texts_fit : Program
texts_fit = program
    ([])
    (procedure 1 false false false
    (entity 2 (declared.Character (long.Fixed 5)) (Explicit (span Absent (int 2) ∷ [])) role.Own None ∷ [])
    None
    (stmt (Assigns (assign 3 (target (texts 5 0) (at 0 (Subscripted (subscript (One (int 1)) no_subscript)) AllOf)) (text 7
    (97 ∷ 98 ∷ 99 ∷ 100 ∷ 101 ∷ 102 ∷ 103 ∷ [])))) (stmt (Assigns (assign 4 (target (texts 5 0) (at 0 (Subscripted
    (subscript (One (int 2)) no_subscript)) AllOf)) (text 2 (120 ∷ 121 ∷ [])))) (stmt (Print 5 ((typed (texts 5 1) (Named
    (at 0 Whole AllOf))) ∷ (typed (ints 1) (Elementwise elemental.LenTrim (argument 0 (typed (texts 5 1) (Named (at 0 Whole
    AllOf))) no_argument))) ∷ (text 1 (122 ∷ [])) ∷ [])) no_stmt))))
    ([])

abbrev pub TextsFit : Type 0
TextsFit = Comes texts_fit ([]) 100 (ended ((chars (97 ∷ 98 ∷ 99 ∷ 100 ∷ 101 ∷ []) ∷ chars (120 ∷ 121 ∷ 32 ∷ 32 ∷ 32 ∷ []) ∷
    num 5 ∷ num 2 ∷ chars (122 ∷ []) ∷ []) ∷ []))
