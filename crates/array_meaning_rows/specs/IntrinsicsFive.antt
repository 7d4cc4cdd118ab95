-- Reductions with ties, with masks that are nowhere true, and of no elements; texts of unlike lengths.
use Rattle.std.specs.Prelude.{false, true, Some, None, [], ◌∷◌}
use Rattle.f95_unit.specs.declared.operation.UnaryOp.TheVariants as unary
use Rattle.f95_unit.specs.declared.operation.BinaryOp.TheVariants as binary
use Rattle.f95_unit.specs.declared.operation.Elemental.TheVariants as elemental
use Rattle.f95_unit.specs.declared.operation.Inquiry.TheVariants as inquiry
use Rattle.f95_unit.specs.declared.operation.Reduction.TheVariants as reduction
use Rattle.f95_unit.specs.declared.operation.Rearranging.TheVariants as rearranging
use Rattle.f95_unit.specs.declared.unit.DeclaredType.TheVariants as declared
use Rattle.f95_unit.specs.declared.unit.Length.TheVariants as long
use Rattle.f95_unit.specs.declared.unit.Role.TheVariants as role
use Rattle.f95_unit.specs.Plain.{typed, Named, Unary, Binary, Constructor, Elementwise, Asked, Reduced, Rearranged, at, Whole}
use Rattle.f95_unit.specs.Plain.{Subscripted, no_subscript, subscript, One, Vector, SubscriptTriplet, Absent, Given, AllOf, BytesOf}
use Rattle.f95_unit.specs.Plain.{no_item, value, loop, no_argument, argument, Of, Assigns, Print, no_stmt, stmt, Scalars, Explicit}
use Rattle.f95_unit.specs.Plain.{Program}
use Rattle.array_meaning.specs.Build.{ints, logs, texts, some_texts, int, log, text, index_at, target, assign, span, entity}
use Rattle.array_meaning.specs.Build.{procedure, program, num, neg, chars, truth, ended, Comes}

--     program p
--     integer :: a(5), b(2,3)
--     a = (/2,5,1,5,1/)
--     b = reshape((/3,9,9,1,1,9/), (/2,3/))
--     print *, maxloc(a), minloc(a), maxloc(b), minloc(b)
--     print *, maxloc(a, a < 5), minloc(a, a > 1), maxloc(b, b < 9), minloc(b, b > 1)
--     end
unfoldable pub places_with_ties : Program
places_with_ties = program
    ([])
    (procedure 1 false false false
    (entity 2 declared.Integer (Explicit (span Absent (int 5) ∷ [])) role.Own None ∷ entity 2 declared.Integer (Explicit
    (span Absent (int 2) ∷ span Absent (int 3) ∷ [])) role.Own None ∷ [])
    None
    (stmt (Assigns (assign 3 (target (ints 1) (at 0 Whole AllOf)) (typed (ints 1) (Constructor (value (int 2) (value (int
    5) (value (int 1) (value (int 5) (value (int 1) no_item))))))))) (stmt (Assigns (assign 4 (target (ints 2) (at 1 Whole
    AllOf)) (typed (ints 2) (Rearranged rearranging.Reshape None (argument 0 (typed (ints 1) (Constructor (value (int 3)
    (value (int 9) (value (int 9) (value (int 1) (value (int 1) (value (int 9) no_item)))))))) (argument 1 (typed (ints 1)
    (Constructor (value (int 2) (value (int 3) no_item)))) no_argument)))))) (stmt (Print 5 ((typed (ints 1) (Reduced
    reduction.Maxloc None (argument 0 (typed (ints 1) (Named (at 0 Whole AllOf))) no_argument))) ∷ (typed (ints 1)
    (Reduced reduction.Minloc None (argument 0 (typed (ints 1) (Named (at 0 Whole AllOf))) no_argument))) ∷ (typed (ints
    1) (Reduced reduction.Maxloc None (argument 0 (typed (ints 2) (Named (at 1 Whole AllOf))) no_argument))) ∷ (typed
    (ints 1) (Reduced reduction.Minloc None (argument 0 (typed (ints 2) (Named (at 1 Whole AllOf))) no_argument))) ∷ []))
    (stmt (Print 6 ((typed (ints 1) (Reduced reduction.Maxloc None (argument 0 (typed (ints 1) (Named (at 0 Whole AllOf)))
    (argument 1 (typed (logs 1) (Binary binary.Less (typed (ints 1) (Named (at 0 Whole AllOf))) (int 5))) no_argument))))
    ∷ (typed (ints 1) (Reduced reduction.Minloc None (argument 0 (typed (ints 1) (Named (at 0 Whole AllOf))) (argument 1
    (typed (logs 1) (Binary binary.Greater (typed (ints 1) (Named (at 0 Whole AllOf))) (int 1))) no_argument)))) ∷ (typed
    (ints 1) (Reduced reduction.Maxloc None (argument 0 (typed (ints 2) (Named (at 1 Whole AllOf))) (argument 1 (typed
    (logs 2) (Binary binary.Less (typed (ints 2) (Named (at 1 Whole AllOf))) (int 9))) no_argument)))) ∷ (typed (ints 1)
    (Reduced reduction.Minloc None (argument 0 (typed (ints 2) (Named (at 1 Whole AllOf))) (argument 1 (typed (logs 2)
    (Binary binary.Greater (typed (ints 2) (Named (at 1 Whole AllOf))) (int 1))) no_argument)))) ∷ [])) no_stmt)))))
    ([])

abbrev pub PlacesWithTies : Type 0
PlacesWithTies = Comes places_with_ties ([]) 100 (ended ((num 2 ∷ num 3 ∷ num 2 ∷ num 1 ∷ num 2 ∷ num 2 ∷ []) ∷ (num 1 ∷
    num 1 ∷ num 1 ∷ num 1 ∷ num 1 ∷ num 1 ∷ []) ∷ []))

--     program p
--     integer :: a(3), b(2,2)
--     a = (/4,5,6/)
--     b = 1
--     print *, maxloc(a, a > 9), minloc(b, b == 0), maxloc(a(3:2)), minloc(b(:,2:1))
--     print *, maxval(a, a > 9), minval(b, b == 0), sum(a, a > 9), product(a, .false.), maxloc(a, .false.)
--     end
unfoldable pub places_where_nothing_counts : Program
places_where_nothing_counts = program
    ([])
    (procedure 1 false false false
    (entity 2 declared.Integer (Explicit (span Absent (int 3) ∷ [])) role.Own None ∷ entity 2 declared.Integer (Explicit
    (span Absent (int 2) ∷ span Absent (int 2) ∷ [])) role.Own None ∷ [])
    None
    (stmt (Assigns (assign 3 (target (ints 1) (at 0 Whole AllOf)) (typed (ints 1) (Constructor (value (int 4) (value (int
    5) (value (int 6) no_item))))))) (stmt (Assigns (assign 4 (target (ints 2) (at 1 Whole AllOf)) (int 1))) (stmt (Print
    5 ((typed (ints 1) (Reduced reduction.Maxloc None (argument 0 (typed (ints 1) (Named (at 0 Whole AllOf))) (argument 1
    (typed (logs 1) (Binary binary.Greater (typed (ints 1) (Named (at 0 Whole AllOf))) (int 9))) no_argument)))) ∷ (typed
    (ints 1) (Reduced reduction.Minloc None (argument 0 (typed (ints 2) (Named (at 1 Whole AllOf))) (argument 1 (typed
    (logs 2) (Binary binary.Equal (typed (ints 2) (Named (at 1 Whole AllOf))) (int 0))) no_argument)))) ∷ (typed (ints 1)
    (Reduced reduction.Maxloc None (argument 0 (typed (ints 1) (Named (at 0 (Subscripted (subscript (SubscriptTriplet
    (Given (int 3)) (Given (int 2)) Absent) no_subscript)) AllOf))) no_argument))) ∷ (typed (ints 1) (Reduced
    reduction.Minloc None (argument 0 (typed (ints 2) (Named (at 1 (Subscripted (subscript (SubscriptTriplet Absent Absent
    Absent) (subscript (SubscriptTriplet (Given (int 2)) (Given (int 1)) Absent) no_subscript))) AllOf))) no_argument))) ∷
    [])) (stmt (Print 6 ((typed (ints 0) (Reduced reduction.Maxval None (argument 0 (typed (ints 1) (Named (at 0 Whole
    AllOf))) (argument 2 (typed (logs 1) (Binary binary.Greater (typed (ints 1) (Named (at 0 Whole AllOf))) (int 9)))
    no_argument)))) ∷ (typed (ints 0) (Reduced reduction.Minval None (argument 0 (typed (ints 2) (Named (at 1 Whole
    AllOf))) (argument 2 (typed (logs 2) (Binary binary.Equal (typed (ints 2) (Named (at 1 Whole AllOf))) (int 0)))
    no_argument)))) ∷ (typed (ints 0) (Reduced reduction.Sum None (argument 0 (typed (ints 1) (Named (at 0 Whole AllOf)))
    (argument 2 (typed (logs 1) (Binary binary.Greater (typed (ints 1) (Named (at 0 Whole AllOf))) (int 9)))
    no_argument)))) ∷ (typed (ints 0) (Reduced reduction.Product None (argument 0 (typed (ints 1) (Named (at 0 Whole
    AllOf))) (argument 2 (log false) no_argument)))) ∷ (typed (ints 1) (Reduced reduction.Maxloc None (argument 0 (typed
    (ints 1) (Named (at 0 Whole AllOf))) (argument 1 (log false) no_argument)))) ∷ [])) no_stmt)))))
    ([])

abbrev pub PlacesWhereNothingCounts : Type 0
PlacesWhereNothingCounts = Comes places_where_nothing_counts ([]) 100 (ended ((num 0 ∷ num 0 ∷ num 0 ∷ num 0 ∷ num 0 ∷ num
    0 ∷ []) ∷ (neg 2147483648 ∷ num 2147483647 ∷ num 0 ∷ num 1 ∷ num 0 ∷ []) ∷ []))

--     program p
--     integer :: a(-3:1)
--     a = (/1,2,9,2,1/)
--     print *, maxloc(a), minloc(a), maxloc(a(-1:1)), a(maxloc(a) - 4)
--     end
unfoldable pub place_counts_from_one : Program
place_counts_from_one = program
    ([])
    (procedure 1 false false false
    (entity 2 declared.Integer (Explicit (span (Given (typed (ints 0) (Unary unary.Minus (int 3)))) (int 1) ∷ []))
    role.Own None ∷ [])
    None
    (stmt (Assigns (assign 3 (target (ints 1) (at 0 Whole AllOf)) (typed (ints 1) (Constructor (value (int 1) (value (int
    2) (value (int 9) (value (int 2) (value (int 1) no_item))))))))) (stmt (Print 4 ((typed (ints 1) (Reduced
    reduction.Maxloc None (argument 0 (typed (ints 1) (Named (at 0 Whole AllOf))) no_argument))) ∷ (typed (ints 1)
    (Reduced reduction.Minloc None (argument 0 (typed (ints 1) (Named (at 0 Whole AllOf))) no_argument))) ∷ (typed (ints
    1) (Reduced reduction.Maxloc None (argument 0 (typed (ints 1) (Named (at 0 (Subscripted (subscript (SubscriptTriplet
    (Given (typed (ints 0) (Unary unary.Minus (int 1)))) (Given (int 1)) Absent) no_subscript)) AllOf))) no_argument))) ∷
    (typed (ints 1) (Named (at 0 (Subscripted (subscript (Vector (typed (ints 1) (Binary binary.Subtract (typed (ints 1)
    (Reduced reduction.Maxloc None (argument 0 (typed (ints 1) (Named (at 0 Whole AllOf))) no_argument))) (int 4))))
    no_subscript)) AllOf))) ∷ [])) no_stmt)))
    ([])

abbrev pub PlaceCountsFromOne : Type 0
PlaceCountsFromOne = Comes place_counts_from_one ([]) 100 (ended ((num 3 ∷ num 1 ∷ num 1 ∷ num 9 ∷ []) ∷ []))

--     program p
--     integer :: b(0,3), d(3,0)
--     print *, sum(b, 1), size(sum(b, 2)), sum(d, 2), size(sum(d, 1)), maxval(b, 1), product(d, 2)
--     print *, all(b > 0, 1), any(b > 0, 1), count(d > 0, 2), all(d == 0), any(d == 0)
--     end
unfoldable pub sums_along_nothing : Program
sums_along_nothing = program
    ([])
    (procedure 1 false false false
    (entity 2 declared.Integer (Explicit (span Absent (int 0) ∷ span Absent (int 3) ∷ [])) role.Own None ∷ entity 2
    declared.Integer (Explicit (span Absent (int 3) ∷ span Absent (int 0) ∷ [])) role.Own None ∷ [])
    None
    (stmt (Print 3 ((typed (ints 1) (Reduced reduction.Sum (Some 1) (argument 0 (typed (ints 2) (Named (at 0 Whole
    AllOf))) no_argument))) ∷ (typed (ints 0) (Asked inquiry.Size None (Of (typed (ints 1) (Reduced reduction.Sum (Some 2)
    (argument 0 (typed (ints 2) (Named (at 0 Whole AllOf))) no_argument)))))) ∷ (typed (ints 1) (Reduced reduction.Sum
    (Some 2) (argument 0 (typed (ints 2) (Named (at 1 Whole AllOf))) no_argument))) ∷ (typed (ints 0) (Asked inquiry.Size
    None (Of (typed (ints 1) (Reduced reduction.Sum (Some 1) (argument 0 (typed (ints 2) (Named (at 1 Whole AllOf)))
    no_argument)))))) ∷ (typed (ints 1) (Reduced reduction.Maxval (Some 1) (argument 0 (typed (ints 2) (Named (at 0 Whole
    AllOf))) no_argument))) ∷ (typed (ints 1) (Reduced reduction.Product (Some 2) (argument 0 (typed (ints 2) (Named (at 1
    Whole AllOf))) no_argument))) ∷ [])) (stmt (Print 4 ((typed (logs 1) (Reduced reduction.All (Some 1) (argument 0
    (typed (logs 2) (Binary binary.Greater (typed (ints 2) (Named (at 0 Whole AllOf))) (int 0))) no_argument))) ∷ (typed
    (logs 1) (Reduced reduction.Any (Some 1) (argument 0 (typed (logs 2) (Binary binary.Greater (typed (ints 2) (Named (at
    0 Whole AllOf))) (int 0))) no_argument))) ∷ (typed (ints 1) (Reduced reduction.Count (Some 2) (argument 0 (typed (logs
    2) (Binary binary.Greater (typed (ints 2) (Named (at 1 Whole AllOf))) (int 0))) no_argument))) ∷ (typed (logs 0)
    (Reduced reduction.All None (argument 0 (typed (logs 2) (Binary binary.Equal (typed (ints 2) (Named (at 1 Whole
    AllOf))) (int 0))) no_argument))) ∷ (typed (logs 0) (Reduced reduction.Any None (argument 0 (typed (logs 2) (Binary
    binary.Equal (typed (ints 2) (Named (at 1 Whole AllOf))) (int 0))) no_argument))) ∷ [])) no_stmt)))
    ([])

abbrev pub SumsAlongNothing : Type 0
SumsAlongNothing = Comes sums_along_nothing ([]) 100 (ended ((num 0 ∷ num 0 ∷ num 0 ∷ num 0 ∷ num 0 ∷ num 0 ∷ num 0 ∷ num
    0 ∷ neg 2147483648 ∷ neg 2147483648 ∷ neg 2147483648 ∷ num 1 ∷ num 1 ∷ num 1 ∷ []) ∷ (truth true ∷ truth true ∷ truth true
    ∷ truth false ∷ truth false ∷ truth false ∷ num 0 ∷ num 0 ∷ num 0 ∷ truth true ∷ truth false ∷ []) ∷ []))

--     program p
--     integer :: b(2,3), i
--     b = reshape((/ (i, i = 1, 6) /), (/2,3/))
--     print *, sum(b, 1, b > 2), sum(b, 2, b > 2), maxval(b, 2, b < 4), minval(b, mask=mod(b,2)==0)
--     print *, count(b > 2, 1), any(b == 4, 2), all(b > 1, 1), product(b, 1, .true.)
--     end
unfoldable pub masks_along_a_dimension : Program
masks_along_a_dimension = program
    ([])
    (procedure 1 false false false
    (entity 2 declared.Integer (Explicit (span Absent (int 2) ∷ span Absent (int 3) ∷ [])) role.Own None ∷ entity 2
    declared.Integer Scalars role.Own None ∷ [])
    None
    (stmt (Assigns (assign 3 (target (ints 2) (at 0 Whole AllOf)) (typed (ints 2) (Rearranged rearranging.Reshape None
    (argument 0 (typed (ints 1) (Constructor (loop (value (index_at 0) no_item) (int 1) (int 6) Absent no_item)))
    (argument 1 (typed (ints 1) (Constructor (value (int 2) (value (int 3) no_item)))) no_argument)))))) (stmt (Print 4
    ((typed (ints 1) (Reduced reduction.Sum (Some 1) (argument 0 (typed (ints 2) (Named (at 0 Whole AllOf))) (argument 2
    (typed (logs 2) (Binary binary.Greater (typed (ints 2) (Named (at 0 Whole AllOf))) (int 2))) no_argument)))) ∷ (typed
    (ints 1) (Reduced reduction.Sum (Some 2) (argument 0 (typed (ints 2) (Named (at 0 Whole AllOf))) (argument 2 (typed
    (logs 2) (Binary binary.Greater (typed (ints 2) (Named (at 0 Whole AllOf))) (int 2))) no_argument)))) ∷ (typed (ints
    1) (Reduced reduction.Maxval (Some 2) (argument 0 (typed (ints 2) (Named (at 0 Whole AllOf))) (argument 2 (typed (logs
    2) (Binary binary.Less (typed (ints 2) (Named (at 0 Whole AllOf))) (int 4))) no_argument)))) ∷ (typed (ints 0)
    (Reduced reduction.Minval None (argument 0 (typed (ints 2) (Named (at 0 Whole AllOf))) (argument 2 (typed (logs 2)
    (Binary binary.Equal (typed (ints 2) (Elementwise elemental.Mod (argument 0 (typed (ints 2) (Named (at 0 Whole
    AllOf))) (argument 1 (int 2) no_argument)))) (int 0))) no_argument)))) ∷ [])) (stmt (Print 5 ((typed (ints 1) (Reduced
    reduction.Count (Some 1) (argument 0 (typed (logs 2) (Binary binary.Greater (typed (ints 2) (Named (at 0 Whole
    AllOf))) (int 2))) no_argument))) ∷ (typed (logs 1) (Reduced reduction.Any (Some 2) (argument 0 (typed (logs 2)
    (Binary binary.Equal (typed (ints 2) (Named (at 0 Whole AllOf))) (int 4))) no_argument))) ∷ (typed (logs 1) (Reduced
    reduction.All (Some 1) (argument 0 (typed (logs 2) (Binary binary.Greater (typed (ints 2) (Named (at 0 Whole AllOf)))
    (int 1))) no_argument))) ∷ (typed (ints 1) (Reduced reduction.Product (Some 1) (argument 0 (typed (ints 2) (Named (at
    0 Whole AllOf))) (argument 2 (log true) no_argument)))) ∷ [])) no_stmt))))
    ([])

abbrev pub MasksAlongADimension : Type 0
MasksAlongADimension = Comes masks_along_a_dimension ([]) 100 (ended ((num 0 ∷ num 7 ∷ num 11 ∷ num 8 ∷ num 10 ∷ num 3 ∷
    num 2 ∷ num 2 ∷ []) ∷ (num 0 ∷ num 2 ∷ num 2 ∷ truth false ∷ truth true ∷ truth false ∷ truth true ∷ truth true ∷ num 2 ∷
    num 12 ∷ num 30 ∷ []) ∷ []))

--     program p
--     integer :: a(2,0), b(0,3), v(3)
--     v = (/1,2,3/)
--     print *, matmul(a, b), dot_product(v(3:2), v(2:1)), matmul(reshape((/1,2,3,4,5,6/), (/2,3/)), v)
--     print *, matmul(v(1:2), reshape((/1,2,3,4,5,6/), (/2,3/)))
--     end
unfoldable pub products_of_nothing : Program
products_of_nothing = program
    ([])
    (procedure 1 false false false
    (entity 2 declared.Integer (Explicit (span Absent (int 2) ∷ span Absent (int 0) ∷ [])) role.Own None ∷ entity 2
    declared.Integer (Explicit (span Absent (int 0) ∷ span Absent (int 3) ∷ [])) role.Own None ∷ entity 2 declared.Integer
    (Explicit (span Absent (int 3) ∷ [])) role.Own None ∷ [])
    None
    (stmt (Assigns (assign 3 (target (ints 1) (at 2 Whole AllOf)) (typed (ints 1) (Constructor (value (int 1) (value (int
    2) (value (int 3) no_item))))))) (stmt (Print 4 ((typed (ints 2) (Reduced reduction.Matmul None (argument 0 (typed
    (ints 2) (Named (at 0 Whole AllOf))) (argument 1 (typed (ints 2) (Named (at 1 Whole AllOf))) no_argument)))) ∷ (typed
    (ints 0) (Reduced reduction.DotProduct None (argument 0 (typed (ints 1) (Named (at 2 (Subscripted (subscript
    (SubscriptTriplet (Given (int 3)) (Given (int 2)) Absent) no_subscript)) AllOf))) (argument 1 (typed (ints 1) (Named
    (at 2 (Subscripted (subscript (SubscriptTriplet (Given (int 2)) (Given (int 1)) Absent) no_subscript)) AllOf)))
    no_argument)))) ∷ (typed (ints 1) (Reduced reduction.Matmul None (argument 0 (typed (ints 2) (Rearranged
    rearranging.Reshape None (argument 0 (typed (ints 1) (Constructor (value (int 1) (value (int 2) (value (int 3) (value
    (int 4) (value (int 5) (value (int 6) no_item)))))))) (argument 1 (typed (ints 1) (Constructor (value (int 2) (value
    (int 3) no_item)))) no_argument)))) (argument 1 (typed (ints 1) (Named (at 2 Whole AllOf))) no_argument)))) ∷ []))
    (stmt (Print 5 ((typed (ints 1) (Reduced reduction.Matmul None (argument 0 (typed (ints 1) (Named (at 2 (Subscripted
    (subscript (SubscriptTriplet (Given (int 1)) (Given (int 2)) Absent) no_subscript)) AllOf))) (argument 1 (typed (ints
    2) (Rearranged rearranging.Reshape None (argument 0 (typed (ints 1) (Constructor (value (int 1) (value (int 2) (value
    (int 3) (value (int 4) (value (int 5) (value (int 6) no_item)))))))) (argument 1 (typed (ints 1) (Constructor (value
    (int 2) (value (int 3) no_item)))) no_argument)))) no_argument)))) ∷ [])) no_stmt))))
    ([])

abbrev pub ProductsOfNothing : Type 0
ProductsOfNothing = Comes products_of_nothing ([]) 100 (ended ((num 0 ∷ num 0 ∷ num 0 ∷ num 0 ∷ num 0 ∷ num 0 ∷ num 0 ∷
    num 22 ∷ num 28 ∷ []) ∷ (num 5 ∷ num 11 ∷ num 17 ∷ []) ∷ []))

--     program p
--     integer :: i, j
--     print *, (/ ((i * 10 + j, j = 1, i), i = 1, 3) /)
--     print *, (/ (i, (j, j = i, 1, -1), i = 3, 1, -2) /)
--     print *, size((/ (i, i = 5, 1) /)), (/ 9, (i, i = 5, 1), 8 /)
--     end
unfoldable pub nested_implied_dos : Program
nested_implied_dos = program
    ([])
    (procedure 1 false false false
    (entity 2 declared.Integer Scalars role.Own None ∷ entity 2 declared.Integer Scalars role.Own None ∷ [])
    None
    (stmt (Print 3 ((typed (ints 1) (Constructor (loop (loop (value (typed (ints 0) (Binary binary.Add (typed (ints 0)
    (Binary binary.Multiply (index_at 0) (int 10))) (index_at 1))) no_item) (int 1) (index_at 0) Absent no_item) (int 1)
    (int 3) Absent no_item))) ∷ [])) (stmt (Print 4 ((typed (ints 1) (Constructor (loop (value (index_at 0) (loop (value
    (index_at 1) no_item) (index_at 0) (int 1) (Given (typed (ints 0) (Unary unary.Minus (int 1)))) no_item)) (int 3) (int
    1) (Given (typed (ints 0) (Unary unary.Minus (int 2)))) no_item))) ∷ [])) (stmt (Print 5 ((typed (ints 0) (Asked
    inquiry.Size None (Of (typed (ints 1) (Constructor (loop (value (index_at 0) no_item) (int 5) (int 1) Absent
    no_item)))))) ∷ (typed (ints 1) (Constructor (value (int 9) (loop (value (index_at 0) no_item) (int 5) (int 1) Absent
    (value (int 8) no_item))))) ∷ [])) no_stmt))))
    ([])

abbrev pub NestedImpliedDos : Type 0
NestedImpliedDos = Comes nested_implied_dos ([]) 100 (ended ((num 11 ∷ num 21 ∷ num 22 ∷ num 31 ∷ num 32 ∷ num 33 ∷ []) ∷
    (num 3 ∷ num 3 ∷ num 2 ∷ num 1 ∷ num 1 ∷ num 1 ∷ []) ∷ (num 0 ∷ num 9 ∷ num 8 ∷ []) ∷ []))

--     program p
--     character(3) :: c
--     character(5) :: d
--     c = 'ab'
--     d = 'ab'
--     print *, c == d, 'a' < 'a ', 'a' == 'a  ', '' == '   ', 'b' > 'ab', 'ab' < 'b', 'a!' > 'a', 'Z' < 'a'
--     print *, c // d == 'ab ab', len(c // d), len_trim(d // c), index(d, ' '), index('aXbX', 'X')
--     end
unfoldable pub padded_comparison : Program
padded_comparison = program
    ([])
    (procedure 1 false false false
    (entity 2 (declared.Character (long.Fixed 3)) Scalars role.Own None ∷ entity 3 (declared.Character (long.Fixed 5))
    Scalars role.Own None ∷ [])
    None
    (stmt (Assigns (assign 4 (target (texts 3 0) (at 0 Whole AllOf)) (text 2 (97 ∷ 98 ∷ [])))) (stmt (Assigns (assign 5
    (target (texts 5 0) (at 1 Whole AllOf)) (text 2 (97 ∷ 98 ∷ [])))) (stmt (Print 6 ((typed (logs 0) (Binary binary.Equal
    (typed (texts 3 0) (Named (at 0 Whole AllOf))) (typed (texts 5 0) (Named (at 1 Whole AllOf))))) ∷ (typed (logs 0)
    (Binary binary.Less (text 1 (97 ∷ [])) (text 2 (97 ∷ 32 ∷ [])))) ∷ (typed (logs 0) (Binary binary.Equal (text 1 (97 ∷
    [])) (text 3 (97 ∷ 32 ∷ 32 ∷ [])))) ∷ (typed (logs 0) (Binary binary.Equal (text 0 []) (text 3 (32 ∷ 32 ∷ 32 ∷ []))))
    ∷ (typed (logs 0) (Binary binary.Greater (text 1 (98 ∷ [])) (text 2 (97 ∷ 98 ∷ [])))) ∷ (typed (logs 0) (Binary
    binary.Less (text 2 (97 ∷ 98 ∷ [])) (text 1 (98 ∷ [])))) ∷ (typed (logs 0) (Binary binary.Greater (text 2 (97 ∷ 33 ∷
    [])) (text 1 (97 ∷ [])))) ∷ (typed (logs 0) (Binary binary.Less (text 1 (90 ∷ [])) (text 1 (97 ∷ [])))) ∷ [])) (stmt
    (Print 7 ((typed (logs 0) (Binary binary.Equal (typed (texts 8 0) (Binary binary.Concat (typed (texts 3 0) (Named (at
    0 Whole AllOf))) (typed (texts 5 0) (Named (at 1 Whole AllOf))))) (text 5 (97 ∷ 98 ∷ 32 ∷ 97 ∷ 98 ∷ [])))) ∷ (typed
    (ints 0) (Asked inquiry.Len None (Of (typed (texts 8 0) (Binary binary.Concat (typed (texts 3 0) (Named (at 0 Whole
    AllOf))) (typed (texts 5 0) (Named (at 1 Whole AllOf)))))))) ∷ (typed (ints 0) (Elementwise elemental.LenTrim
    (argument 0 (typed (texts 8 0) (Binary binary.Concat (typed (texts 5 0) (Named (at 1 Whole AllOf))) (typed (texts 3 0)
    (Named (at 0 Whole AllOf))))) no_argument))) ∷ (typed (ints 0) (Elementwise elemental.Index (argument 0 (typed (texts
    5 0) (Named (at 1 Whole AllOf))) (argument 1 (text 1 (32 ∷ [])) no_argument)))) ∷ (typed (ints 0) (Elementwise
    elemental.Index (argument 0 (text 4 (97 ∷ 88 ∷ 98 ∷ 88 ∷ [])) (argument 1 (text 1 (88 ∷ [])) no_argument)))) ∷ []))
    no_stmt)))))
    ([])

abbrev pub PaddedComparison : Type 0
PaddedComparison = Comes padded_comparison ([]) 100 (ended ((truth true ∷ truth false ∷ truth true ∷ truth true ∷ truth
    true ∷ truth true ∷ truth true ∷ truth true ∷ []) ∷ (truth true ∷ num 8 ∷ num 7 ∷ num 3 ∷ num 2 ∷ []) ∷ []))

--     program p
--     character(4) :: c(3)
--     character(2) :: d(3)
--     d = (/'ab','cd','ef'/)
--     c = d
--     c(2)(2:3) = 'wxyz'
--     c(1)(3:) = d(3)
--     c(3)(:1) = ''
--     d = c(:)(2:4)
--     print *, c, '|'
--     print *, d, '|'
--     end
unfoldable pub texts_cut_and_padded : Program
texts_cut_and_padded = program
    ([])
    (procedure 1 false false false
    (entity 2 (declared.Character (long.Fixed 4)) (Explicit (span Absent (int 3) ∷ [])) role.Own None ∷ entity 3
    (declared.Character (long.Fixed 2)) (Explicit (span Absent (int 3) ∷ [])) role.Own None ∷ [])
    None
    (stmt (Assigns (assign 4 (target (texts 2 1) (at 1 Whole AllOf)) (typed (texts 2 1) (Constructor (value (text 2 (97 ∷
    98 ∷ [])) (value (text 2 (99 ∷ 100 ∷ [])) (value (text 2 (101 ∷ 102 ∷ [])) no_item))))))) (stmt (Assigns (assign 5
    (target (texts 4 1) (at 0 Whole AllOf)) (typed (texts 2 1) (Named (at 1 Whole AllOf))))) (stmt (Assigns (assign 6
    (target (some_texts 0) (at 0 (Subscripted (subscript (One (int 2)) no_subscript)) (BytesOf (Given (int 2)) (Given (int
    3))))) (text 4 (119 ∷ 120 ∷ 121 ∷ 122 ∷ [])))) (stmt (Assigns (assign 7 (target (some_texts 0) (at 0 (Subscripted
    (subscript (One (int 1)) no_subscript)) (BytesOf (Given (int 3)) Absent))) (typed (texts 2 0) (Named (at 1
    (Subscripted (subscript (One (int 3)) no_subscript)) AllOf))))) (stmt (Assigns (assign 8 (target (some_texts 0) (at 0
    (Subscripted (subscript (One (int 3)) no_subscript)) (BytesOf Absent (Given (int 1))))) (text 0 []))) (stmt (Assigns
    (assign 9 (target (texts 2 1) (at 1 Whole AllOf)) (typed (some_texts 1) (Named (at 0 (Subscripted (subscript
    (SubscriptTriplet Absent Absent Absent) no_subscript)) (BytesOf (Given (int 2)) (Given (int 4)))))))) (stmt (Print 10
    ((typed (texts 4 1) (Named (at 0 Whole AllOf))) ∷ (text 1 (124 ∷ [])) ∷ [])) (stmt (Print 11 ((typed (texts 2 1)
    (Named (at 1 Whole AllOf))) ∷ (text 1 (124 ∷ [])) ∷ [])) no_stmt)))))))))
    ([])

abbrev pub TextsCutAndPadded : Type 0
TextsCutAndPadded = Comes texts_cut_and_padded ([]) 100 (ended ((chars (97 ∷ 98 ∷ 101 ∷ 102 ∷ []) ∷ chars (99 ∷ 119 ∷ 120
    ∷ 32 ∷ []) ∷ chars (32 ∷ 102 ∷ 32 ∷ 32 ∷ []) ∷ chars (124 ∷ []) ∷ []) ∷ (chars (98 ∷ 101 ∷ []) ∷ chars (119 ∷ 120 ∷ []) ∷
    chars (102 ∷ 32 ∷ []) ∷ chars (124 ∷ []) ∷ []) ∷ []))
