-- Bounds of arrays without elements, choices, shifts, copies, and new shapes.
use Rattle.std.specs.Prelude.{false, true, Some, None, [], ◌∷◌}
use Rattle.f95_unit.specs.declared.operation.UnaryOp.TheVariants as unary
use Rattle.f95_unit.specs.declared.operation.BinaryOp.TheVariants as binary
use Rattle.f95_unit.specs.declared.operation.Elemental.TheVariants as elemental
use Rattle.f95_unit.specs.declared.operation.Inquiry.TheVariants as inquiry
use Rattle.f95_unit.specs.declared.operation.Rearranging.TheVariants as rearranging
use Rattle.f95_unit.specs.declared.unit.DeclaredType.TheVariants as declared
use Rattle.f95_unit.specs.declared.unit.Role.TheVariants as role
use Rattle.f95_unit.specs.Plain.{typed, Named, Unary, Binary, Constructor, Elementwise, Asked, Rearranged, at, Whole, Subscripted}
use Rattle.f95_unit.specs.Plain.{no_subscript, subscript, One, SubscriptTriplet, Absent, Given, AllOf, no_item, value, loop}
use Rattle.f95_unit.specs.Plain.{no_argument, argument, Name, Of, Assigns, Print, no_stmt, stmt, Scalars, Explicit, Program}
use Rattle.array_meaning.specs.Build.{ints, logs, int, log, index_at, target, assign, span, entity, procedure, program, num, neg}
use Rattle.array_meaning.specs.Build.{truth, ended, Comes}

--     program p
--     integer :: a(3:2), b(-4:-1,5:3)
--     print *, lbound(a), ubound(a), size(a), shape(a)
--     print *, lbound(b), ubound(b), size(b), shape(b), size(b,1), size(b,2)
--     print *, lbound(b,1), ubound(b,1), lbound(b,2), ubound(b,2)
--     print *, lbound(b(:,5:4)), ubound(b(-3:-1,:)), shape(b(-3:-2,:))
--     end
unfoldable pub bounds_of_no_elements : Program
bounds_of_no_elements = program
    ([])
    (procedure 1 false false false
    (entity 2 declared.Integer (Explicit (span (Given (int 3)) (int 2) ∷ [])) role.Own None ∷ entity 2 declared.Integer
    (Explicit (span (Given (typed (ints 0) (Unary unary.Minus (int 4)))) (typed (ints 0) (Unary unary.Minus (int 1))) ∷
    span (Given (int 5)) (int 3) ∷ [])) role.Own None ∷ [])
    None
    (stmt (Print 3 ((typed (ints 1) (Asked inquiry.Lbound None (Name 0))) ∷ (typed (ints 1) (Asked inquiry.Ubound None
    (Name 0))) ∷ (typed (ints 0) (Asked inquiry.Size None (Name 0))) ∷ (typed (ints 1) (Asked inquiry.Shape None (Name
    0))) ∷ [])) (stmt (Print 4 ((typed (ints 1) (Asked inquiry.Lbound None (Name 1))) ∷ (typed (ints 1) (Asked
    inquiry.Ubound None (Name 1))) ∷ (typed (ints 0) (Asked inquiry.Size None (Name 1))) ∷ (typed (ints 1) (Asked
    inquiry.Shape None (Name 1))) ∷ (typed (ints 0) (Asked inquiry.Size (Some 1) (Name 1))) ∷ (typed (ints 0) (Asked
    inquiry.Size (Some 2) (Name 1))) ∷ [])) (stmt (Print 5 ((typed (ints 0) (Asked inquiry.Lbound (Some 1) (Name 1))) ∷
    (typed (ints 0) (Asked inquiry.Ubound (Some 1) (Name 1))) ∷ (typed (ints 0) (Asked inquiry.Lbound (Some 2) (Name 1)))
    ∷ (typed (ints 0) (Asked inquiry.Ubound (Some 2) (Name 1))) ∷ [])) (stmt (Print 6 ((typed (ints 1) (Asked
    inquiry.Lbound None (Of (typed (ints 2) (Named (at 1 (Subscripted (subscript (SubscriptTriplet Absent Absent Absent)
    (subscript (SubscriptTriplet (Given (int 5)) (Given (int 4)) Absent) no_subscript))) AllOf)))))) ∷ (typed (ints 1)
    (Asked inquiry.Ubound None (Of (typed (ints 2) (Named (at 1 (Subscripted (subscript (SubscriptTriplet (Given (typed
    (ints 0) (Unary unary.Minus (int 3)))) (Given (typed (ints 0) (Unary unary.Minus (int 1)))) Absent) (subscript
    (SubscriptTriplet Absent Absent Absent) no_subscript))) AllOf)))))) ∷ (typed (ints 1) (Asked inquiry.Shape None (Of
    (typed (ints 2) (Named (at 1 (Subscripted (subscript (SubscriptTriplet (Given (typed (ints 0) (Unary unary.Minus (int
    3)))) (Given (typed (ints 0) (Unary unary.Minus (int 2)))) Absent) (subscript (SubscriptTriplet Absent Absent Absent)
    no_subscript))) AllOf)))))) ∷ [])) no_stmt)))))
    ([])

abbrev pub BoundsOfNoElements : Type 0
BoundsOfNoElements = Comes bounds_of_no_elements ([]) 100 (ended ((num 1 ∷ num 0 ∷ num 0 ∷ num 0 ∷ []) ∷ (neg 4 ∷ num 1 ∷
    neg 1 ∷ num 0 ∷ num 0 ∷ num 4 ∷ num 0 ∷ num 4 ∷ num 0 ∷ []) ∷ (neg 4 ∷ neg 1 ∷ num 1 ∷ num 0 ∷ []) ∷ (num 1 ∷ num 1 ∷ num
    3 ∷ num 0 ∷ num 2 ∷ num 0 ∷ []) ∷ []))

--     program p
--     integer :: a(3), b(3)
--     logical :: m(3)
--     a = (/1,2,3/)
--     b = (/10,20,30/)
--     m = (/.true.,.false.,.true./)
--     print *, merge(a, b, m), merge(7, b, m), merge(a, -1, .not. m), merge(a, b, a > 2)
--     print *, merge(m, .not. m, a == 2), merge(1, 2, a(3) > 9)
--     end
unfoldable pub merge_of_shapes : Program
merge_of_shapes = program
    ([])
    (procedure 1 false false false
    (entity 2 declared.Integer (Explicit (span Absent (int 3) ∷ [])) role.Own None ∷ entity 2 declared.Integer (Explicit
    (span Absent (int 3) ∷ [])) role.Own None ∷ entity 3 declared.Logical (Explicit (span Absent (int 3) ∷ [])) role.Own
    None ∷ [])
    None
    (stmt (Assigns (assign 4 (target (ints 1) (at 0 Whole AllOf)) (typed (ints 1) (Constructor (value (int 1) (value (int
    2) (value (int 3) no_item))))))) (stmt (Assigns (assign 5 (target (ints 1) (at 1 Whole AllOf)) (typed (ints 1)
    (Constructor (value (int 10) (value (int 20) (value (int 30) no_item))))))) (stmt (Assigns (assign 6 (target (logs 1)
    (at 2 Whole AllOf)) (typed (logs 1) (Constructor (value (log true) (value (log false) (value (log true) no_item)))))))
    (stmt (Print 7 ((typed (ints 1) (Elementwise elemental.Merge (argument 0 (typed (ints 1) (Named (at 0 Whole AllOf)))
    (argument 1 (typed (ints 1) (Named (at 1 Whole AllOf))) (argument 2 (typed (logs 1) (Named (at 2 Whole AllOf)))
    no_argument))))) ∷ (typed (ints 1) (Elementwise elemental.Merge (argument 0 (int 7) (argument 1 (typed (ints 1) (Named
    (at 1 Whole AllOf))) (argument 2 (typed (logs 1) (Named (at 2 Whole AllOf))) no_argument))))) ∷ (typed (ints 1)
    (Elementwise elemental.Merge (argument 0 (typed (ints 1) (Named (at 0 Whole AllOf))) (argument 1 (typed (ints 0)
    (Unary unary.Minus (int 1))) (argument 2 (typed (logs 1) (Unary unary.Not (typed (logs 1) (Named (at 2 Whole
    AllOf))))) no_argument))))) ∷ (typed (ints 1) (Elementwise elemental.Merge (argument 0 (typed (ints 1) (Named (at 0
    Whole AllOf))) (argument 1 (typed (ints 1) (Named (at 1 Whole AllOf))) (argument 2 (typed (logs 1) (Binary
    binary.Greater (typed (ints 1) (Named (at 0 Whole AllOf))) (int 2))) no_argument))))) ∷ [])) (stmt (Print 8 ((typed
    (logs 1) (Elementwise elemental.Merge (argument 0 (typed (logs 1) (Named (at 2 Whole AllOf))) (argument 1 (typed (logs
    1) (Unary unary.Not (typed (logs 1) (Named (at 2 Whole AllOf))))) (argument 2 (typed (logs 1) (Binary binary.Equal
    (typed (ints 1) (Named (at 0 Whole AllOf))) (int 2))) no_argument))))) ∷ (typed (ints 0) (Elementwise elemental.Merge
    (argument 0 (int 1) (argument 1 (int 2) (argument 2 (typed (logs 0) (Binary binary.Greater (typed (ints 0) (Named (at
    0 (Subscripted (subscript (One (int 3)) no_subscript)) AllOf))) (int 9))) no_argument))))) ∷ [])) no_stmt))))))
    ([])

abbrev pub MergeOfShapes : Type 0
MergeOfShapes = Comes merge_of_shapes ([]) 100 (ended ((num 1 ∷ num 20 ∷ num 3 ∷ num 7 ∷ num 20 ∷ num 7 ∷ neg 1 ∷ num 2 ∷
    neg 1 ∷ num 10 ∷ num 20 ∷ num 3 ∷ []) ∷ (truth false ∷ truth false ∷ truth false ∷ num 2 ∷ []) ∷ []))

--     program p
--     integer :: b(2,3), i
--     b = reshape((/ (i, i = 1, 6) /), (/2,3/))
--     print *, cshift(b, 1), cshift(b, -1, 2)
--     print *, eoshift(b, 1), eoshift(b, -1, 99, 2), eoshift(b, 5, 8)
--     print *, cshift(b, 7, 2), cshift(b(1,3:2), 4)
--     end
unfoldable pub shifts_of_a_matrix : Program
shifts_of_a_matrix = program
    ([])
    (procedure 1 false false false
    (entity 2 declared.Integer (Explicit (span Absent (int 2) ∷ span Absent (int 3) ∷ [])) role.Own None ∷ entity 2
    declared.Integer Scalars role.Own None ∷ [])
    None
    (stmt (Assigns (assign 3 (target (ints 2) (at 0 Whole AllOf)) (typed (ints 2) (Rearranged rearranging.Reshape None
    (argument 0 (typed (ints 1) (Constructor (loop (value (index_at 0) no_item) (int 1) (int 6) Absent no_item)))
    (argument 1 (typed (ints 1) (Constructor (value (int 2) (value (int 3) no_item)))) no_argument)))))) (stmt (Print 4
    ((typed (ints 2) (Rearranged rearranging.Cshift None (argument 0 (typed (ints 2) (Named (at 0 Whole AllOf))) (argument
    1 (int 1) no_argument)))) ∷ (typed (ints 2) (Rearranged rearranging.Cshift (Some 2) (argument 0 (typed (ints 2) (Named
    (at 0 Whole AllOf))) (argument 1 (typed (ints 0) (Unary unary.Minus (int 1))) no_argument)))) ∷ [])) (stmt (Print 5
    ((typed (ints 2) (Rearranged rearranging.Eoshift None (argument 0 (typed (ints 2) (Named (at 0 Whole AllOf)))
    (argument 1 (int 1) no_argument)))) ∷ (typed (ints 2) (Rearranged rearranging.Eoshift (Some 2) (argument 0 (typed
    (ints 2) (Named (at 0 Whole AllOf))) (argument 1 (typed (ints 0) (Unary unary.Minus (int 1))) (argument 2 (int 99)
    no_argument))))) ∷ (typed (ints 2) (Rearranged rearranging.Eoshift None (argument 0 (typed (ints 2) (Named (at 0 Whole
    AllOf))) (argument 1 (int 5) (argument 2 (int 8) no_argument))))) ∷ [])) (stmt (Print 6 ((typed (ints 2) (Rearranged
    rearranging.Cshift (Some 2) (argument 0 (typed (ints 2) (Named (at 0 Whole AllOf))) (argument 1 (int 7)
    no_argument)))) ∷ (typed (ints 1) (Rearranged rearranging.Cshift None (argument 0 (typed (ints 1) (Named (at 0
    (Subscripted (subscript (One (int 1)) (subscript (SubscriptTriplet (Given (int 3)) (Given (int 2)) Absent)
    no_subscript))) AllOf))) (argument 1 (int 4) no_argument)))) ∷ [])) no_stmt)))))
    ([])

abbrev pub ShiftsOfAMatrix : Type 0
ShiftsOfAMatrix = Comes shifts_of_a_matrix ([]) 100 (ended ((num 2 ∷ num 1 ∷ num 4 ∷ num 3 ∷ num 6 ∷ num 5 ∷ num 5 ∷ num 6
    ∷ num 1 ∷ num 2 ∷ num 3 ∷ num 4 ∷ []) ∷ (num 2 ∷ num 0 ∷ num 4 ∷ num 0 ∷ num 6 ∷ num 0 ∷ num 99 ∷ num 99 ∷ num 1 ∷ num 2 ∷
    num 3 ∷ num 4 ∷ num 8 ∷ num 8 ∷ num 8 ∷ num 8 ∷ num 8 ∷ num 8 ∷ []) ∷ (num 3 ∷ num 4 ∷ num 5 ∷ num 6 ∷ num 1 ∷ num 2 ∷ [])
    ∷ []))

--     program p
--     logical :: m(4)
--     m = (/.true.,.true.,.false.,.true./)
--     print *, cshift(m, 1), eoshift(m, 2), eoshift(m, -1, .true.)
--     end
unfoldable pub logical_shifts : Program
logical_shifts = program
    ([])
    (procedure 1 false false false
    (entity 2 declared.Logical (Explicit (span Absent (int 4) ∷ [])) role.Own None ∷ [])
    None
    (stmt (Assigns (assign 3 (target (logs 1) (at 0 Whole AllOf)) (typed (logs 1) (Constructor (value (log true) (value
    (log true) (value (log false) (value (log true) no_item)))))))) (stmt (Print 4 ((typed (logs 1) (Rearranged
    rearranging.Cshift None (argument 0 (typed (logs 1) (Named (at 0 Whole AllOf))) (argument 1 (int 1) no_argument)))) ∷
    (typed (logs 1) (Rearranged rearranging.Eoshift None (argument 0 (typed (logs 1) (Named (at 0 Whole AllOf))) (argument
    1 (int 2) no_argument)))) ∷ (typed (logs 1) (Rearranged rearranging.Eoshift None (argument 0 (typed (logs 1) (Named
    (at 0 Whole AllOf))) (argument 1 (typed (ints 0) (Unary unary.Minus (int 1))) (argument 2 (log true) no_argument)))))
    ∷ [])) no_stmt)))
    ([])

abbrev pub LogicalShifts : Type 0
LogicalShifts = Comes logical_shifts ([]) 100 (ended ((truth true ∷ truth false ∷ truth true ∷ truth true ∷ truth false ∷
    truth true ∷ truth false ∷ truth false ∷ truth true ∷ truth true ∷ truth true ∷ truth false ∷ []) ∷ []))

--     program p
--     integer :: a(2), b(2,3)
--     a = (/1,2/)
--     b = spread(a, 2, 3)
--     print *, b, spread(a, 1, 2), spread(7, 1, 3)
--     print *, shape(spread(b, 2, 4)), shape(spread(a, 2, 0))
--     print *, spread(b(:,1:2), 2, 2)
--     end
unfoldable pub copies_of_copies : Program
copies_of_copies = program
    ([])
    (procedure 1 false false false
    (entity 2 declared.Integer (Explicit (span Absent (int 2) ∷ [])) role.Own None ∷ entity 2 declared.Integer (Explicit
    (span Absent (int 2) ∷ span Absent (int 3) ∷ [])) role.Own None ∷ [])
    None
    (stmt (Assigns (assign 3 (target (ints 1) (at 0 Whole AllOf)) (typed (ints 1) (Constructor (value (int 1) (value (int
    2) no_item)))))) (stmt (Assigns (assign 4 (target (ints 2) (at 1 Whole AllOf)) (typed (ints 2) (Rearranged
    rearranging.Spread (Some 2) (argument 0 (typed (ints 1) (Named (at 0 Whole AllOf))) (argument 2 (int 3)
    no_argument)))))) (stmt (Print 5 ((typed (ints 2) (Named (at 1 Whole AllOf))) ∷ (typed (ints 2) (Rearranged
    rearranging.Spread (Some 1) (argument 0 (typed (ints 1) (Named (at 0 Whole AllOf))) (argument 2 (int 2)
    no_argument)))) ∷ (typed (ints 1) (Rearranged rearranging.Spread (Some 1) (argument 0 (int 7) (argument 2 (int 3)
    no_argument)))) ∷ [])) (stmt (Print 6 ((typed (ints 1) (Asked inquiry.Shape None (Of (typed (ints 3) (Rearranged
    rearranging.Spread (Some 2) (argument 0 (typed (ints 2) (Named (at 1 Whole AllOf))) (argument 2 (int 4)
    no_argument))))))) ∷ (typed (ints 1) (Asked inquiry.Shape None (Of (typed (ints 2) (Rearranged rearranging.Spread
    (Some 2) (argument 0 (typed (ints 1) (Named (at 0 Whole AllOf))) (argument 2 (int 0) no_argument))))))) ∷ [])) (stmt
    (Print 7 ((typed (ints 3) (Rearranged rearranging.Spread (Some 2) (argument 0 (typed (ints 2) (Named (at 1
    (Subscripted (subscript (SubscriptTriplet Absent Absent Absent) (subscript (SubscriptTriplet (Given (int 1)) (Given
    (int 2)) Absent) no_subscript))) AllOf))) (argument 2 (int 2) no_argument)))) ∷ [])) no_stmt))))))
    ([])

abbrev pub CopiesOfCopies : Type 0
CopiesOfCopies = Comes copies_of_copies ([]) 100 (ended ((num 1 ∷ num 2 ∷ num 1 ∷ num 2 ∷ num 1 ∷ num 2 ∷ num 1 ∷ num 1 ∷
    num 2 ∷ num 2 ∷ num 7 ∷ num 7 ∷ num 7 ∷ []) ∷ (num 2 ∷ num 4 ∷ num 3 ∷ num 2 ∷ num 0 ∷ []) ∷ (num 1 ∷ num 2 ∷ num 1 ∷ num
    2 ∷ num 1 ∷ num 2 ∷ num 1 ∷ num 2 ∷ []) ∷ []))

--     program p
--     integer :: a(2), n
--     a = (/1,2/)
--     n = -3
--     print *, size(spread(a, 1, n)), shape(spread(a, 2, n)), spread(a, 1, 0), 5
--     end
unfoldable pub copies_of_none : Program
copies_of_none = program
    ([])
    (procedure 1 false false false
    (entity 2 declared.Integer (Explicit (span Absent (int 2) ∷ [])) role.Own None ∷ entity 2 declared.Integer Scalars
    role.Own None ∷ [])
    None
    (stmt (Assigns (assign 3 (target (ints 1) (at 0 Whole AllOf)) (typed (ints 1) (Constructor (value (int 1) (value (int
    2) no_item)))))) (stmt (Assigns (assign 4 (target (ints 0) (at 1 Whole AllOf)) (typed (ints 0) (Unary unary.Minus (int
    3))))) (stmt (Print 5 ((typed (ints 0) (Asked inquiry.Size None (Of (typed (ints 2) (Rearranged rearranging.Spread
    (Some 1) (argument 0 (typed (ints 1) (Named (at 0 Whole AllOf))) (argument 2 (typed (ints 0) (Named (at 1 Whole
    AllOf))) no_argument))))))) ∷ (typed (ints 1) (Asked inquiry.Shape None (Of (typed (ints 2) (Rearranged
    rearranging.Spread (Some 2) (argument 0 (typed (ints 1) (Named (at 0 Whole AllOf))) (argument 2 (typed (ints 0) (Named
    (at 1 Whole AllOf))) no_argument))))))) ∷ (typed (ints 2) (Rearranged rearranging.Spread (Some 1) (argument 0 (typed
    (ints 1) (Named (at 0 Whole AllOf))) (argument 2 (int 0) no_argument)))) ∷ (int 5) ∷ [])) no_stmt))))
    ([])

abbrev pub CopiesOfNone : Type 0
CopiesOfNone = Comes copies_of_none ([]) 100 (ended ((num 0 ∷ num 2 ∷ num 0 ∷ num 5 ∷ []) ∷ []))

--     program p
--     integer :: i
--     print *, reshape((/ (i, i = 1, 5) /), (/2,4/), (/0,-1/), (/2,1/))
--     print *, reshape((/ (i, i = 1, 6) /), (/3,2/), order=(/2,1/))
--     print *, reshape((/1,2/), (/2,2,2/), (/8,9/), (/3,1,2/))
--     print *, reshape((/1,2,3,4/), (/3/)), size(reshape((/1/), (/0,5/)))
--     end
unfoldable pub order_with_pad : Program
order_with_pad = program
    ([])
    (procedure 1 false false false
    (entity 2 declared.Integer Scalars role.Own None ∷ [])
    None
    (stmt (Print 3 ((typed (ints 2) (Rearranged rearranging.Reshape None (argument 0 (typed (ints 1) (Constructor (loop
    (value (index_at 0) no_item) (int 1) (int 5) Absent no_item))) (argument 1 (typed (ints 1) (Constructor (value (int 2)
    (value (int 4) no_item)))) (argument 2 (typed (ints 1) (Constructor (value (int 0) (value (typed (ints 0) (Unary
    unary.Minus (int 1))) no_item)))) (argument 3 (typed (ints 1) (Constructor (value (int 2) (value (int 1) no_item))))
    no_argument)))))) ∷ [])) (stmt (Print 4 ((typed (ints 2) (Rearranged rearranging.Reshape None (argument 0 (typed (ints
    1) (Constructor (loop (value (index_at 0) no_item) (int 1) (int 6) Absent no_item))) (argument 1 (typed (ints 1)
    (Constructor (value (int 3) (value (int 2) no_item)))) (argument 3 (typed (ints 1) (Constructor (value (int 2) (value
    (int 1) no_item)))) no_argument))))) ∷ [])) (stmt (Print 5 ((typed (ints 3) (Rearranged rearranging.Reshape None
    (argument 0 (typed (ints 1) (Constructor (value (int 1) (value (int 2) no_item)))) (argument 1 (typed (ints 1)
    (Constructor (value (int 2) (value (int 2) (value (int 2) no_item))))) (argument 2 (typed (ints 1) (Constructor (value
    (int 8) (value (int 9) no_item)))) (argument 3 (typed (ints 1) (Constructor (value (int 3) (value (int 1) (value (int
    2) no_item))))) no_argument)))))) ∷ [])) (stmt (Print 6 ((typed (ints 1) (Rearranged rearranging.Reshape None
    (argument 0 (typed (ints 1) (Constructor (value (int 1) (value (int 2) (value (int 3) (value (int 4) no_item))))))
    (argument 1 (typed (ints 1) (Constructor (value (int 3) no_item))) no_argument)))) ∷ (typed (ints 0) (Asked
    inquiry.Size None (Of (typed (ints 2) (Rearranged rearranging.Reshape None (argument 0 (typed (ints 1) (Constructor
    (value (int 1) no_item))) (argument 1 (typed (ints 1) (Constructor (value (int 0) (value (int 5) no_item))))
    no_argument))))))) ∷ [])) no_stmt)))))
    ([])

abbrev pub OrderWithPad : Type 0
OrderWithPad = Comes order_with_pad ([]) 100 (ended ((num 1 ∷ num 5 ∷ num 2 ∷ num 0 ∷ num 3 ∷ neg 1 ∷ num 4 ∷ num 0 ∷ [])
    ∷ (num 1 ∷ num 3 ∷ num 5 ∷ num 2 ∷ num 4 ∷ num 6 ∷ []) ∷ (num 1 ∷ num 8 ∷ num 8 ∷ num 8 ∷ num 2 ∷ num 9 ∷ num 9 ∷ num 9 ∷
    []) ∷ (num 1 ∷ num 2 ∷ num 3 ∷ num 0 ∷ []) ∷ []))

--     program p
--     integer :: b(2,2)
--     b = reshape((/1,2,3,4/), (/2,2/))
--     print *, reshape((/7/), (/3,2/), b)
--     print *, reshape(b, (/4/)), reshape(b(2:1,:), (/3/), b(:,2))
--     end
unfoldable pub pad_of_a_matrix : Program
pad_of_a_matrix = program
    ([])
    (procedure 1 false false false
    (entity 2 declared.Integer (Explicit (span Absent (int 2) ∷ span Absent (int 2) ∷ [])) role.Own None ∷ [])
    None
    (stmt (Assigns (assign 3 (target (ints 2) (at 0 Whole AllOf)) (typed (ints 2) (Rearranged rearranging.Reshape None
    (argument 0 (typed (ints 1) (Constructor (value (int 1) (value (int 2) (value (int 3) (value (int 4) no_item))))))
    (argument 1 (typed (ints 1) (Constructor (value (int 2) (value (int 2) no_item)))) no_argument)))))) (stmt (Print 4
    ((typed (ints 2) (Rearranged rearranging.Reshape None (argument 0 (typed (ints 1) (Constructor (value (int 7)
    no_item))) (argument 1 (typed (ints 1) (Constructor (value (int 3) (value (int 2) no_item)))) (argument 2 (typed (ints
    2) (Named (at 0 Whole AllOf))) no_argument))))) ∷ [])) (stmt (Print 5 ((typed (ints 1) (Rearranged rearranging.Reshape
    None (argument 0 (typed (ints 2) (Named (at 0 Whole AllOf))) (argument 1 (typed (ints 1) (Constructor (value (int 4)
    no_item))) no_argument)))) ∷ (typed (ints 1) (Rearranged rearranging.Reshape None (argument 0 (typed (ints 2) (Named
    (at 0 (Subscripted (subscript (SubscriptTriplet (Given (int 2)) (Given (int 1)) Absent) (subscript (SubscriptTriplet
    Absent Absent Absent) no_subscript))) AllOf))) (argument 1 (typed (ints 1) (Constructor (value (int 3) no_item)))
    (argument 2 (typed (ints 1) (Named (at 0 (Subscripted (subscript (SubscriptTriplet Absent Absent Absent) (subscript
    (One (int 2)) no_subscript))) AllOf))) no_argument))))) ∷ [])) no_stmt))))
    ([])

abbrev pub PadOfAMatrix : Type 0
PadOfAMatrix = Comes pad_of_a_matrix ([]) 100 (ended ((num 7 ∷ num 1 ∷ num 2 ∷ num 3 ∷ num 4 ∷ num 1 ∷ []) ∷ (num 1 ∷ num
    2 ∷ num 3 ∷ num 4 ∷ num 3 ∷ num 4 ∷ num 3 ∷ []) ∷ []))

--     program p
--     integer :: a(6), b(2,2), i
--     a = (/ (i, i = 1, 6) /)
--     b = reshape((/10,20,30,40/), (/2,2/))
--     print *, pack(a, mod(a, 2) == 0), pack(b, b > 10, (/1,2,3,4,5/)), pack(a, .true.), size(pack(a, .false.))
--     print *, unpack((/7,8,9/), b > 10, b), unpack((/7,8/), b == 40, 0), pack(a, .false., a(2:4))
--     end
unfoldable pub pack_and_unpack : Program
pack_and_unpack = program
    ([])
    (procedure 1 false false false
    (entity 2 declared.Integer (Explicit (span Absent (int 6) ∷ [])) role.Own None ∷ entity 2 declared.Integer (Explicit
    (span Absent (int 2) ∷ span Absent (int 2) ∷ [])) role.Own None ∷ entity 2 declared.Integer Scalars role.Own None ∷
    [])
    None
    (stmt (Assigns (assign 3 (target (ints 1) (at 0 Whole AllOf)) (typed (ints 1) (Constructor (loop (value (index_at 0)
    no_item) (int 1) (int 6) Absent no_item))))) (stmt (Assigns (assign 4 (target (ints 2) (at 1 Whole AllOf)) (typed
    (ints 2) (Rearranged rearranging.Reshape None (argument 0 (typed (ints 1) (Constructor (value (int 10) (value (int 20)
    (value (int 30) (value (int 40) no_item)))))) (argument 1 (typed (ints 1) (Constructor (value (int 2) (value (int 2)
    no_item)))) no_argument)))))) (stmt (Print 5 ((typed (ints 1) (Rearranged rearranging.Pack None (argument 0 (typed
    (ints 1) (Named (at 0 Whole AllOf))) (argument 1 (typed (logs 1) (Binary binary.Equal (typed (ints 1) (Elementwise
    elemental.Mod (argument 0 (typed (ints 1) (Named (at 0 Whole AllOf))) (argument 1 (int 2) no_argument)))) (int 0)))
    no_argument)))) ∷ (typed (ints 1) (Rearranged rearranging.Pack None (argument 0 (typed (ints 2) (Named (at 1 Whole
    AllOf))) (argument 1 (typed (logs 2) (Binary binary.Greater (typed (ints 2) (Named (at 1 Whole AllOf))) (int 10)))
    (argument 2 (typed (ints 1) (Constructor (value (int 1) (value (int 2) (value (int 3) (value (int 4) (value (int 5)
    no_item))))))) no_argument))))) ∷ (typed (ints 1) (Rearranged rearranging.Pack None (argument 0 (typed (ints 1) (Named
    (at 0 Whole AllOf))) (argument 1 (log true) no_argument)))) ∷ (typed (ints 0) (Asked inquiry.Size None (Of (typed
    (ints 1) (Rearranged rearranging.Pack None (argument 0 (typed (ints 1) (Named (at 0 Whole AllOf))) (argument 1 (log
    false) no_argument))))))) ∷ [])) (stmt (Print 6 ((typed (ints 2) (Rearranged rearranging.Unpack None (argument 0
    (typed (ints 1) (Constructor (value (int 7) (value (int 8) (value (int 9) no_item))))) (argument 1 (typed (logs 2)
    (Binary binary.Greater (typed (ints 2) (Named (at 1 Whole AllOf))) (int 10))) (argument 2 (typed (ints 2) (Named (at 1
    Whole AllOf))) no_argument))))) ∷ (typed (ints 2) (Rearranged rearranging.Unpack None (argument 0 (typed (ints 1)
    (Constructor (value (int 7) (value (int 8) no_item)))) (argument 1 (typed (logs 2) (Binary binary.Equal (typed (ints
    2) (Named (at 1 Whole AllOf))) (int 40))) (argument 2 (int 0) no_argument))))) ∷ (typed (ints 1) (Rearranged
    rearranging.Pack None (argument 0 (typed (ints 1) (Named (at 0 Whole AllOf))) (argument 1 (log false) (argument 2
    (typed (ints 1) (Named (at 0 (Subscripted (subscript (SubscriptTriplet (Given (int 2)) (Given (int 4)) Absent)
    no_subscript)) AllOf))) no_argument))))) ∷ [])) no_stmt)))))
    ([])

abbrev pub PackAndUnpack : Type 0
PackAndUnpack = Comes pack_and_unpack ([]) 100 (ended ((num 2 ∷ num 4 ∷ num 6 ∷ num 20 ∷ num 30 ∷ num 40 ∷ num 4 ∷ num 5 ∷
    num 1 ∷ num 2 ∷ num 3 ∷ num 4 ∷ num 5 ∷ num 6 ∷ num 0 ∷ []) ∷ (num 10 ∷ num 7 ∷ num 8 ∷ num 9 ∷ num 0 ∷ num 0 ∷ num 0 ∷
    num 7 ∷ num 2 ∷ num 3 ∷ num 4 ∷ []) ∷ []))
