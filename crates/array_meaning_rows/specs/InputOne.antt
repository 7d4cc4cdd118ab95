-- READ and PRINT.
use Rattle.std.specs.Prelude.{false, None, [], ◌∷◌}
use Rattle.a95_base.specs.declared.fault.FaultKind.TheVariants as fault
use Rattle.f95_unit.specs.declared.operation.UnaryOp.TheVariants as unary
use Rattle.f95_unit.specs.declared.operation.Reduction.TheVariants as reduction
use Rattle.f95_unit.specs.declared.unit.DeclaredType.TheVariants as declared
use Rattle.f95_unit.specs.declared.unit.Role.TheVariants as role
use Rattle.f95_unit.specs.Plain.{typed, Named, Unary, Constructor, Reduced, at, Whole, Subscripted, no_subscript, subscript, One}
use Rattle.f95_unit.specs.Plain.{Vector, SubscriptTriplet, Absent, Given, AllOf, no_item, value, no_argument, argument, Assigns}
use Rattle.f95_unit.specs.Plain.{Allocate, Print, Read, no_stmt, stmt, Scalars, Explicit, Deferred, Program}
use Rattle.array_meaning.specs.Build.{ints, int, text, target, assign, span, allocation, entity, procedure, program, num, neg}
use Rattle.array_meaning.specs.Build.{chars, ended, faulted, Comes}

--     program p; integer :: n; integer, allocatable :: a(:); read *, n; allocate(a(n)); read *, a; print *, a(n:1:-1), sum(a); end
unfoldable pub read_and_print : Program
read_and_print = program
    ([])
    (procedure 1 false false false
    (entity 1 declared.Integer Scalars role.Own None ∷ entity 1 declared.Integer (Deferred 1) role.Own None ∷ [])
    None
    (stmt (Read 1 ((target (ints 0) (at 0 Whole AllOf)) ∷ [])) (stmt (Allocate 1 (allocation 1 (span Absent (typed (ints 0)
    (Named (at 0 Whole AllOf))) ∷ []) ∷ [])) (stmt (Read 1 ((target (ints 1) (at 1 Whole AllOf)) ∷ [])) (stmt (Print 1
    ((typed (ints 1) (Named (at 1 (Subscripted (subscript (SubscriptTriplet (Given (typed (ints 0) (Named (at 0 Whole AllOf))))
    (Given
    (int 1)) (Given (typed (ints 0) (Unary unary.Minus (int 1))))) no_subscript)) AllOf))) ∷ (typed (ints 0) (Reduced
    reduction.Sum None (argument 0 (typed (ints 1) (Named (at 1 Whole AllOf))) no_argument))) ∷ [])) no_stmt)))))
    ([])

-- on the input 3 9, 1, 2, 3
abbrev pub ReadAndPrint : Type 0
ReadAndPrint = Comes read_and_print (51 ∷ 32 ∷ 57 ∷ 10 ∷ 49 ∷ 44 ∷ 32 ∷ 50 ∷ 10 ∷ 51 ∷ 10 ∷ []) 100 (ended ((num 3 ∷ num 2 ∷
    num 1 ∷ num 6 ∷ []) ∷ []))

--     program p
--     integer :: n, a(3)
--     a = 0
--     read *, n, a(n)
--     read *
--     read *, a(1)
--     print *, n, a
--     end
unfoldable pub item_by_item : Program
item_by_item = program
    ([])
    (procedure 1 false false false
    (entity 2 declared.Integer Scalars role.Own None ∷ entity 2 declared.Integer (Explicit (span Absent (int 3) ∷ []))
    role.Own None ∷ [])
    None
    (stmt (Assigns (assign 3 (target (ints 1) (at 1 Whole AllOf)) (int 0))) (stmt (Read 4 ((target (ints 0) (at 0 Whole
    AllOf)) ∷ (target (ints 0) (at 1 (Subscripted (subscript (One (typed (ints 0) (Named (at 0 Whole AllOf))))
    no_subscript)) AllOf)) ∷ [])) (stmt (Read 5 ([])) (stmt (Read 6 ((target (ints 0) (at 1 (Subscripted (subscript (One
    (int 1)) no_subscript)) AllOf)) ∷ [])) (stmt (Print 7 ((typed (ints 0) (Named (at 0 Whole AllOf))) ∷ (typed (ints 1)
    (Named (at 1 Whole AllOf))) ∷ [])) no_stmt))))))
    ([])

-- on the input 2, +7 8, skipped, -4
abbrev pub ItemByItem : Type 0
ItemByItem = Comes item_by_item (50 ∷ 10 ∷ 43 ∷ 55 ∷ 32 ∷ 56 ∷ 10 ∷ 115 ∷ 107 ∷ 105 ∷ 112 ∷ 112 ∷ 101 ∷ 100 ∷ 10 ∷ 45 ∷ 52 ∷
    10 ∷ []) 100 (ended ((num 2 ∷ neg 4 ∷ num 7 ∷ num 0 ∷ []) ∷ []))

--     program p; integer :: n; read *, n; end
unfoldable pub nothing_left : Program
nothing_left = program
    ([])
    (procedure 1 false false false
    (entity 1 declared.Integer Scalars role.Own None ∷ [])
    None
    (stmt (Read 1 ((target (ints 0) (at 0 Whole AllOf)) ∷ [])) no_stmt))
    ([])

abbrev pub NothingLeft : Type 0
NothingLeft = Comes nothing_left ([]) 100 (faulted fault.EndOfInput 1 ([]))

--     program p; integer :: n; read *, n; end
unfoldable pub no_integer : Program
no_integer = program
    ([])
    (procedure 1 false false false
    (entity 1 declared.Integer Scalars role.Own None ∷ [])
    None
    (stmt (Read 1 ((target (ints 0) (at 0 Whole AllOf)) ∷ [])) no_stmt))
    ([])

-- on the input x
abbrev pub NoInteger : Type 0
NoInteger = Comes no_integer (120 ∷ []) 100 (faulted fault.BadInput 1 ([]))

--     program p
--     integer :: n
--     print *, 1
--     read *, n
--     end
unfoldable pub comma_first : Program
comma_first = program
    ([])
    (procedure 1 false false false
    (entity 2 declared.Integer Scalars role.Own None ∷ [])
    None
    (stmt (Print 3 ((int 1) ∷ [])) (stmt (Read 4 ((target (ints 0) (at 0 Whole AllOf)) ∷ [])) no_stmt)))
    ([])

-- on the input , 5
abbrev pub CommaFirst : Type 0
CommaFirst = Comes comma_first (44 ∷ 32 ∷ 53 ∷ 10 ∷ []) 100 (faulted fault.BadInput 4 ((num 1 ∷ []) ∷ []))

--     program p; integer :: a(2); read *, a(2:1); read *, a(1); print *, a(1); end
unfoldable pub record_of_nothing : Program
record_of_nothing = program
    ([])
    (procedure 1 false false false
    (entity 1 declared.Integer (Explicit (span Absent (int 2) ∷ [])) role.Own None ∷ [])
    None
    (stmt (Read 1 ((target (ints 1) (at 0 (Subscripted (subscript (SubscriptTriplet (Given (int 2)) (Given (int 1)) Absent)
    no_subscript)) AllOf)) ∷ [])) (stmt (Read 1 ((target (ints 0) (at 0 (Subscripted (subscript (One (int 1))
    no_subscript)) AllOf)) ∷ [])) (stmt (Print 1 ((typed (ints 0) (Named (at 0 (Subscripted (subscript (One (int 1))
    no_subscript)) AllOf))) ∷ [])) no_stmt))))
    ([])

-- on the input 5, 8
abbrev pub RecordOfNothing : Type 0
RecordOfNothing = Comes record_of_nothing (53 ∷ 10 ∷ 56 ∷ 10 ∷ []) 100 (ended ((num 8 ∷ []) ∷ []))

--     program p; print *; print *, 'a', 'b', 1, 'c'; end
unfoldable pub empty_record : Program
empty_record = program
    ([])
    (procedure 1 false false false
    ([])
    None
    (stmt (Print 1 ([])) (stmt (Print 1 ((text 1 (97 ∷ [])) ∷ (text 1 (98 ∷ [])) ∷ (int 1) ∷ (text 1 (99 ∷ [])) ∷ []))
    no_stmt)))
    ([])

abbrev pub EmptyRecord : Type 0
EmptyRecord = Comes empty_record ([]) 100 (ended (([]) ∷ (chars (97 ∷ []) ∷ chars (98 ∷ []) ∷ num 1 ∷ chars (99 ∷ []) ∷ []) ∷
    []))

--     program p
--     integer :: a(3)
--     read *, a((/2,2/))
--     end
unfoldable pub read_into_vector_twice : Program
read_into_vector_twice = program
    ([])
    (procedure 1 false false false
    (entity 2 declared.Integer (Explicit (span Absent (int 3) ∷ [])) role.Own None ∷ [])
    None
    (stmt (Read 3 ((target (ints 1) (at 0 (Subscripted (subscript (Vector (typed (ints 1) (Constructor (value (int 2) (value
    (int 2) no_item))))) no_subscript)) AllOf)) ∷ [])) no_stmt))
    ([])

-- on the input 1 2
abbrev pub ReadIntoVectorTwice : Type 0
ReadIntoVectorTwice = Comes read_into_vector_twice (49 ∷ 32 ∷ 50 ∷ 10 ∷ []) 100 (faulted fault.ManyOne 3 ([]))

--     program p
--     integer :: n
--     read *, n
--     print *, n
--     read *, n
--     end
unfoldable pub number_too_great : Program
number_too_great = program
    ([])
    (procedure 1 false false false
    (entity 2 declared.Integer Scalars role.Own None ∷ [])
    None
    (stmt (Read 3 ((target (ints 0) (at 0 Whole AllOf)) ∷ [])) (stmt (Print 4 ((typed (ints 0) (Named (at 0 Whole AllOf))) ∷
    [])) (stmt (Read 5 ((target (ints 0) (at 0 Whole AllOf)) ∷ [])) no_stmt))))
    ([])

-- on the input -2147483648, 2147483648
abbrev pub NumberTooGreat : Type 0
NumberTooGreat = Comes number_too_great (45 ∷ 50 ∷ 49 ∷ 52 ∷ 55 ∷ 52 ∷ 56 ∷ 51 ∷ 54 ∷ 52 ∷ 56 ∷ 10 ∷ 50 ∷ 49 ∷ 52 ∷ 55 ∷ 52 ∷
    56 ∷ 51 ∷ 54 ∷ 52 ∷ 56 ∷ 10 ∷ []) 100 (faulted fault.BadInput 5 ((neg 2147483648 ∷ []) ∷ []))
