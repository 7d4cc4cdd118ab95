-- Faults, and what comes before what.
use Rattle.std.specs.Prelude.{false, None, [], ◌∷◌}
use Rattle.a95_base.specs.declared.fault.FaultKind.TheVariants as fault
use Rattle.f95_unit.specs.declared.operation.BinaryOp.TheVariants as binary
use Rattle.f95_unit.specs.declared.operation.Elemental.TheVariants as elemental
use Rattle.f95_unit.specs.declared.operation.Inquiry.TheVariants as inquiry
use Rattle.f95_unit.specs.declared.operation.Rearranging.TheVariants as rearranging
use Rattle.f95_unit.specs.declared.unit.DeclaredType.TheVariants as declared
use Rattle.f95_unit.specs.declared.unit.Role.TheVariants as role
use Rattle.f95_unit.specs.Plain.{typed, Named, Binary, Constructor, Elementwise, Asked, Rearranged, at, Whole, Subscripted}
use Rattle.f95_unit.specs.Plain.{no_subscript, subscript, One, Absent, AllOf, no_item, value, no_argument, argument, Name, Assigns}
use Rattle.f95_unit.specs.Plain.{ForAll, Allocate, Deallocate, Print, no_stmt, stmt, Scalars, Explicit, Deferred, Program}
use Rattle.array_meaning.specs.Build.{ints, logs, texts, int, index_at, target, assign, triplet, forall_over, span, allocation}
use Rattle.array_meaning.specs.Build.{entity, procedure, program, faulted, Comes}

--     program p
--     integer :: a(3), i
--     forall (i = 1:3) a(i/2 + 1) = i
--     end
unfoldable pub forall_stores_twice : Program
forall_stores_twice = program
    ([])
    (procedure 1 false false false
    (entity 2 declared.Integer (Explicit (span Absent (int 3) ∷ [])) role.Own None ∷ entity 2 declared.Integer Scalars
    role.Own None ∷ [])
    None
    (stmt (ForAll (forall_over 3 (triplet (int 1) (int 3) Absent ∷ []) None (assign 3 (target (ints 0) (at 0 (Subscripted
    (subscript (One (typed (ints 0) (Binary binary.Add (typed (ints 0) (Binary binary.Divide (index_at 0) (int 2))) (int
    1)))) no_subscript)) AllOf)) (index_at 0) ∷ []))) no_stmt))
    ([])

abbrev pub ForallStoresTwice : Type 0
ForallStoresTwice = Comes forall_stores_twice ([]) 100 (faulted fault.ManyOne 3 ([]))

--     program p
--     integer :: n
--     integer, allocatable :: a(:)
--     n = 16777217
--     allocate(a(n))
--     end
unfoldable pub too_large : Program
too_large = program
    ([])
    (procedure 1 false false false
    (entity 2 declared.Integer Scalars role.Own None ∷ entity 3 declared.Integer (Deferred 1) role.Own None ∷ [])
    None
    (stmt (Assigns (assign 4 (target (ints 0) (at 0 Whole AllOf)) (int 16777217))) (stmt (Allocate 5 (allocation 1 (span
    Absent (typed (ints 0) (Named (at 0 Whole AllOf))) ∷ []) ∷ [])) no_stmt)))
    ([])

abbrev pub TooLarge : Type 0
TooLarge = Comes too_large ([]) 100 (faulted fault.TooLarge 5 ([]))

--     program p
--     integer, allocatable :: a(:)
--     print *, size(a)
--     end
unfoldable pub not_allocated : Program
not_allocated = program
    ([])
    (procedure 1 false false false
    (entity 2 declared.Integer (Deferred 1) role.Own None ∷ [])
    None
    (stmt (Print 3 ((typed (ints 0) (Asked inquiry.Size None (Name 0))) ∷ [])) no_stmt))
    ([])

abbrev pub NotAllocated : Type 0
NotAllocated = Comes not_allocated ([]) 100 (faulted fault.NotAllocated 3 ([]))

--     program p
--     integer, allocatable :: a(:)
--     allocate(a(2))
--     deallocate(a, a)
--     end
unfoldable pub deallocated_twice : Program
deallocated_twice = program
    ([])
    (procedure 1 false false false
    (entity 2 declared.Integer (Deferred 1) role.Own None ∷ [])
    None
    (stmt (Allocate 3 (allocation 0 (span Absent (int 2) ∷ []) ∷ [])) (stmt (Deallocate 4 (0 ∷ 0 ∷ [])) no_stmt)))
    ([])

abbrev pub DeallocatedTwice : Type 0
DeallocatedTwice = Comes deallocated_twice ([]) 100 (faulted fault.NotAllocated 4 ([]))

--     program p
--     integer, allocatable :: a(:)
--     allocate(a(2), a(3))
--     end
unfoldable pub allocated_already : Program
allocated_already = program
    ([])
    (procedure 1 false false false
    (entity 2 declared.Integer (Deferred 1) role.Own None ∷ [])
    None
    (stmt (Allocate 3 (allocation 0 (span Absent (int 2) ∷ []) ∷ allocation 0 (span Absent (int 3) ∷ []) ∷ [])) no_stmt))
    ([])

abbrev pub AllocatedAlready : Type 0
AllocatedAlready = Comes allocated_already ([]) 100 (faulted fault.Allocated 3 ([]))

--     program p; integer :: i; i = 256; print *, char(i); end
unfoldable pub no_character : Program
no_character = program
    ([])
    (procedure 1 false false false
    (entity 1 declared.Integer Scalars role.Own None ∷ [])
    None
    (stmt (Assigns (assign 1 (target (ints 0) (at 0 Whole AllOf)) (int 256))) (stmt (Print 1 ((typed (texts 1 0) (Elementwise
    elemental.Char (argument 0 (typed (ints 0) (Named (at 0 Whole AllOf))) no_argument))) ∷ [])) no_stmt)))
    ([])

abbrev pub NoCharacter : Type 0
NoCharacter = Comes no_character ([]) 100 (faulted fault.CharRange 1 ([]))

--     program p
--     integer :: a(3)
--     a = 1
--     print *, pack(a, a > 0, (/1,2/))
--     end
unfoldable pub vector_too_short : Program
vector_too_short = program
    ([])
    (procedure 1 false false false
    (entity 2 declared.Integer (Explicit (span Absent (int 3) ∷ [])) role.Own None ∷ [])
    None
    (stmt (Assigns (assign 3 (target (ints 1) (at 0 Whole AllOf)) (int 1))) (stmt (Print 4 ((typed (ints 1) (Rearranged
    rearranging.Pack None (argument 0 (typed (ints 1) (Named (at 0 Whole AllOf))) (argument 1 (typed (logs 1) (Binary
    binary.Greater (typed (ints 1) (Named (at 0 Whole AllOf))) (int 0))) (argument 2 (typed (ints 1) (Constructor (value
    (int 1) (value (int 2) no_item)))) no_argument))))) ∷ [])) no_stmt)))
    ([])

abbrev pub VectorTooShort : Type 0
VectorTooShort = Comes vector_too_short ([]) 100 (faulted fault.Argument 4 ([]))

--     program p
--     integer :: o(2)
--     o = 1
--     print *, reshape((/1,2,3,4/), (/2,2/), order=o)
--     end
unfoldable pub no_order : Program
no_order = program
    ([])
    (procedure 1 false false false
    (entity 2 declared.Integer (Explicit (span Absent (int 2) ∷ [])) role.Own None ∷ [])
    None
    (stmt (Assigns (assign 3 (target (ints 1) (at 0 Whole AllOf)) (int 1))) (stmt (Print 4 ((typed (ints 2) (Rearranged
    rearranging.Reshape None (argument 0 (typed (ints 1) (Constructor (value (int 1) (value (int 2) (value (int 3) (value
    (int 4) no_item)))))) (argument 1 (typed (ints 1) (Constructor (value (int 2) (value (int 2) no_item)))) (argument 3
    (typed (ints 1) (Named (at 0 Whole AllOf))) no_argument))))) ∷ [])) no_stmt)))
    ([])

abbrev pub NoOrder : Type 0
NoOrder = Comes no_order ([]) 100 (faulted fault.Argument 4 ([]))

--     program p
--     integer :: n
--     n = 3
--     print *, reshape((/1,2/), (/n/))
--     end
unfoldable pub too_few_elements : Program
too_few_elements = program
    ([])
    (procedure 1 false false false
    (entity 2 declared.Integer Scalars role.Own None ∷ [])
    None
    (stmt (Assigns (assign 3 (target (ints 0) (at 0 Whole AllOf)) (int 3))) (stmt (Print 4 ((typed (ints 1) (Rearranged
    rearranging.Reshape None (argument 0 (typed (ints 1) (Constructor (value (int 1) (value (int 2) no_item)))) (argument 1
    (typed (ints 1) (Constructor (value (typed (ints 0) (Named (at 0 Whole AllOf))) no_item))) no_argument)))) ∷ []))
    no_stmt)))
    ([])

abbrev pub TooFewElements : Type 0
TooFewElements = Comes too_few_elements ([]) 100 (faulted fault.Argument 4 ([]))
