-- Assignments of whole arrays, sections, texts and scalars, and initial values.
use Rattle.std.specs.Prelude.{false, Some, None, [], ◌∷◌}
use Rattle.f95_unit.specs.declared.operation.BinaryOp.TheVariants as binary
use Rattle.f95_unit.specs.declared.operation.Reduction.TheVariants as reduction
use Rattle.f95_unit.specs.declared.unit.DeclaredType.TheVariants as declared
use Rattle.f95_unit.specs.declared.unit.Role.TheVariants as role
use Rattle.f95_unit.specs.Plain.{typed, Named, Binary, Constructor, Reduced, at, Whole, Subscripted, no_subscript, subscript, One}
use Rattle.f95_unit.specs.Plain.{Absent, AllOf, no_item, value, loop, no_argument, argument, Assigns, ForAll, Print, no_stmt, stmt}
use Rattle.f95_unit.specs.Plain.{Scalars, Explicit, Program}
use Rattle.array_meaning.specs.Build.{ints, logs, int, index_at, target, assign, triplet, forall_over, span, entity, procedure}
use Rattle.array_meaning.specs.Build.{program, num, ended, Comes}

--     program trial
--     integer :: a(64), b(64), c(64)
--     integer :: i
--     a = (/ (i, i = 1, 64) /)
--     b = a * 3
--     c = 64 - a
--     forall (i = 1:64, b(i) > 5) b(i) = c(65-i) * 2
--     print *, sum(a), sum(b), sum(c)
--     end program trial
unfoldable pub trial_of_one : Program
trial_of_one = program
    ([])
    (procedure 1 false false false
    (entity 2 declared.Integer (Explicit (span Absent (int 64) ∷ [])) role.Own None ∷ entity 2 declared.Integer (Explicit
    (span Absent (int 64) ∷ [])) role.Own None ∷ entity 2 declared.Integer (Explicit (span Absent (int 64) ∷ [])) role.Own
    None ∷ entity 3 declared.Integer Scalars role.Own None ∷ [])
    None
    (stmt (Assigns (assign 4 (target (ints 1) (at 0 Whole AllOf)) (typed (ints 1) (Constructor (loop (value (index_at 0)
    no_item) (int 1) (int 64) Absent no_item))))) (stmt (Assigns (assign 5 (target (ints 1) (at 1 Whole AllOf)) (typed
    (ints 1) (Binary binary.Multiply (typed (ints 1) (Named (at 0 Whole AllOf))) (int 3))))) (stmt (Assigns (assign 6
    (target (ints 1) (at 2 Whole AllOf)) (typed (ints 1) (Binary binary.Subtract (int 64) (typed (ints 1) (Named (at 0
    Whole AllOf))))))) (stmt (ForAll (forall_over 7 (triplet (int 1) (int 64) Absent ∷ []) (Some (typed (logs 0) (Binary
    binary.Greater (typed (ints 0) (Named (at 1 (Subscripted (subscript (One (index_at 0)) no_subscript)) AllOf))) (int
    5)))) (assign 7 (target (ints 0) (at 1 (Subscripted (subscript (One (index_at 0)) no_subscript)) AllOf)) (typed (ints
    0) (Binary binary.Multiply (typed (ints 0) (Named (at 2 (Subscripted (subscript (One (typed (ints 0) (Binary
    binary.Subtract (int 65) (index_at 0)))) no_subscript)) AllOf))) (int 2))) ∷ []))) (stmt (Print 8 ((typed (ints 0)
    (Reduced reduction.Sum None (argument 0 (typed (ints 1) (Named (at 0 Whole AllOf))) no_argument))) ∷ (typed (ints 0)
    (Reduced reduction.Sum None (argument 0 (typed (ints 1) (Named (at 1 Whole AllOf))) no_argument))) ∷ (typed (ints 0)
    (Reduced reduction.Sum None (argument 0 (typed (ints 1) (Named (at 2 Whole AllOf))) no_argument))) ∷ [])) no_stmt))))))
    ([])

abbrev pub TrialOfOne : Type 0
TrialOfOne = Comes trial_of_one ([]) 100 (ended ((num 2080 ∷ num 4035 ∷ num 2016 ∷ []) ∷ []))
