-- Small units whose text fits, and some whose text doesn't.
use Rattle.std.specs.Prelude.{true, [], ◌∷◌}
use Rattle.a95_base.specs.declared.scalar.Scalar.TheVariants as scalar
use Rattle.nest_tree.specs.declared.access.Name.TheVariants as name
use Rattle.nest_tree.specs.declared.unit.Role.TheVariants as role
use Rattle.nest_tree.specs.declared.unit.Sort.TheVariants as sort
use Rattle.nest_tree.specs.Plain.{Literal, Set, Whole, Call, Exit, NestUnit}
use Rattle.nest_tree.specs.Build.{int, access, piece, integers, procedure, unit_of}
use Rattle.nest_tree.specs.Sound.{FitsUnit}
use Rattle.nest_tree.specs.StoresRows.{whole_row}
use Rattle.nest_tree.specs.ControlRows.{steps_of_four}
use Rattle.nest_tree.specs.CallsRows.{elemental_reference}

abbrev pub WholeRowFits : Type 0
WholeRowFits = FitsUnit whole_row

abbrev pub StepsOfFourFit : Type 0
StepsOfFourFit = FitsUnit steps_of_four

abbrev pub ElementalReferenceFits : Type 0
ElementalReferenceFits = FitsUnit elemental_reference

-- a value that was passed is stored into
unfoldable pub value_stored : NestUnit
value_stored =
    unit_of (procedure [] [] [] 0 []) (procedure (integers 0 (role.Value 0) ∷ []) [] [] 0 (piece 2 (access (name.Own 0) []) (int 1)
    ∷ []) ∷ [])

abbrev pub ValueStored : Type 0
ValueStored = FitsUnit value_stored → ⊥

-- a loop is left that isn't there
unfoldable pub no_loop_left : NestUnit
no_loop_left = unit_of (procedure [] [] [] 0 (Exit 0 ∷ [])) []

abbrev pub NoLoopLeft : Type 0
NoLoopLeft = FitsUnit no_loop_left → ⊥

-- a scalar for an INTEGER takes a truth value
unfoldable pub wrong_sort : NestUnit
wrong_sort = unit_of (procedure [] (sort.Int ∷ []) [] 0 (Set 1 0 (Literal (scalar.Log true)) ∷ [])) []

abbrev pub WrongSort : Type 0
WrongSort = FitsUnit wrong_sort → ⊥

-- one array is passed to two dummies that are modified
unfoldable pub passed_twice : NestUnit
passed_twice =
    unit_of (procedure (integers 1 role.Own ∷ []) [] [] 0 (Call 1 0 (Whole (name.Own 0) ∷ Whole (name.Own 0) ∷ []) ∷ []))
    (procedure (integers 1 (role.Whole 0 true) ∷ integers 1 (role.Whole 1 true) ∷ []) [] [] 0 [] ∷ [])

abbrev pub PassedTwice : Type 0
PassedTwice = FitsUnit passed_twice → ⊥
