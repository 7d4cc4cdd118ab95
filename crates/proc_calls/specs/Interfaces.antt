-- What a reference sees of a procedure: whether it is a function, its prefixes, and its dummies in their places.
use Rattle.std.specs.Prelude.{ℕ, ◌+◌, if◌then◌else◌, Bool, true, false, ◌||◌, Option, Some, None, is_some, List, [], ◌∷◌, map}
use Rattle.std.specs.Prelude.{length, replicate, slice_set}
use Rattle.a95_base.specs.declared.scalar.Kind.{Kind}
use Rattle.a95_base.specs.declared.scalar.Kind.TheVariants as kind
use Rattle.f95_unit.specs.declared.unit.DeclaredType.{DeclaredType}
use Rattle.f95_unit.specs.declared.unit.DeclaredType.TheVariants as declared_type
use Rattle.f95_unit.specs.declared.unit.Length.TheVariants as long
use Rattle.f95_unit.specs.declared.unit.Role.{Role}
use Rattle.f95_unit.specs.declared.unit.Role.TheVariants as role
use Rattle.f95_unit.specs.declared.unit.Intent.{Intent}
use Rattle.f95_unit.specs.Plain.{Bounds, Scalars, Explicit, Assumed, Deferred, Entity, Procedure, Program}
use Rattle.proc_calls.specs.declared.interface.Dummy.{Dummy}
use Rattle.proc_calls.specs.declared.interface.Interface.{Interface}

abbrev pub kind_of : DeclaredType → Kind
kind_of declared_type.Integer = kind.Int
kind_of declared_type.Logical = kind.Log
kind_of (declared_type.Character l) = kind.Text

-- a length is known where it is declared as a number
abbrev pub known_length : DeclaredType → Option ℕ
known_length (declared_type.Character (long.Fixed n)) = Some n
known_length (declared_type.Character long.Assumed) = None
known_length declared_type.Integer = None
known_length declared_type.Logical = None

abbrev pub rank_of : Bounds → ℕ
rank_of Scalars = 0
rank_of (Explicit spans) = length spans
rank_of (Assumed lowers) = length lowers
rank_of (Deferred rank) = rank

abbrev pub is_dummy : Role → Bool
is_dummy role.Own = false
is_dummy (role.Dummy place intent) = true

abbrev pub dummy_count : List Entity → ℕ
dummy_count [] = 0
dummy_count (e ∷ more) = (if is_dummy e.role then 1 else 0) + dummy_count more

abbrev pub dummy_of : DeclaredType → Bounds → Intent → Dummy
dummy_of of bounds intent = record { kind = kind_of of; length = known_length of; rank = rank_of bounds; intent = intent }

-- a dummy at its place in the list of dummies; other variables have none
abbrev pub placed : Role → DeclaredType → Bounds → List (Option Dummy) → List (Option Dummy)
placed role.Own of bounds dummies = dummies
placed (role.Dummy place intent) of bounds dummies = slice_set dummies place (Some (dummy_of of bounds intent))

abbrev pub all_placed : List Entity → List (Option Dummy) → List (Option Dummy)
all_placed [] dummies = dummies
all_placed (e ∷ more) dummies = all_placed more (placed e.role e.of e.bounds dummies)

-- the dummies, each at its place
abbrev pub dummies_of : List Entity → List (Option Dummy)
dummies_of entities = all_placed entities (replicate (dummy_count entities) None)

-- a procedure is pure where it is PURE or ELEMENTAL
abbrev pub is_pure : Procedure → Bool
is_pure p = p.pure || p.elemental

abbrev pub interface_of : Procedure → Interface
interface_of p = record { function = is_some p.result; pure = is_pure p; elemental = p.elemental; dummies = dummies_of p.entities }

abbrev pub interfaces_of : Program → List Interface
interfaces_of u = map interface_of u.procedures
