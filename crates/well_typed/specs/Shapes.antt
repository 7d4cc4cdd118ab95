-- What is known of a shape before a run: the rank, and for each dimension the extent where the source alone tells it.
use Rattle.std.specs.Prelude.{ℕ, ◌==◌, max, nat_lt, Bool, false, not, ◌&&◌, ◌||◌, List, [], ◌∷◌, length, fold, Option, Some, None}
use Rattle.std.specs.List.{list_all}
use Rattle.a95_base.specs.declared.scalar.Kind.{Kind}
use Rattle.constant_operators.specs.declared.value.Facts.{Facts as Scalars}
use Rattle.constant_operators.specs.Operators.{is_kind, facts_of}
use Rattle.f95_unit.specs.declared.facts.Facts.{Facts}

-- for each dimension the extent, where it is known
abbrev pub Extents : Type 0
Extents = List (Option ℕ)

abbrev pub facts : Kind → Option ℕ → Extents → Facts
facts k n extents = record { kind = k; length = n; extents = extents }

abbrev pub rank : Facts → ℕ
rank f = length f.extents

-- what is known of each element
abbrev pub each : Facts → Scalars
each f = facts_of f.kind f.length

abbrev pub is_of : Kind → Facts → Bool
is_of k f = is_kind k f.kind

abbrev pub is_scalar : Facts → Bool
is_scalar f = rank f == 0

abbrev pub is_array : Facts → Bool
is_array f = nat_lt 0 (rank f)

abbrev pub is_scalar_of : Kind → Facts → Bool
is_scalar_of k f = is_of k f && is_scalar f

abbrev pub is_array_of : Kind → Facts → Bool
is_array_of k f = is_of k f && is_array f

abbrev pub is_vector_of : Kind → Facts → Bool
is_vector_of k f = is_of k f && rank f == 1

-- ---- shapes that must conform: a scalar conforms with all

abbrev pub ranks_fit : Extents → Extents → Bool
ranks_fit ms ns = length ms == 0 || (length ns == 0 || length ms == length ns)

-- both are known, and not the same
abbrev pub are_other : Option ℕ → Option ℕ → Bool
are_other None n = false
are_other (Some m) None = false
are_other (Some m) (Some n) = not (m == n)

-- an extent that both have is known where one of them is
abbrev pub known_of : Option ℕ → Option ℕ → Option ℕ
known_of None n = n
known_of (Some m) n = Some m

-- known extents differ in some dimension
abbrev pub differ : Extents → Extents → Bool
differ [] ns = false
differ (m ∷ ms) [] = false
differ (m ∷ ms) (n ∷ ns) = are_other m n || differ ms ns

abbrev pub joint : Extents → Extents → Extents
joint [] ns = ns
joint (m ∷ ms) [] = m ∷ ms
joint (m ∷ ms) (n ∷ ns) = known_of m n ∷ joint ms ns

-- all of them are scalars, or arrays of one rank
abbrev pub greatest_rank : List Extents → ℕ
greatest_rank shapes = fold (λ n ms. max n (length ms)) 0 shapes

abbrev pub all_have_rank : ℕ → List Extents → Bool
all_have_rank n shapes = list_all (λ ms. length ms == 0 || length ms == n) shapes

abbrev pub all_ranks_fit : List Extents → Bool
all_ranks_fit shapes = all_have_rank (greatest_rank shapes) shapes

abbrev pub joint_of : List Extents → Extents
joint_of shapes = fold joint [] shapes

abbrev pub differ_from : Extents → List Extents → Bool
differ_from before [] = false
differ_from before (ms ∷ more) = differ before ms || differ_from (joint before ms) more

abbrev pub some_differ : List Extents → Bool
some_differ shapes = differ_from [] shapes
