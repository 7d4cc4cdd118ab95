-- The intrinsic functions: which arguments each one takes, which shapes of them must conform, and what its value is.
use Rattle.std.specs.Prelude.{ℕ, ℤ, pos, negsuc, zero, suc, ◌+◌, ◌==◌, nat_le, nat_lt, Bool, true, false, not, ◌&&◌, ◌||◌}
use Rattle.std.specs.Prelude.{if◌then◌else◌}
use Rattle.std.specs.Prelude.{List, [], ◌∷◌, ◌++◌, length, map, take, drop, reverse, replicate, Option, Some, None, slice_index_or}
use Rattle.std.specs.List.{list_any, find}
use Rattle.std.specs.Option.{is_some}
use Rattle.a95_base.specs.declared.scalar.Kind.{Kind}
use Rattle.a95_base.specs.declared.scalar.Kind.TheVariants as kind
use Rattle.a95_base.specs.Limits.{greatest_rank as most_dimensions}
use Rattle.constant_operators.specs.declared.value.Facts.{Facts as Scalars}
use Rattle.constant_operators.specs.declared.value.Worth.TheVariants.{Unknown}
use Rattle.constant_operators.specs.Operators.{is_kind, valued_as}
use Rattle.names_types.specs.Constants.{Seen, elemental_facts}
use Rattle.f95_unit.specs.declared.facts.Facts.{Facts}
use Rattle.well_typed.specs.declared.known.Given.{Given}
use Rattle.f95_unit.specs.declared.operation.Elemental.{Elemental}
use Rattle.f95_unit.specs.declared.operation.Inquiry.{Inquiry}
use Rattle.f95_unit.specs.declared.operation.Inquiry.TheVariants as inquiry
use Rattle.f95_unit.specs.declared.operation.Reduction.{Reduction}
use Rattle.f95_unit.specs.declared.operation.Reduction.TheVariants as reduction
use Rattle.f95_unit.specs.declared.operation.Rearranging.{Rearranging}
use Rattle.f95_unit.specs.declared.operation.Rearranging.TheVariants as rearranging
use Rattle.well_typed.specs.Shapes.{Extents, facts, rank, each, is_of, is_scalar, is_array, is_scalar_of, is_array_of, is_vector_of}
use Rattle.well_typed.specs.Shapes.{differ, are_other, all_ranks_fit, joint_of, some_differ}
use Rattle.well_typed.specs.Operations.{intrinsic_of}
use Rattle.well_typed.specs.declared.family.Family.{Family}
use Rattle.well_typed.specs.declared.family.Family.TheVariants.{ByElement, Trimming, Asking, Reducing, Moving}

abbrev pub a_scalar : Kind → Facts
a_scalar k = facts k None []

abbrev pub an_integer : Facts
an_integer = a_scalar kind.Int

abbrev pub a_truth : Facts
a_truth = a_scalar kind.Log

abbrev pub given_at : ℕ → List Given → Option Given
given_at place gs = find (λ (g : Given). g.place == place) gs

abbrev pub facts_in : Option Given → Facts
facts_in None = an_integer
facts_in (Some g) = g.facts

abbrev pub at : ℕ → List Given → Facts
at place gs = facts_in (given_at place gs)

abbrev pub is_given : ℕ → List Given → Bool
is_given place gs = is_some (given_at place gs)

-- a test of an argument that may be absent
abbrev pub where_given : ℕ → List Given → (Facts → Bool) → Bool
where_given place gs test = not (is_given place gs) || test (at place gs)

abbrev pub shapes : List Given → List Extents
shapes gs = map (λ (g : Given). g.facts.extents) gs

abbrev pub is_like : Facts → Facts → Bool
is_like f g = is_kind f.kind g.kind

-- INTEGER or LOGICAL
abbrev pub is_no_text : Facts → Bool
is_no_text f = not (is_of kind.Text f)

-- DIM is from 1 to the rank, or absent
abbrev pub dim_fits : Option ℕ → ℕ → Bool
dim_fits None n = true
dim_fits (Some d) n = nat_le 1 d && nat_le d n

-- a LOGICAL mask of that rank, or a scalar
abbrev pub is_mask_for : Facts → Facts → Bool
is_mask_for f m = is_of kind.Log m && (is_scalar m || rank m == rank f)

-- ---- elemental functions

abbrev pub seen : Given → Seen
seen g = (g.place, valued_as (each g.facts) Unknown)

abbrev pub element_facts : Elemental → List Given → Option Scalars
element_facts which gs = elemental_facts (intrinsic_of which) (map seen gs)

abbrev pub element_takes : Elemental → List Given → Bool
element_takes which gs = is_some (element_facts which gs) && all_ranks_fit (shapes gs)

abbrev pub shaped : Extents → Option Scalars → Facts
shaped extents None = facts kind.Int None extents
shaped extents (Some f) = facts f.kind f.length extents

-- ---- functions that ask

abbrev pub asks_rightly : Inquiry → Option ℕ → List Given → Bool
asks_rightly inquiry.Size d gs = is_array (at 0 gs) && dim_fits d (rank (at 0 gs))
asks_rightly inquiry.Shape d gs = true
asks_rightly inquiry.Lbound d gs = is_array (at 0 gs) && dim_fits d (rank (at 0 gs))
asks_rightly inquiry.Ubound d gs = is_array (at 0 gs) && dim_fits d (rank (at 0 gs))
asks_rightly inquiry.Allocated d gs = list_any (λ (g : Given). g.allocatable) gs
asks_rightly inquiry.Len d gs = is_of kind.Text (at 0 gs)

-- one INTEGER for each dimension, or that of one
abbrev pub for_each_dimension : ℕ → Facts
for_each_dimension n = facts kind.Int None (Some n ∷ [])

abbrev pub by_dimension : Option ℕ → Facts → Facts
by_dimension None f = for_each_dimension (rank f)
by_dimension (Some d) f = an_integer

abbrev pub answer : Inquiry → Option ℕ → List Given → Facts
answer inquiry.Size d gs = an_integer
answer inquiry.Shape d gs = by_dimension None (at 0 gs)
answer inquiry.Lbound d gs = by_dimension d (at 0 gs)
answer inquiry.Ubound d gs = by_dimension d (at 0 gs)
answer inquiry.Allocated d gs = a_truth
answer inquiry.Len d gs = an_integer

-- ---- reductions

abbrev pub is_fold : Kind → Option ℕ → Facts → Bool
is_fold k d f = is_array_of k f && dim_fits d (rank f)

-- ARRAY, DIM and MASK
abbrev pub folds_rightly : Option ℕ → List Given → Bool
folds_rightly d gs = is_fold kind.Int d (at 0 gs) && where_given 2 gs (is_mask_for (at 0 gs))

abbrev pub finds_rightly : List Given → Bool
finds_rightly gs = is_array_of kind.Int (at 0 gs) && where_given 1 gs (is_mask_for (at 0 gs))

abbrev pub are_factor_ranks : ℕ → ℕ → Bool
are_factor_ranks m n = (m == 2 && n == 2) || ((m == 1 && n == 2) || (m == 2 && n == 1))

abbrev pub multiplies_rightly : List Given → Bool
multiplies_rightly gs =
    is_no_text (at 0 gs) && (is_like (at 0 gs) (at 1 gs) && are_factor_ranks (rank (at 0 gs)) (rank (at 1 gs)))

abbrev pub dots_rightly : List Given → Bool
dots_rightly gs = rank (at 0 gs) == 1 && (is_no_text (at 0 gs) && is_vector_of (at 0 gs).kind (at 1 gs))

abbrev pub reduces_rightly : Reduction → Option ℕ → List Given → Bool
reduces_rightly reduction.Sum d gs = folds_rightly d gs
reduces_rightly reduction.Product d gs = folds_rightly d gs
reduces_rightly reduction.Maxval d gs = folds_rightly d gs
reduces_rightly reduction.Minval d gs = folds_rightly d gs
reduces_rightly reduction.All d gs = is_fold kind.Log d (at 0 gs)
reduces_rightly reduction.Any d gs = is_fold kind.Log d (at 0 gs)
reduces_rightly reduction.Count d gs = is_fold kind.Log d (at 0 gs)
reduces_rightly reduction.Maxloc d gs = finds_rightly gs
reduces_rightly reduction.Minloc d gs = finds_rightly gs
reduces_rightly reduction.DotProduct d gs = dots_rightly gs
reduces_rightly reduction.Matmul d gs = multiplies_rightly gs

abbrev pub last_of : Extents → Option ℕ
last_of extents = slice_index_or (reverse extents) 0 None

abbrev pub first_of : Extents → Option ℕ
first_of extents = slice_index_or extents 0 None

abbrev pub without_last : Extents → Extents
without_last extents = reverse (drop 1 (reverse extents))

-- the last extent of the first factor is the first one of the second
abbrev pub factors_differ : List Given → Bool
factors_differ gs = are_other (last_of (at 0 gs).extents) (first_of (at 1 gs).extents)

abbrev pub reduces_others : Reduction → List Given → Bool
reduces_others reduction.Matmul gs = factors_differ gs
reduces_others which gs = some_differ (shapes gs)

abbrev pub without_at : ℕ → Extents → Extents
without_at k extents = take k extents ++ drop (suc k) extents

-- a scalar, or with DIM an array that lacks the dimension
abbrev pub without_dim : Option ℕ → Extents → Extents
without_dim None extents = []
without_dim (Some zero) extents = extents
without_dim (Some (suc k)) extents = without_at k extents

abbrev pub product_extents : List Given → Extents
product_extents gs = without_last (at 0 gs).extents ++ drop 1 (at 1 gs).extents

abbrev pub folded : Kind → Option ℕ → List Given → Facts
folded k d gs = facts k None (without_dim d (at 0 gs).extents)

abbrev pub reduced : Reduction → Option ℕ → List Given → Facts
reduced reduction.All d gs = folded kind.Log d gs
reduced reduction.Any d gs = folded kind.Log d gs
reduced reduction.Maxloc d gs = by_dimension None (at 0 gs)
reduced reduction.Minloc d gs = by_dimension None (at 0 gs)
reduced reduction.DotProduct d gs = facts (at 0 gs).kind None []
reduced reduction.Matmul d gs = facts (at 0 gs).kind None (product_extents gs)
reduced which d gs = folded kind.Int d gs

-- ---- rearrangements

abbrev pub shifts_rightly : Option ℕ → List Given → Bool
shifts_rightly d gs =
    is_array (at 0 gs) && (is_no_text (at 0 gs) && (is_scalar_of kind.Int (at 1 gs) && dim_fits d (rank (at 0 gs))))

abbrev pub spreads_rightly : Option ℕ → List Given → Bool
spreads_rightly d gs = is_no_text (at 0 gs) && (nat_lt (rank (at 0 gs)) most_dimensions
    && (is_scalar_of kind.Int (at 2 gs) && (is_some d && dim_fits d (rank (at 0 gs) + 1))))

-- the extent of an array of rank one, where it is known
abbrev pub only_extent : Extents → Option ℕ
only_extent (n ∷ []) = n
only_extent other = None

-- the extent of SHAPE is known, and from 1 to 7
abbrev pub is_shape : Option ℕ → Bool
is_shape None = false
is_shape (Some n) = nat_le 1 n && nat_le n most_dimensions

-- ORDER has the extent of SHAPE, which is known
abbrev pub is_order_for : Option ℕ → Option ℕ → Bool
is_order_for None m = false
is_order_for (Some n) None = false
is_order_for (Some n) (Some m) = n == m

abbrev pub may_pad : List Given → Bool
may_pad gs = where_given 2 gs (is_array_of (at 0 gs).kind)

abbrev pub may_order : List Given → Bool
may_order gs =
    where_given 3 gs (λ f. is_of kind.Int f && is_order_for (only_extent (at 1 gs).extents) (only_extent f.extents))

abbrev pub reshapes_rightly : List Given → Bool
reshapes_rightly gs = is_array (at 0 gs) && (is_no_text (at 0 gs) && (is_of kind.Int (at 1 gs)
    && (is_shape (only_extent (at 1 gs).extents) && (may_pad gs && may_order gs))))

abbrev pub may_bound : List Given → Bool
may_bound gs = where_given 2 gs (is_scalar_of (at 0 gs).kind)

abbrev pub packs_rightly : List Given → Bool
packs_rightly gs = is_array (at 0 gs) && (is_no_text (at 0 gs) && (is_mask_for (at 0 gs) (at 1 gs)
    && where_given 2 gs (is_vector_of (at 0 gs).kind)))

abbrev pub unpacks_rightly : List Given → Bool
unpacks_rightly gs = rank (at 0 gs) == 1 && (is_no_text (at 0 gs) && (is_array_of kind.Log (at 1 gs)
    && (is_like (at 0 gs) (at 2 gs) && (is_scalar (at 2 gs) || rank (at 2 gs) == rank (at 1 gs)))))

abbrev pub moves_rightly : Rearranging → Option ℕ → List Given → Bool
moves_rightly rearranging.Transpose d gs = rank (at 0 gs) == 2 && is_no_text (at 0 gs)
moves_rightly rearranging.Cshift d gs = shifts_rightly d gs
moves_rightly rearranging.Eoshift d gs = shifts_rightly d gs && may_bound gs
moves_rightly rearranging.Spread d gs = spreads_rightly d gs
moves_rightly rearranging.Pack d gs = packs_rightly gs
moves_rightly rearranging.Unpack d gs = unpacks_rightly gs
moves_rightly rearranging.Reshape d gs = reshapes_rightly gs

abbrev pub moves_others : Rearranging → List Given → Bool
moves_others rearranging.Pack gs = differ (at 0 gs).extents (at 1 gs).extents
moves_others rearranging.Unpack gs = differ (at 1 gs).extents (at 2 gs).extents
moves_others which gs = false

-- MAX(NCOPIES, 0), where NCOPIES is known
abbrev pub at_least_none : Option ℤ → Option ℕ
at_least_none None = None
at_least_none (Some (pos n)) = Some n
at_least_none (Some (negsuc n)) = Some 0

abbrev pub copies : Option Given → Option ℕ
copies None = None
copies (Some g) = at_least_none g.known

abbrev pub with_at : ℕ → Option ℕ → Extents → Extents
with_at k n extents = take k extents ++ (n ∷ drop k extents)

abbrev pub with_dim : Option ℕ → Option ℕ → Extents → Extents
with_dim None n extents = extents
with_dim (Some zero) n extents = extents
with_dim (Some (suc k)) n extents = with_at k n extents

-- an entry of SHAPE, where it is known and not negative
abbrev pub extent_in : Option ℤ → Option ℕ
extent_in None = None
extent_in (Some (pos n)) = Some n
extent_in (Some (negsuc n)) = None

abbrev pub reshaped_to : ℕ → List (Option ℤ) → Extents
reshaped_to n entries = if length entries == n then map extent_in entries else replicate n None

abbrev pub reshaped_by : Option ℕ → List (Option ℤ) → Extents
reshaped_by None entries = []
reshaped_by (Some n) entries = reshaped_to n entries

abbrev pub reshaped : Option Given → Extents
reshaped None = []
reshaped (Some g) = reshaped_by (only_extent g.facts.extents) g.entries

abbrev pub packed : List Given → Extents
packed gs = if is_given 2 gs then (at 2 gs).extents else None ∷ []

abbrev pub moved_extents : Rearranging → Option ℕ → List Given → Extents
moved_extents rearranging.Transpose d gs = reverse (at 0 gs).extents
moved_extents rearranging.Spread d gs = with_dim d (copies (given_at 2 gs)) (at 0 gs).extents
moved_extents rearranging.Pack d gs = packed gs
moved_extents rearranging.Unpack d gs = (at 1 gs).extents
moved_extents rearranging.Reshape d gs = reshaped (given_at 1 gs)
moved_extents which d gs = (at 0 gs).extents

abbrev pub moved : Rearranging → Option ℕ → List Given → Facts
moved which d gs = facts (at 0 gs).kind None (moved_extents which d gs)

-- ---- all

-- the arguments are as the function takes them
abbrev pub takes : Family → Option ℕ → List Given → Bool
takes (ByElement which) d gs = element_takes which gs
takes Trimming d gs = is_scalar_of kind.Text (at 0 gs)
takes (Asking which) d gs = asks_rightly which d gs
takes (Reducing which) d gs = reduces_rightly which d gs
takes (Moving which) d gs = moves_rightly which d gs

-- known extents that must be the same differ
abbrev pub has_others : Family → List Given → Bool
has_others (ByElement which) gs = some_differ (shapes gs)
has_others Trimming gs = false
has_others (Asking which) gs = false
has_others (Reducing which) gs = reduces_others which gs
has_others (Moving which) gs = moves_others which gs

abbrev pub value_facts : Family → Option ℕ → List Given → Facts
value_facts (ByElement which) d gs = shaped (joint_of (shapes gs)) (element_facts which gs)
value_facts Trimming d gs = a_scalar kind.Text
value_facts (Asking which) d gs = answer which d gs
value_facts (Reducing which) d gs = reduced which d gs
value_facts (Moving which) d gs = moved which d gs
