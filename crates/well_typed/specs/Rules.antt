-- The rules on types, ranks and shapes: which questions break each of them. Where kinds and ranks don't fit, known extents aren't
-- compared.
use Rattle.std.specs.Prelude.{ℕ, ◌+◌, ◌==◌, nat_lt, Bool, true, false, not, ◌&&◌, ◌||◌, List, [], ◌∷◌, ◌++◌, length, Option, Some}
use Rattle.std.specs.Prelude.{None}
use Rattle.std.specs.List.{list_any, list_all}
use Rattle.std.specs.Option.{is_some, is_none}
use Rattle.std.specs.Ordering.{is_le}
use Rattle.a95_base.specs.declared.scalar.Scalar.{Scalar}
use Rattle.a95_base.specs.declared.scalar.Scalar.TheVariants as scalar
use Rattle.a95_base.specs.declared.scalar.Kind.{Kind}
use Rattle.a95_base.specs.declared.scalar.Kind.TheVariants as kind
use Rattle.a95_base.specs.Limits.{greatest_rank as most_dimensions}
use Rattle.a95_base.specs.Rules.{wrong_kind_or_rank, extents_differ, wrong_intrinsic_arguments, wrong_designator, wrong_store}
use Rattle.a95_base.specs.Rules.{wrong_case, wrong_mask, wrong_forall, wrong_constructor, wrong_read_item}
use Rattle.constant_operators.specs.declared.value.Worth.{Worth}
use Rattle.constant_operators.specs.declared.value.Worth.TheVariants.{Is, Spoilt, Unknown}
use Rattle.constant_operators.specs.Operators.{is_kind, operator_facts, sign_facts, compared, are_equivalent}
use Rattle.f95_tree.specs.Forms.{Word}
use Rattle.f95_tree.specs.declared.terminal.Operator.{Operator}
use Rattle.intrinsic_table.specs.Finding.{is_word}
use Rattle.f95_unit.specs.declared.facts.Facts.{Facts}
use Rattle.f95_unit.specs.Plain.{Access, Whole, Subscripted, Part, AllOf, BytesOf}
use Rattle.well_typed.specs.Shapes.{Extents, rank, each, is_of, is_scalar, is_scalar_of, is_array_of, is_vector_of, ranks_fit}
use Rattle.well_typed.specs.Shapes.{differ, some_differ}
use Rattle.well_typed.specs.Intrinsics.{takes, has_others}
use Rattle.well_typed.specs.Questions.{Question, Operates, Signs, Bounds, Counts, Subscripts}
use Rattle.well_typed.specs.Questions.{Cuts, Gathers, Refers, Misrefers, Spreads, Assigns, Decides, Selects, Stores, Allocates}
use Rattle.well_typed.specs.Questions.{Frees, Matches, Shares, Masks, Fills, Heads, Ranges, Targets, Takes}
use Rattle.well_typed.specs.declared.known.Variable.{Variable}
use Rattle.well_typed.specs.declared.asked.Listed.{Listed}
use Rattle.well_typed.specs.declared.asked.Range.{Range}
use Rattle.well_typed.specs.declared.asked.Listed.TheVariants.{Keyed, Plain, Ranged}

-- ---- rule 31: kinds or ranks don't fit

abbrev pub operands_fit : Operator → Facts → Facts → Bool
operands_fit op f g = is_some (operator_facts op (each f) (each g)) && ranks_fit f.extents g.extents

-- the value has the target's kind, and is a scalar or has its rank
abbrev pub value_fits : Facts → Facts → Bool
value_fits target value = is_kind target.kind value.kind && (is_scalar value || rank value == rank target)

abbrev pub is_counter : Option Variable → Bool
is_counter None = false
is_counter (Some v) = is_kind kind.Int v.kind && length v.dims == 0

abbrev pub has_wrong_kinds : Question → Bool
has_wrong_kinds (Operates op f g) = not (operands_fit op f g)
has_wrong_kinds (Signs s f) = is_none (sign_facts s (each f))
has_wrong_kinds (Bounds f) = not (is_scalar_of kind.Int f)
has_wrong_kinds (Counts v) = not (is_counter v)
has_wrong_kinds (Assigns target value) = not (value_fits target value)
has_wrong_kinds (Decides f) = not (is_scalar_of kind.Log f)
has_wrong_kinds (Selects f) = not (is_scalar f)
has_wrong_kinds other = false

-- ---- rule 37: a WHERE mask isn't a LOGICAL array, or an assigned variable in it isn't an array of its rank; nor is the mask in
-- a WHERE of the rank of those around

abbrev pub has_rank_around : Option Extents → Facts → Bool
has_rank_around None f = true
has_rank_around (Some extents) f = length extents == rank f

abbrev pub has_wrong_mask : Question → Bool
has_wrong_mask (Masks around f) = not (is_array_of kind.Log f && has_rank_around around f)
has_wrong_mask (Fills around f) = not (has_rank_around around f)
has_wrong_mask other = false

-- ---- rule 33: the arguments of an intrinsic aren't as its table has them

abbrev pub has_wrong_arguments : Question → Bool
has_wrong_arguments (Refers which dim gs) = not (takes which dim gs)
has_wrong_arguments Misrefers = true
has_wrong_arguments other = false

-- ---- rule 32: known extents that must conform differ

abbrev pub differs_from : Option Extents → Extents → Bool
differs_from None extents = false
differs_from (Some around) extents = differ around extents

abbrev pub has_other_extents : Question → Bool
has_other_extents (Operates op f g) = operands_fit op f g && differ f.extents g.extents
has_other_extents (Refers which dim gs) = takes which dim gs && has_others which gs
has_other_extents (Spreads shapes) = some_differ shapes
has_other_extents (Assigns target value) = value_fits target value && differ value.extents target.extents
has_other_extents (Masks around f) = is_array_of kind.Log f && (has_rank_around around f && differs_from around f.extents)
has_other_extents (Fills around f) = has_rank_around around f && differs_from around f.extents
has_other_extents other = false

-- ---- rule 34: the number of subscripts, or of bounds in ALLOCATE, isn't the rank; a substring is taken of something that isn't a
-- CHARACTER variable or an element or section of one; a subscript isn't an INTEGER scalar, triplet or rank-one array; ALLOCATE or
-- DEALLOCATE names something that isn't an allocatable array

abbrev pub is_subscript : Listed → Bool
is_subscript (Plain f) = is_scalar_of kind.Int f || is_vector_of kind.Int f
is_subscript Ranged = true
is_subscript Keyed = false

abbrev pub is_text : Option Kind → Bool
is_text None = false
is_text (Some k) = is_kind kind.Text k

abbrev pub is_allocatable : Option Variable → Bool
is_allocatable None = false
is_allocatable (Some v) = v.allocatable

abbrev pub has_rank : ℕ → Option Variable → Bool
has_rank n None = false
has_rank n (Some v) = length v.dims == n

abbrev pub has_wrong_subscripts : Question → Bool
has_wrong_subscripts (Subscripts n items) = n == 0 || (not (length items == n) || not (list_all is_subscript items))
has_wrong_subscripts (Cuts of) = not (is_text of)
has_wrong_subscripts (Allocates v n) = not (is_allocatable v && has_rank n v)
has_wrong_subscripts (Frees v) = not (is_allocatable v)
has_wrong_subscripts other = false

-- ---- rule 35: a store names a constant, an INTENT(IN) dummy, an index, the variable of an enclosing DO, or something that isn't
-- a variable

abbrev pub may_change : Option Variable → Bool
may_change None = false
may_change (Some v) = not v.input

abbrev pub has_wrong_store : Question → Bool
has_wrong_store (Stores v of_do) = of_do || not (may_change v)
has_wrong_store other = false

-- ---- rule 36: a CASE value isn't a constant expression of the selector's kind, or has a fault or leaves 32 bits, or two ranges
-- share a value, or LOGICAL has a colon

abbrev pub is_value : Worth → Bool
is_value (Is x) = true
is_value Spoilt = false
is_value Unknown = false

-- LOGICAL has no order: there a value is at most itself
abbrev pub is_at_most : Scalar → Scalar → Bool
is_at_most (scalar.Log a) (scalar.Log b) = are_equivalent a b
is_at_most x y = is_le (compared x y)

abbrev pub at_most : Option Scalar → Option Scalar → Bool
at_most None y = true
at_most (Some x) None = true
at_most (Some x) (Some y) = is_at_most x y

abbrev pub overlap : Range → Range → Bool
overlap r q = at_most r.lower r.upper && (at_most q.lower q.upper && (at_most r.lower q.upper && at_most q.lower r.upper))

abbrev pub share : List Range → List Range → Bool
share earlier [] = false
share earlier (r ∷ more) = list_any (overlap r) earlier || share (earlier ++ r ∷ []) more

abbrev pub has_wrong_case : Question → Bool
has_wrong_case (Matches selector colon k w) =
    not (is_kind selector k && is_value w) || (colon && is_kind kind.Log selector)
has_wrong_case (Shares earlier now) = share earlier now
has_wrong_case other = false

-- ---- rule 38: a FORALL header names an index twice or in a triplet; a triplet in its body names an index; indices and the rank
-- of a target together exceed 7; a target is a whole scalar variable or a substring

abbrev pub has_twice : List Word → Bool
has_twice [] = false
has_twice (w ∷ more) = list_any (is_word w) more || has_twice more

abbrev pub is_cut : Part → Bool
is_cut AllOf = false
is_cut (BytesOf f l) = true

abbrev pub is_whole : Access → Bool
is_whole Whole = true
is_whole (Subscripted ss) = false

abbrev pub has_wrong_index : Question → Bool
has_wrong_index (Heads names) = has_twice names
has_wrong_index (Ranges named indices) = list_any (λ k. nat_lt k indices) named
has_wrong_index (Targets indices f access part) =
    nat_lt most_dimensions (indices + rank f) || (is_cut part || (is_whole access && is_scalar f))
has_wrong_index other = false

-- ---- rule 39: constructor values differ in kind, or in CHARACTER have lengths that aren't known and equal

abbrev pub is_length : Option ℕ → Option ℕ → Bool
is_length None n = false
is_length (Some m) None = false
is_length (Some m) (Some n) = m == n

abbrev pub is_alike : Facts → Facts → Bool
is_alike f g = is_kind f.kind g.kind && (not (is_of kind.Text f) || is_length f.length g.length)

-- a text alone has a known length too
abbrev pub are_alike : List Facts → Bool
are_alike [] = true
are_alike (f ∷ more) = list_all (is_alike f) (f ∷ more)

abbrev pub has_wrong_values : Question → Bool
has_wrong_values (Gathers values) = not (are_alike values)
has_wrong_values other = false

-- ---- rule 40: a READ item isn't INTEGER

abbrev pub has_wrong_item : Question → Bool
has_wrong_item (Takes f) = not (is_of kind.Int f)
has_wrong_item other = false

-- ---- no rule is broken

abbrev pub is_settled : Question → Bool
is_settled q = not (has_wrong_kinds q || (has_other_extents q || (has_wrong_arguments q || (has_wrong_subscripts q
    || (has_wrong_store q || (has_wrong_case q ||
    (has_wrong_mask q || (has_wrong_index q || (has_wrong_values q || has_wrong_item q)))))))))

-- the least rule that is broken
abbrev pub rule_if : Bool → ℕ → Option ℕ → Option ℕ
rule_if true rule later = Some rule
rule_if false rule later = later

abbrev pub rule_of : Question → Option ℕ
rule_of q = rule_if (has_wrong_kinds q) wrong_kind_or_rank (rule_if (has_other_extents q) extents_differ
    (rule_if (has_wrong_arguments q) wrong_intrinsic_arguments (rule_if (has_wrong_subscripts q) wrong_designator
    (rule_if (has_wrong_store q) wrong_store (rule_if (has_wrong_case q) wrong_case (rule_if (has_wrong_mask q) wrong_mask
    (rule_if (has_wrong_index q) wrong_forall (rule_if (has_wrong_values q) wrong_constructor
    (rule_if (has_wrong_item q) wrong_read_item None)))))))))
