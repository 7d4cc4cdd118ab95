-- Expressions whose value is known before a run: what they are built of, their kinds, and their values, by the operators of
-- `constant_operators`.
use Rattle.std.specs.Prelude.{ℕ, ℤ, pos, neg_ℤ, suc, int_le, unsigned_abs, ◌==◌, Bool, true, false, not, ◌&&◌, ◌||◌, if◌then◌else◌}
use Rattle.std.specs.Prelude.{List, [], ◌∷◌, fold, Option, Some, None, option_map}
use Rattle.std.specs.List.{list_any, list_all, find, filter_map}
use Rattle.std.specs.Option.{is_some}
use Rattle.a95_base.specs.declared.scalar.Scalar.{Scalar}
use Rattle.a95_base.specs.declared.scalar.Scalar.TheVariants as scalar
use Rattle.a95_base.specs.declared.scalar.Kind.{Kind}
use Rattle.a95_base.specs.declared.scalar.Kind.TheVariants as kind
use Rattle.a95_base.specs.Integer.{remainder_of, modulo_of, greater_of, lesser_of, and_of, or_of, exclusive_or_of}
use Rattle.a95_base.specs.Text.{trimmed_length, first_place, code_of, char_of, adjust_left, adjust_right}
use Rattle.a95_base.specs.Lists.{count_to}
use Rattle.f95_tree.specs.Forms.{Word}
use Rattle.intrinsic_table.specs.declared.intrinsic.Intrinsic.{Intrinsic}
use Rattle.intrinsic_table.specs.declared.intrinsic.Intrinsic.TheVariants as intrinsic
use Rattle.intrinsic_table.specs.Interface.{keyword_at, is_needed}
pub use Rattle.constant_operators.specs.declared.value.Facts.{Facts}
pub use Rattle.constant_operators.specs.declared.value.Worth.{Worth}
pub use Rattle.constant_operators.specs.declared.value.Worth.TheVariants.{Is, Spoilt, Unknown}
pub use Rattle.constant_operators.specs.declared.value.Valued.{Valued}
pub use Rattle.constant_operators.specs.declared.value.Argument.{Argument}
pub use Rattle.constant_operators.specs.Operators.{facts_of, valued_as, an_integer, a_truth, a_text, is_kind, only_if, then_option}
pub use Rattle.constant_operators.specs.Operators.{integer_of, truth_of, text_of, within, integer_or_spoilt, text_or_spoilt}
pub use Rattle.constant_operators.specs.Operators.{is_spoilt, with_worth, binary, signed, literal}
pub use Rattle.names_types.specs.declared.sense.Sense.{Sense}
pub use Rattle.names_types.specs.declared.sense.Sense.TheVariants.{Names, NamesArray, NamesIntrinsic, NamesOther}
use Rattle.names_types.specs.Plain.{Expr, Literal, Named, Bracketed, Constructor, Signed, Binary, Reference, Whole, Applied}
use Rattle.names_types.specs.Plain.{Substring, Items, no_item, plain, keyword, triplet}
use Rattle.names_types.specs.Keywords.{keyword_place}

-- ---- references to intrinsics

abbrev pub argument : Option Word → Option Word → Option Valued → Argument
argument k n v = record { keyword = k; bare = n; valued = v }

-- the place of the argument that stands behind so many others
abbrev pub argument_place : Intrinsic → ℕ → Option Word → Option ℕ
argument_place which next None = only_if (is_some (keyword_at which next)) next
argument_place which next (Some word) = keyword_place which word

-- an argument and its place
abbrev pub Placed : Type 0
Placed = ℕ × Argument

abbrev pub placed_first : Option ℕ → Argument → Option (List Placed) → Option (List Placed)
placed_first None a more = None
placed_first (Some p) a None = None
placed_first (Some p) a (Some more) = Some ((p, a) ∷ more)

-- the arguments with their places, where each has one
abbrev pub placed_from : Intrinsic → ℕ → List Argument → Option (List Placed)
placed_from which next [] = Some []
placed_from which next (a ∷ more) = placed_first (argument_place which next a.keyword) a (placed_from which (suc next) more)

abbrev pub is_filled : ℕ → List Placed → Bool
is_filled place args = list_any (λ (a : Placed). a.0 == place) args

-- no two have one place
abbrev pub have_own_places : List Placed → Bool
have_own_places [] = true
have_own_places (a ∷ more) = not (is_filled a.0 more) && have_own_places more

-- behind an argument with a keyword each has one
abbrev pub keywords_last : List Argument → Bool
keywords_last [] = true
keywords_last (a ∷ more) = (not (is_some a.keyword) || list_all (λ (b : Argument). is_some b.keyword) more) && keywords_last more

-- an intrinsic has at most three arguments that must be given
abbrev pub needed_are_filled : Intrinsic → List Placed → Bool
needed_are_filled which args = list_all (λ p. not (is_needed which p) || is_filled p args) (count_to 3)

-- the arguments with their places, where they are as the intrinsic's table has them
abbrev pub arranged : Intrinsic → List Argument → Option (List Placed)
arranged which args = then_option (placed_from which 0 args)
    (λ ps. only_if (keywords_last args && (have_own_places ps && needed_are_filled which ps)) ps)

abbrev pub argument_at : ℕ → List Placed → Option Argument
argument_at place args = option_map (λ (a : Placed). a.1) (find (λ (a : Placed). a.0 == place) args)

-- ---- elemental functions

abbrev pub Seen : Type 0
Seen = ℕ × Valued

abbrev pub seen_first : ℕ → Option Valued → Option (List Seen) → Option (List Seen)
seen_first p None more = None
seen_first p (Some v) None = None
seen_first p (Some v) (Some more) = Some ((p, v) ∷ more)

-- what the arguments are, where each may stand where it does
abbrev pub all_seen : List Placed → Option (List Seen)
all_seen [] = Some []
all_seen (a ∷ more) = seen_first a.0 a.1.valued (all_seen more)

abbrev pub all_of_kind : Kind → List Seen → Bool
all_of_kind k args = list_all (λ (a : Seen). is_kind k a.1.facts.kind) args

abbrev pub seen_facts : ℕ → List Seen → Facts
seen_facts place [] = an_integer
seen_facts place (a ∷ more) = if a.0 == place then a.1.facts else seen_facts place more

abbrev pub is_length : ℕ → Option ℕ → Bool
is_length n None = false
is_length n (Some m) = n == m

-- MERGE chooses between two INTEGERs or two LOGICALs
abbrev pub merged_facts : Facts → Facts → Facts → Option Facts
merged_facts t f mask =
    only_if (is_kind t.kind f.kind && (not (is_kind kind.Text t.kind) && is_kind kind.Log mask.kind)) (facts_of t.kind None)

-- the elemental functions on scalars, where the kinds fit; ICHAR asks for a text whose length is known to be 1
abbrev pub elemental_facts : Intrinsic → List Seen → Option Facts
elemental_facts intrinsic.Abs args = only_if (all_of_kind kind.Int args) an_integer
elemental_facts intrinsic.Mod args = only_if (all_of_kind kind.Int args) an_integer
elemental_facts intrinsic.Modulo args = only_if (all_of_kind kind.Int args) an_integer
elemental_facts intrinsic.Sign args = only_if (all_of_kind kind.Int args) an_integer
elemental_facts intrinsic.Max args = only_if (all_of_kind kind.Int args) an_integer
elemental_facts intrinsic.Min args = only_if (all_of_kind kind.Int args) an_integer
elemental_facts intrinsic.Iand args = only_if (all_of_kind kind.Int args) an_integer
elemental_facts intrinsic.Ior args = only_if (all_of_kind kind.Int args) an_integer
elemental_facts intrinsic.Ieor args = only_if (all_of_kind kind.Int args) an_integer
elemental_facts intrinsic.Merge args = merged_facts (seen_facts 0 args) (seen_facts 1 args) (seen_facts 2 args)
elemental_facts intrinsic.Ichar args =
    only_if (all_of_kind kind.Text args && is_length 1 (seen_facts 0 args).length) an_integer
elemental_facts intrinsic.Char args = only_if (all_of_kind kind.Int args) (a_text (Some 1))
elemental_facts intrinsic.LenTrim args = only_if (all_of_kind kind.Text args) an_integer
elemental_facts intrinsic.Index args = only_if (all_of_kind kind.Text args) an_integer
elemental_facts intrinsic.Adjustl args = only_if (all_of_kind kind.Text args) (a_text None)
elemental_facts intrinsic.Adjustr args = only_if (all_of_kind kind.Text args) (a_text None)
elemental_facts which args = None

abbrev pub Filled : Type 0
Filled = ℕ × Scalar

abbrev pub given_at : ℕ → List Filled → Scalar
given_at place [] = scalar.Int (pos 0)
given_at place (a ∷ more) = if a.0 == place then a.1 else given_at place more

abbrev pub integer_at : ℕ → List Filled → ℤ
integer_at place args = integer_of (given_at place args)

abbrev pub text_at : ℕ → List Filled → List ℕ
text_at place args = text_of (given_at place args)

-- MAX and MIN
abbrev pub best : (ℤ → ℤ → ℤ) → List Filled → ℤ
best better args = fold (λ z (a : Filled). better z (integer_of a.1)) (integer_at 0 args) args

abbrev pub elemental_value : Intrinsic → List Filled → Worth
elemental_value intrinsic.Abs args = within (pos (unsigned_abs (integer_at 0 args)))
elemental_value intrinsic.Mod args = integer_or_spoilt (remainder_of (integer_at 0 args) (integer_at 1 args))
elemental_value intrinsic.Modulo args = integer_or_spoilt (modulo_of (integer_at 0 args) (integer_at 1 args))
elemental_value intrinsic.Sign args =
    within (if int_le (pos 0) (integer_at 1 args) then pos (unsigned_abs (integer_at 0 args))
    else neg_ℤ (pos (unsigned_abs (integer_at 0 args))))
elemental_value intrinsic.Max args = Is (scalar.Int (best greater_of args))
elemental_value intrinsic.Min args = Is (scalar.Int (best lesser_of args))
elemental_value intrinsic.Iand args = Is (scalar.Int (and_of (integer_at 0 args) (integer_at 1 args)))
elemental_value intrinsic.Ior args = Is (scalar.Int (or_of (integer_at 0 args) (integer_at 1 args)))
elemental_value intrinsic.Ieor args = Is (scalar.Int (exclusive_or_of (integer_at 0 args) (integer_at 1 args)))
elemental_value intrinsic.Merge args = Is (if truth_of (given_at 2 args) then given_at 0 args else given_at 1 args)
elemental_value intrinsic.Ichar args = integer_or_spoilt (code_of (text_at 0 args))
elemental_value intrinsic.Char args = text_or_spoilt (char_of (integer_at 0 args))
elemental_value intrinsic.LenTrim args = Is (scalar.Int (pos (trimmed_length (text_at 0 args))))
elemental_value intrinsic.Index args = Is (scalar.Int (pos (first_place (text_at 0 args) (text_at 1 args))))
elemental_value intrinsic.Adjustl args = Is (scalar.Text (adjust_left (text_at 0 args)))
elemental_value intrinsic.Adjustr args = Is (scalar.Text (adjust_right (text_at 0 args)))
elemental_value which args = Unknown

abbrev pub scalar_in : Worth → Option Scalar
scalar_in (Is x) = Some x
scalar_in Spoilt = None
scalar_in Unknown = None

abbrev pub given_in : Seen → Option Filled
given_in a = option_map (λ x. (a.0, x)) (scalar_in a.1.worth)

-- all arguments are evaluated
abbrev pub elemental_worth : Intrinsic → List Seen → Worth
elemental_worth which args =
    if list_any (λ (a : Seen). is_spoilt a.1.worth) args then Spoilt
    else (if list_all (λ (a : Seen). is_some (scalar_in a.1.worth)) args then elemental_value which (filter_map given_in args)
    else Unknown)

abbrev pub elemental_call : Intrinsic → List Placed → Option Valued
elemental_call which args =
    then_option (all_seen args) (λ seen. with_worth (elemental_worth which seen) (elemental_facts which seen))

-- ---- bounds that are asked for

abbrev pub is_array_sense : Sense → Bool
is_array_sense (Names v) = false
is_array_sense NamesArray = true
is_array_sense (NamesIntrinsic which) = false
is_array_sense NamesOther = false

abbrev pub is_array_name : (Word → Sense) → Option Word → Bool
is_array_name sense None = false
is_array_name sense (Some name) = is_array_sense (sense name)

abbrev pub bare_at : ℕ → List Placed → Option Word
bare_at place args = then_option (argument_at place args) (λ (a : Argument). a.bare)

-- SIZE, LBOUND and UBOUND of such an array, with DIM
abbrev pub inquiry_call : (Word → Sense) → List Placed → Option Valued
inquiry_call sense args =
    only_if (is_array_name sense (bare_at 0 args) && is_filled 1 args) (valued_as an_integer Unknown)

abbrev pub call_of : (Word → Sense) → Intrinsic → List Placed → Option Valued
call_of sense intrinsic.Size args = inquiry_call sense args
call_of sense intrinsic.Lbound args = inquiry_call sense args
call_of sense intrinsic.Ubound args = inquiry_call sense args
call_of sense which args = elemental_call which args

-- ---- expressions

abbrev pub named_by : Sense → Option Valued
named_by (Names v) = Some v
named_by NamesArray = None
named_by (NamesIntrinsic which) = None
named_by NamesOther = None

abbrev pub called_by : (Word → Sense) → Sense → List Argument → Option Valued
called_by sense (Names v) args = None
called_by sense NamesArray args = None
called_by sense (NamesIntrinsic which) args = then_option (arranged which args) (call_of sense which)
called_by sense NamesOther args = None

abbrev pub bare_reference : Reference → Option Word
bare_reference (Whole name) = Some name
bare_reference (Applied name items) = None
bare_reference (Substring name items lower upper) = None

abbrev pub bare_name : Expr → Option Word
bare_name (Named r) = bare_reference r
bare_name other = None

module _ (sense : Word → Sense) where
  -- what an expression is, where it is built of literals, names that may stand there, operators, elemental functions, and bounds
  -- that may be asked for, and the kinds fit
  abbrev mutual
    pub valued : Expr → Option Valued
    valued (Literal x) = Some (literal x)
    valued (Named r) = valued_reference r
    valued (Bracketed e) = valued e
    valued (Constructor values) = None
    valued (Signed s e) = signed s (valued e)
    valued (Binary op e f) = binary op (valued e) (valued f)

    pub valued_reference : Reference → Option Valued
    valued_reference (Whole name) = named_by (sense name)
    valued_reference (Applied name items) = called_by sense (sense name) (arguments items)
    valued_reference (Substring name items lower upper) = None

    pub arguments : Items → List Argument
    arguments no_item = []
    arguments (plain e more) = argument None (bare_name e) (valued e) ∷ arguments more
    arguments (keyword word e more) = argument (Some word) (bare_name e) (valued e) ∷ arguments more
    arguments (triplet lower upper stride more) = argument None None None ∷ arguments more
