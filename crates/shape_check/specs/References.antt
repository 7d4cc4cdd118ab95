-- References to intrinsic functions: the arguments in their places, and DIM, which is a number.
use Rattle.std.specs.Prelude.{ℕ, ℤ, pos, ◌==◌, Bool, true, false, not, if◌then◌else◌, List, [], ◌∷◌, map, Option, Some, None}
use Rattle.std.specs.Prelude.{option_map, codes}
use Rattle.std.specs.List.{list_any, filter, find, zip}
use Rattle.a95_base.specs.declared.scalar.Scalar.TheVariants as scalar
use Rattle.a95_base.specs.declared.scalar.Kind.TheVariants as kind
use Rattle.f95_tree.specs.Forms.{Word}
use Rattle.intrinsic_table.specs.declared.intrinsic.Intrinsic.{Intrinsic}
use Rattle.intrinsic_table.specs.declared.intrinsic.Intrinsic.TheVariants as intrinsic
use Rattle.names_types.specs.Constants.{argument as argument_of, arranged, Placed}
use Rattle.f95_unit.specs.Plain.{Expr, typed, Node, Named, Elementwise, Trim, Asked, Reduced, Rearranged, Designator, at, Whole}
use Rattle.f95_unit.specs.Plain.{AllOf, Arguments, no_argument, argument, Subject, Name, Of}
use Rattle.well_typed.specs.Shapes.{is_of, is_array}
use Rattle.well_typed.specs.Operations.{family_of}
use Rattle.well_typed.specs.Known.{facts_of, integer_known}
use Rattle.well_typed.specs.Intrinsics.{value_facts}
use Rattle.well_typed.specs.Typing.{given, givens}
use Rattle.well_typed.specs.Questions.{Refers, Misrefers}
use Rattle.shape_check.specs.Found.{Found, asking}
use Rattle.shape_check.specs.Names.{Names}
use Rattle.shape_check.specs.Nodes.{Item, Single, Triple, keyword_of, literal}
use Rattle.well_typed.specs.declared.family.Family.{Family}
use Rattle.well_typed.specs.declared.family.Family.TheVariants.{ByElement, Trimming, Asking, Reducing, Moving}

-- ---- places

abbrev pub has_dim_or_mask : Intrinsic → Bool
has_dim_or_mask intrinsic.Sum = true
has_dim_or_mask intrinsic.Product = true
has_dim_or_mask intrinsic.Maxval = true
has_dim_or_mask intrinsic.Minval = true
has_dim_or_mask other = false

abbrev pub mask_keyword : Bool → Option Word → Option Word
mask_keyword true None = Some (codes "mask")
mask_keyword is_truth keyword = keyword

abbrev pub with_mask : List Item → List (Option Word)
with_mask (Single None e ∷ Single keyword m ∷ more) =
    None ∷ mask_keyword (is_of kind.Log (facts_of m)) keyword ∷ map keyword_of more
with_mask items = map keyword_of items

-- the keywords of the arguments; a second one of SUM, PRODUCT, MAXVAL and MINVAL that is LOGICAL is MASK
abbrev pub keywords : Intrinsic → List Item → List (Option Word)
keywords which items = if has_dim_or_mask which then with_mask items else map keyword_of items

-- what stands where nothing is made
abbrev pub no_value : Expr
no_value = literal (scalar.Log false)

abbrev pub is_triple : Item → Bool
is_triple (Single keyword e) = false
is_triple (Triple f l s) = true

abbrev pub expr_in : Item → Expr
expr_in (Single keyword e) = e
expr_in (Triple f l s) = no_value

-- an argument at its place
abbrev pub Filled : Type 0
Filled = ℕ × Expr

abbrev pub filled : List Item → List Placed → List Filled
filled items places = zip (map (λ (p : Placed). p.0) places) (map expr_in items)

-- the arguments in their places, where the intrinsic has them all
abbrev pub all_filled : Intrinsic → List Item → Option (List Filled)
all_filled which items = if list_any is_triple items then None
    else option_map (filled items) (arranged which (map (λ k. argument_of k None None) (keywords which items)))

-- ---- DIM

abbrev pub dim_place : Intrinsic → Option ℕ
dim_place intrinsic.Size = Some 1
dim_place intrinsic.Lbound = Some 1
dim_place intrinsic.Ubound = Some 1
dim_place intrinsic.Sum = Some 1
dim_place intrinsic.Product = Some 1
dim_place intrinsic.Maxval = Some 1
dim_place intrinsic.Minval = Some 1
dim_place intrinsic.All = Some 1
dim_place intrinsic.Any = Some 1
dim_place intrinsic.Count = Some 1
dim_place intrinsic.Spread = Some 1
dim_place intrinsic.Cshift = Some 2
dim_place intrinsic.Eoshift = Some 3
dim_place other = None

pub data Dim : Type 0 where
  NoDim : Dim
  WrongDim : Dim
  DimIs : ℕ → Dim

-- a constant expression that has a value
abbrev pub dim_in : Option ℤ → Dim
dim_in (Some (pos n)) = DimIs n
dim_in other = WrongDim

abbrev pub dim_given : Names → Option Filled → Dim
dim_given c None = NoDim
dim_given c (Some a) = dim_in (integer_known c.constants a.1)

abbrev pub dim_at : Names → Option ℕ → List Filled → Dim
dim_at c None es = NoDim
dim_at c (Some place) es = dim_given c (find (λ (a : Filled). a.0 == place) es)

abbrev pub others_than : Option ℕ → List Filled → List Filled
others_than None es = es
others_than (Some place) es = filter (λ (a : Filled). not (a.0 == place)) es

abbrev pub arguments_of : List Filled → Arguments
arguments_of [] = no_argument
arguments_of (a ∷ more) = argument a.0 a.1 (arguments_of more)

-- ---- nodes

-- a bare array name is asked about as it is
abbrev pub subject_at : Bool → Expr → Designator → Subject
subject_at true e (at n Whole AllOf) = Name n
subject_at is_array e d = Of e

abbrev pub subject_of : Expr → Subject
subject_of (typed f (Named d)) = subject_at (is_array f) (typed f (Named d)) d
subject_of (typed f other_node) = Of (typed f other_node)

abbrev pub misreferred : Found Expr
misreferred = asking Misrefers no_value

-- a function of one argument
abbrev pub referred_one : Names → Family → Option ℕ → (Expr → Node) → List Filled → Found Expr
referred_one c which d make (a ∷ []) = asking (Refers which d (given c.constants c.variables 0 a.1 ∷ []))
    (typed (value_facts which d (given c.constants c.variables 0 a.1 ∷ [])) (make a.1))
referred_one c which d make es = misreferred

abbrev pub referred_all : Names → Family → Option ℕ → (Arguments → Node) → Arguments → Found Expr
referred_all c which d make es = asking (Refers which d (givens c.constants c.variables es))
    (typed (value_facts which d (givens c.constants c.variables es)) (make es))

abbrev pub referred_as : Names → Family → Option ℕ → List Filled → Found Expr
referred_as c (ByElement which) d es = referred_all c (ByElement which) None (Elementwise which) (arguments_of es)
referred_as c Trimming d es = referred_one c Trimming None Trim es
referred_as c (Asking which) d es = referred_one c (Asking which) d (λ e. Asked which d (subject_of e)) es
referred_as c (Reducing which) d es = referred_all c (Reducing which) d (Reduced which d) (arguments_of es)
referred_as c (Moving which) d es = referred_all c (Moving which) d (Rearranged which d) (arguments_of es)

abbrev pub referred_with : Names → Family → List Filled → Dim → Found Expr
referred_with c which es NoDim = referred_as c which None es
referred_with c which es (DimIs n) = referred_as c which (Some n) es
referred_with c which es WrongDim = misreferred

abbrev pub referred_to : Names → Intrinsic → Option (List Filled) → Found Expr
referred_to c which None = misreferred
referred_to c which (Some es) =
    referred_with c (family_of which) (others_than (dim_place which) es) (dim_at c (dim_place which) es)

abbrev pub referred : Names → Intrinsic → List Item → Found Expr
referred c which items = referred_to c which (all_filled which items)
