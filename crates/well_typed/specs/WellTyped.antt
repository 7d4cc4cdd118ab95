-- Well typed expressions of a unit: the parts are well typed, the question that they ask breaks no rule, and what is said of the
-- whole is what the tables make of the parts. `ix` is the number of indices around.
use Rattle.std.specs.Prelude.{◌≡◌, ℕ, suc, nat_lt, Bool, true, false, List, [], ◌∷◌, length, Option, Some, None, slice_get}
use Rattle.a95_base.specs.declared.scalar.Scalar.{Scalar}
use Rattle.f95_unit.specs.declared.facts.Facts.{Facts}
use Rattle.f95_unit.specs.Plain.{Expr, typed, Node, Literal, Constant, Index, Named, Brackets, Unary, Binary, Constructor}
use Rattle.f95_unit.specs.Plain.{Elementwise, Trim, Asked, Reduced, Rearranged, Called, Designator, at, Access, Whole, Subscripted}
use Rattle.f95_unit.specs.Plain.{Subscripts, no_subscript, subscript, Subscript, One, Vector, SubscriptTriplet, Bound, Absent}
use Rattle.f95_unit.specs.Plain.{Given, Part, AllOf, BytesOf, Items, no_item, value, loop, Arguments, no_argument, argument}
use Rattle.f95_unit.specs.Plain.{Subject, Name, Of, Call, call}
use Rattle.well_typed.specs.Shapes.{is_array, all_ranks_fit}
use Rattle.well_typed.specs.Operations.{sign_of, operator_of}
use Rattle.well_typed.specs.Known.{facts_of, scalar_facts, variable_facts, designator_facts, values_facts}
use Rattle.well_typed.specs.Known.{constructor_facts}
use Rattle.well_typed.specs.Intrinsics.{an_integer, value_facts}
use Rattle.well_typed.specs.Questions.{Question, Operates, Signs, Bounds, Subscripts as SubscriptsOf, Cuts}
use Rattle.well_typed.specs.Questions.{Gathers, Refers, Spreads}
use Rattle.well_typed.specs.Rules.{is_settled}
use Rattle.well_typed.specs.Typing.{signed_facts, operation_facts, given, givens, shapes_in, element_facts, match}
use Rattle.well_typed.specs.declared.known.Callee.{Callee}
use Rattle.well_typed.specs.declared.known.Given.{Given as GivenArgument}
use Rattle.well_typed.specs.declared.known.Variable.{Variable}
use Rattle.well_typed.specs.declared.family.Family.{Family}
use Rattle.well_typed.specs.declared.family.Family.TheVariants.{ByElement, Trimming, Asking, Reducing, Moving}
use Rattle.well_typed.specs.declared.asked.Listed.{Listed}
use Rattle.well_typed.specs.declared.asked.Listed.TheVariants.{Plain, Ranged}

-- the question breaks no rule
abbrev pub Settled : Question → Type 0
Settled q = is_settled q ≡ true

abbrev pub HasValue : Option Scalar → Facts → Type 0
HasValue None f = ⊥
HasValue (Some x) f = f ≡ scalar_facts x

-- ---- designators

abbrev pub listed_in : Subscripts → List Listed
listed_in no_subscript = []
listed_in (subscript (One e) more) = Plain (facts_of e) ∷ listed_in more
listed_in (subscript (Vector e) more) = Plain (facts_of e) ∷ listed_in more
listed_in (subscript (SubscriptTriplet f l s) more) = Ranged ∷ listed_in more

abbrev pub HasSubscripts : Variable → Access → Type 0
HasSubscripts v Whole = Unit {0}
HasSubscripts v (Subscripted ss) = Settled (SubscriptsOf (length v.dims) (listed_in ss))

abbrev pub HasPart : Variable → Part → Type 0
HasPart v AllOf = Unit {0}
HasPart v (BytesOf f l) = Settled (Cuts (Some v.kind))

abbrev pub Designates : List Scalar → Option Variable → Facts → Access → Part → Type 0
Designates constants None f access part = ⊥
Designates constants (Some v) f access part =
    HasSubscripts v access × (HasPart v part × (f ≡ designator_facts constants v access part))

-- ---- references

abbrev pub IsReferred : Family → Option ℕ → List GivenArgument → Facts → Type 0
IsReferred which d gs f = Settled (Refers which d gs) × (f ≡ value_facts which d gs)

-- of an ELEMENTAL function the arguments have one rank, and where they match the dummies, extents that may be the same
abbrev pub SpreadsOver : Bool → Arguments → Type 0
SpreadsOver true es = Settled (Spreads (shapes_in es))
SpreadsOver false es = Unit {0}

abbrev pub IsCalled : (elemental : Bool) → Callee → Facts → Facts → Arguments → Type 0
IsCalled false p r f es = f ≡ r
IsCalled true p r f es =
    (all_ranks_fit (shapes_in es) ≡ true) × (SpreadsOver (match p es) es × (f ≡ element_facts r es))

abbrev pub IsResult : Callee → Option Facts → Facts → Arguments → Type 0
IsResult p None f es = ⊥
IsResult p (Some r) f es = IsCalled p.interface.elemental p r f es

abbrev pub IsValueOf : Option Callee → Facts → Arguments → Type 0
IsValueOf None f es = ⊥
IsValueOf (Some p) f es = IsResult p p.result f es

-- what is asked about, as an expression
abbrev pub bare : ℕ → Option Variable → Expr
bare n None = typed an_integer (Named (at n Whole AllOf))
bare n (Some v) = typed (variable_facts v) (Named (at n Whole AllOf))

abbrev pub subject_expr : List Variable → Subject → Expr
subject_expr variables (Name n) = bare n (slice_get variables n)
subject_expr variables (Of e) = e

module _ (constants : List Scalar) (variables : List Variable) (callees : List Callee) where
  abbrev mutual
    pub TypedExpr : ℕ → Expr → Type 0
    TypedExpr ix (typed f node) = TypedNode ix f node

    pub TypedNode : ℕ → Facts → Node → Type 0
    TypedNode ix f (Literal x) = f ≡ scalar_facts x
    TypedNode ix f (Constant n) = HasValue (slice_get constants n) f
    TypedNode ix f (Index k) = (nat_lt k ix ≡ true) × (f ≡ an_integer)
    TypedNode ix f (Named d) = TypedDesignator ix f d
    TypedNode ix f (Brackets e) = TypedExpr ix e × (f ≡ facts_of e)
    TypedNode ix f (Unary op e) =
        TypedExpr ix e × (Settled (Signs (sign_of op) (facts_of e)) × (f ≡ signed_facts (sign_of op) (facts_of e)))
    TypedNode ix f (Binary op e g) = TypedExpr ix e × (TypedExpr ix g
        × (Settled (Operates (operator_of op) (facts_of e) (facts_of g))
        × (f ≡ operation_facts (operator_of op) (facts_of e) (facts_of g))))
    TypedNode ix f (Constructor items) =
        TypedItems ix items × (Settled (Gathers (values_facts items)) × (f ≡ constructor_facts constants items))
    TypedNode ix f (Elementwise which es) =
        TypedArguments ix es × IsReferred (ByElement which) None (givens constants variables es) f
    TypedNode ix f (Trim e) = TypedExpr ix e × IsReferred Trimming None (given constants variables 0 e ∷ []) f
    TypedNode ix f (Asked which d subject) = TypedSubject ix subject
        × IsReferred (Asking which) d (given constants variables 0 (subject_expr variables subject) ∷ []) f
    TypedNode ix f (Reduced which d es) = TypedArguments ix es × IsReferred (Reducing which) d (givens constants variables es) f
    TypedNode ix f (Rearranged which d es) = TypedArguments ix es × IsReferred (Moving which) d (givens constants variables es) f
    TypedNode ix f (Called c) = TypedCall ix f c

    pub TypedDesignator : ℕ → Facts → Designator → Type 0
    TypedDesignator ix f (at n access part) =
        TypedAccess ix access × (TypedPart ix part × Designates constants (slice_get variables n) f access part)

    pub TypedAccess : ℕ → Access → Type 0
    TypedAccess ix Whole = Unit {0}
    TypedAccess ix (Subscripted ss) = TypedSubscripts ix ss

    pub TypedSubscripts : ℕ → Subscripts → Type 0
    TypedSubscripts ix no_subscript = Unit {0}
    TypedSubscripts ix (subscript s more) = TypedSubscript ix s × TypedSubscripts ix more

    pub TypedSubscript : ℕ → Subscript → Type 0
    TypedSubscript ix (One e) = TypedExpr ix e × (is_array (facts_of e) ≡ false)
    TypedSubscript ix (Vector e) = TypedExpr ix e × (is_array (facts_of e) ≡ true)
    TypedSubscript ix (SubscriptTriplet f l s) = TypedBound ix f × (TypedBound ix l × TypedBound ix s)

    pub TypedBound : ℕ → Bound → Type 0
    TypedBound ix Absent = Unit {0}
    TypedBound ix (Given e) = TypedExpr ix e × Settled (Bounds (facts_of e))

    pub TypedPart : ℕ → Part → Type 0
    TypedPart ix AllOf = Unit {0}
    TypedPart ix (BytesOf f l) = TypedBound ix f × TypedBound ix l

    pub TypedItems : ℕ → Items → Type 0
    TypedItems ix no_item = Unit {0}
    TypedItems ix (value e more) = TypedExpr ix e × TypedItems ix more
    TypedItems ix (loop body f l s more) = TypedItems (suc ix) body × ((TypedExpr ix f × Settled (Bounds (facts_of f)))
        × ((TypedExpr ix l × Settled (Bounds (facts_of l))) × (TypedBound ix s × TypedItems ix more)))

    pub TypedArguments : ℕ → Arguments → Type 0
    TypedArguments ix no_argument = Unit {0}
    TypedArguments ix (argument place e more) = TypedExpr ix e × TypedArguments ix more

    pub TypedSubject : ℕ → Subject → Type 0
    TypedSubject ix (Name n) = Designates constants (slice_get variables n) (facts_of (bare n (slice_get variables n))) Whole AllOf
    TypedSubject ix (Of e) = TypedExpr ix e

    pub TypedCall : ℕ → Facts → Call → Type 0
    TypedCall ix f (call p es) = TypedArguments ix es × IsValueOf (slice_get callees p) f es
