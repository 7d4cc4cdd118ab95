-- What is made of an expression is well typed.
use Rattle.std.proofs.Common.{◌≡◌, ℕ, suc, ◌==◌, nat_lt, Bool, true, false, not, ◌&&◌, ◌||◌, cond, List, [], ◌∷◌, map, length}
use Rattle.std.proofs.Common.{Option, Some, None, option_map, slice_get, refl, sym, subst}
use Rattle.std.specs.List.{list_any, find}
use Rattle.std.proofs.Common.{arith}
use Rattle.std.proofs.lemmas.Bool.Decides.{nat_tests}
use Rattle.a95_base.specs.declared.scalar.Scalar.{Scalar}
use Rattle.a95_base.specs.declared.scalar.Kind.TheVariants as kind
use Rattle.constant_operators.specs.Operators.{is_kind}
use Rattle.f95_unit.specs.declared.operation.Inquiry.{Inquiry}
use Rattle.a95_base.specs.Lists.{Every}
use Rattle.std.proofs.lemmas.Bool.{and_parts}
use Rattle.f95_tree.specs.Forms.{Word}
use Rattle.f95_tree.specs.declared.terminal.Operator.{Operator}
use Rattle.f95_tree.specs.declared.terminal.Operator.TheVariants as operator
use Rattle.f95_tree.specs.declared.terminal.Relation.TheVariants as relation
use Rattle.f95_tree.specs.declared.terminal.Sign.{Sign}
use Rattle.f95_tree.specs.declared.terminal.Sign.TheVariants as sign
use Rattle.intrinsic_table.specs.declared.intrinsic.Intrinsic.{Intrinsic}
use Rattle.intrinsic_table.specs.Finding.{is_word}
use Rattle.names_types.specs.Keywords.{intrinsic_named}
use Rattle.names_types.specs.Constants.{argument as argument_of, arranged, Placed}
use Rattle.names_types.specs.Plain as source
use Rattle.f95_unit.specs.declared.facts.Facts.{Facts}
use Rattle.f95_unit.specs.Plain.{Expr, typed, Node, Elementwise, Trim, Asked, Reduced, Rearranged, Called, Access, Whole}
use Rattle.f95_unit.specs.Plain.{Subscripted, Bound, Absent, Part, AllOf, BytesOf, Items, no_item, Arguments, call}
use Rattle.well_typed.specs.Shapes.{all_ranks_fit}
use Rattle.well_typed.specs.Operations.{unary_of, sign_of, binary_of, operator_of}
use Rattle.well_typed.specs.Operations.{family_of}
use Rattle.well_typed.specs.Known.{facts_of, scalar_facts, designator_facts}
use Rattle.well_typed.specs.Intrinsics.{value_facts}
use Rattle.well_typed.specs.Questions.{Operates, Signs, Bounds, Counts, Subscripts as SubscriptsOf, Cuts, Refers, Misrefers}
use Rattle.shape_check.specs.Found.{Found, both}
use Rattle.shape_check.specs.Names.{Sense, IsVariable, IsConstant, IsProcedure, IsIntrinsic, IsIndex, IsNothing, Meaning, AVariable}
use Rattle.shape_check.specs.Names.{AConstant, AProcedure, Meant, Names, declared_sense, sense_of, sense_as, variable_of}
use Rattle.shape_check.specs.Names.{index_level, index_or_declared, meant_or_intrinsic, intrinsic_or_nothing}
use Rattle.shape_check.specs.Nodes.{literal, signed, operated, bracketed, bounding, Item, Single, Triple, listed, subscripts_of}
use Rattle.shape_check.specs.Nodes.{Place, place, Behind, Bare, Applied, Cut, is_substring, no_stride, part_in, subscripts_asked}
use Rattle.shape_check.specs.Nodes.{place_behind, place_of, named, scalar_behind, constant_behind, uncut, items_in, spreading}
use Rattle.shape_check.specs.Nodes.{element_result, called_with, called}
use Rattle.shape_check.specs.References.{Filled, filled, all_filled, is_triple, keywords, Dim, NoDim, WrongDim, DimIs, dim_place}
use Rattle.shape_check.specs.References.{dim_at, others_than, arguments_of, subject_of, no_value, misreferred, referred_one}
use Rattle.shape_check.specs.References.{referred_all, referred_as, referred_with, referred_to, referred}
use Rattle.shape_check.specs.Expressions.{referred_behind, meant, with_variable, looped, bounded_by, name_of, expr_of, behind_of}
use Rattle.shape_check.specs.Expressions.{bound_of, items_of, values_of}
use Rattle.well_typed.specs.WellTyped.{TypedExpr, TypedDesignator, TypedPart, TypedBound, TypedItems, TypedArguments, Designates}
use Rattle.well_typed.specs.WellTyped.{HasValue, HasSubscripts, HasPart, IsReferred, IsCalled, IsResult, IsValueOf, SpreadsOver}
use Rattle.well_typed.specs.WellTyped.{Settled}
use Rattle.well_typed.specs.Typing.{signed_facts, operation_facts, shapes_in, match, element_facts, given, givens}
use Rattle.shape_check.specs.Laws.{ExpressionsAreTyped}
use Rattle.shape_check.proofs.Gives.{Holds, Gives, Of, gives_found, gives_nothing, gives_asking, gives_then, gives_mapped}
use Rattle.shape_check.proofs.Gives.{gives_both, gives_and_asking}
use Rattle.well_typed.proofs.Settled.{all_subscripts}
use Rattle.shape_check.proofs.Parts.{listed_as, TypedItem, TypedBehind, items_typed, subscripts_typed, actuals_typed, TypedFilled}
use Rattle.shape_check.proofs.Parts.{filled_typed, others_typed, arguments_typed, subject_is}
use Rattle.well_typed.specs.declared.known.Callee.{Callee}
use Rattle.well_typed.specs.declared.known.Variable.{Variable}
use Rattle.well_typed.specs.declared.family.Family.{Family}
use Rattle.well_typed.specs.declared.family.Family.TheVariants.{ByElement, Trimming, Asking, Reducing, Moving}

sign_back : (s : Sign) → sign_of (unary_of s) ≡ s
sign_back sign.Plus = refl
sign_back sign.Minus = refl
sign_back sign.Not = refl

operator_back : (op : Operator) → operator_of (binary_of op) ≡ op
operator_back operator.Power = refl
operator_back operator.Multiply = refl
operator_back operator.Divide = refl
operator_back operator.Add = refl
operator_back operator.Subtract = refl
operator_back operator.Concat = refl
operator_back (operator.Relation relation.Equal) = refl
operator_back (operator.Relation relation.NotEqual) = refl
operator_back (operator.Relation relation.Less) = refl
operator_back (operator.Relation relation.LessEqual) = refl
operator_back (operator.Relation relation.Greater) = refl
operator_back (operator.Relation relation.GreaterEqual) = refl
operator_back operator.And = refl
operator_back operator.Or = refl
operator_back operator.Equivalent = refl
operator_back operator.NotEquivalent = refl

module _ (c : Names) where
  abbrev pub Typed : Expr → Type 0
  Typed = TypedExpr c.constants c.variables c.callees (length c.indices)

  abbrev pub TypedB : Bound → Type 0
  TypedB = TypedBound c.constants c.variables c.callees (length c.indices)

  abbrev pub TypedBehindName : Behind → Type 0
  TypedBehindName = TypedBehind c.constants c.variables c.callees (length c.indices)

  abbrev pub TypedPlace : Place → Type 0
  TypedPlace p = TypedDesignator c.constants c.variables c.callees (length c.indices) p.0 p.1

  abbrev pub Fills : Filled → Type 0
  Fills = TypedFilled c.constants c.variables c.callees (length c.indices)

  abbrev pub IsTypedItem : Item → Type 0
  IsTypedItem = TypedItem c.constants c.variables c.callees (length c.indices)

  -- ---- operators

  gives_signed : (s : Sign) (e : Expr) → Typed e → Gives Typed (signed s e)
  gives_signed s e h =
      gives_asking _ _ (λ ok. (
        h,
        subst (λ t. Settled (Signs t (facts_of e))
            × (signed_facts s (facts_of e) ≡ signed_facts t (facts_of e))) (sym (sign_back s)) (ok, refl),
      ))

  gives_operated : (op : Operator) (es : Expr × Expr) → Of Typed Typed es → Gives Typed (operated op es)
  gives_operated op es h = gives_asking _ _ (λ ok. (
    h.0,
    (
      h.1,
      subst (λ t. Settled (Operates t (facts_of es.0) (facts_of es.1))
          × (operation_facts op (facts_of es.0) (facts_of es.1) ≡ operation_facts t (facts_of es.0) (facts_of es.1)))
          (sym (operator_back op)) (ok, refl),
    ),
  ))

  gives_bounding : (e : Expr) → Typed e → Gives TypedB (bounding e)
  gives_bounding e h = gives_asking _ _ (λ ok. (h, ok))

  -- ---- variables

  designated : (n : ℕ) (v : Variable) → slice_get c.variables n ≡ Some v → (access : Access) (part : Part)
      → Designates c.constants (Some v) (designator_facts c.constants v access part) access part
      → Designates c.constants (slice_get c.variables n) (designator_facts c.constants v access part) access part
  designated n v e access part h =
      subst (λ o. Designates c.constants o (designator_facts c.constants v access part) access part) (sym e) h

  subscripts_asked_well : (v : Variable) (items : List Item) → Settled (subscripts_asked v items)
      → HasSubscripts v (Subscripted (subscripts_of items))
  subscripts_asked_well v items ok = subst (λ ls. Settled (SubscriptsOf (length v.dims) ls))
      (sym (listed_as items (all_subscripts (length v.dims) (map listed items) ok))) ok

  cut_well : (t : Bool) → t ≡ true → not (not t || false) ≡ true
  cut_well true e = refl
  cut_well false e = cc

  cut_asked : (v : Variable) (t : Bool) → length v.dims == 0 && (is_kind kind.Text v.kind && t) ≡ true
      → Settled (Cuts (Some v.kind))
  cut_asked v t e = cut_well (is_kind kind.Text v.kind)
      (and_parts (is_kind kind.Text v.kind) t (and_parts (length v.dims == 0) (is_kind kind.Text v.kind && t) e).1).0

  substring_cut : (n : ℕ) (v : Variable) (items : List Item) → slice_get c.variables n ≡ Some v → is_substring v items ≡ true
      → Every IsTypedItem items → TypedPlace (place c n v Whole (part_in items))
  substring_cut n v [] e s h = cc
  substring_cut n v (Single k x ∷ []) e s h = cc
  substring_cut n v (Triple f l t ∷ []) e s h =
      (tt, ((h.0.0, h.0.1.0), designated n v e Whole (BytesOf f l) (tt, (cut_asked v (no_stride t) s, refl))))
  substring_cut n v (Single k x ∷ j ∷ more) e s h = cc
  substring_cut n v (Triple f l t ∷ j ∷ more) e s h = cc

  pub gives_choice : {A : Type 0} {P : A → Type 0} (t : Bool) (m n : Found A) → (t ≡ true → Gives P m) → (t ≡ false → Gives P n)
      → Gives P (cond t m n)
  gives_choice true m n f g = f refl
  gives_choice false m n f g = g refl

  subscripted_well : (n : ℕ) (v : Variable) → slice_get c.variables n ≡ Some v → (items : List Item) (part : Part)
      → Every IsTypedItem items → TypedPart c.constants c.variables c.callees (length c.indices) part → HasPart v part
      → Settled (subscripts_asked v items) → TypedPlace (place c n v (Subscripted (subscripts_of items)) part)
  subscripted_well n v e items part h g has ok = (
    subscripts_typed c.constants c.variables c.callees (length c.indices) items h,
    (g, designated n v e (Subscripted (subscripts_of items)) part (subscripts_asked_well v items ok, (has, refl))),
  )

  gives_behind : (n : ℕ) (v : Variable) → slice_get c.variables n ≡ Some v → (b : Behind) → TypedBehindName b
      → Gives TypedPlace (place_behind c n v b)
  gives_behind n v e Bare h = gives_found (place c n v Whole AllOf) (tt, (tt, designated n v e Whole AllOf (tt, (tt, refl))))
  gives_behind n v e (Applied items) h = gives_choice (is_substring v items) _ _
      (λ s. gives_found (place c n v Whole (part_in items)) (substring_cut n v items e s h))
      (λ s. gives_asking (subscripts_asked v items) (place c n v (Subscripted (subscripts_of items)) AllOf)
      (subscripted_well n v e items AllOf h tt tt))
  gives_behind n v e (Cut items f l) h = gives_and_asking (Cuts (Some v.kind)) _
      (λ cut. gives_asking (subscripts_asked v items) (place c n v (Subscripted (subscripts_of items)) (BytesOf f l))
      (subscripted_well n v e items (BytesOf f l) h.0 (h.1.0, h.1.1) cut))

  pub gives_place : (n : ℕ) (o : Option Variable) → slice_get c.variables n ≡ o → (b : Behind) → TypedBehindName b
      → Gives TypedPlace (place_of c n o b)
  gives_place n None e b h = gives_nothing
  gives_place n (Some v) e b h = gives_behind n v e b h

  -- ---- constants, indices

  gives_scalar : (e : Expr) (b : Behind) → Typed e → Gives Typed (scalar_behind e b)
  gives_scalar e Bare h = gives_found e h
  gives_scalar e (Applied items) h = gives_asking _ _ (λ ok. h)
  gives_scalar e (Cut items f l) h = gives_asking _ _ (λ ok. h)

  gives_constant : (n : ℕ) (o : Option Scalar) → slice_get c.constants n ≡ o → (b : Behind) → Gives Typed (constant_behind n o b)
  gives_constant n None e b = gives_nothing
  gives_constant n (Some x) e b = gives_scalar _ b (subst (λ o. HasValue o (scalar_facts x)) (sym e) refl)

  gives_uncut : (b : Behind) (m : Found Expr) → Gives Typed m → Gives Typed (uncut b m)
  gives_uncut Bare m g = g
  gives_uncut (Applied items) m g = g
  gives_uncut (Cut items f l) m g = gives_then m _ g (λ e h. gives_asking _ _ (λ ok. h))

  -- ---- functions of the source

  called_well : (n : ℕ) (p : Callee) (r f : Facts) (t : Bool) (es : Arguments) → slice_get c.callees n ≡ Some p
      → p.result ≡ Some r → p.interface.elemental ≡ t → IsCalled t p r f es
      → TypedArguments c.constants c.variables c.callees (length c.indices) es → Typed (typed f (Called (call n es)))
  called_well n p r f t es e result elemental h g = (
    g,
    subst (λ o. IsValueOf o f es) (sym e)
        (subst (λ o. IsResult p o f es) (sym result) (subst (λ b. IsCalled b p r f es) (sym elemental) h)),
  )

  gives_spreading : (t : Bool) (es : Arguments) (e : Expr) → (SpreadsOver t es → Typed e) → Gives Typed (spreading t es e)
  gives_spreading true es e h = gives_asking _ _ h
  gives_spreading false es e h = gives_found e (h tt)

  gives_element : (n : ℕ) (p : Callee) (r : Facts) (es : Arguments) → slice_get c.callees n ≡ Some p → p.result ≡ Some r
      → p.interface.elemental ≡ true → TypedArguments c.constants c.variables c.callees (length c.indices) es
      → Gives Typed (element_result p r n es)
  gives_element n p r es e result elemental g = gives_choice (all_ranks_fit (shapes_in es)) _ _
      (λ fit. gives_spreading (match p es) es _
      (λ spread. called_well n p r (element_facts r es) true es e result elemental (fit, (spread, refl)) g))
      (λ other. gives_nothing)

  gives_called_with : (n : ℕ) (p : Callee) (o : Option Facts) (es : Arguments) → slice_get c.callees n ≡ Some p → p.result ≡ o
      → TypedArguments c.constants c.variables c.callees (length c.indices) es → Gives Typed (called_with p o n es)
  gives_called_with n p None es e result g = gives_nothing
  gives_called_with n p (Some r) es e result g = gives_choice p.interface.elemental _ _
      (λ elemental. gives_element n p r es e result elemental g)
      (λ other. gives_found _ (called_well n p r r false es e result other refl g))

  gives_called : (n : ℕ) (o : Option Callee) (es : Arguments) → slice_get c.callees n ≡ o
      → TypedArguments c.constants c.variables c.callees (length c.indices) es → Gives Typed (called o n es)
  gives_called n None es e g = gives_nothing
  gives_called n (Some p) es e g = gives_called_with n p p.result es e refl g

  -- ---- intrinsic functions

  gives_misreferred : Gives Typed misreferred
  gives_misreferred = gives_asking Misrefers no_value (λ ok. refl)

  gives_all : (which : Family) (d : Option ℕ) (make : Arguments → Node) (es : Arguments)
      → (IsReferred which d (givens c.constants c.variables es) (value_facts which d (givens c.constants c.variables es))
      → Typed (typed (value_facts which d (givens c.constants c.variables es)) (make es)))
      → Gives Typed (referred_all c which d make es)
  gives_all which d make es h = gives_asking _ _ (λ ok. h (ok, refl))

  asked_well : (which : Inquiry) (d : Option ℕ) (e : Expr) → Typed e
      → Settled (Refers (Asking which) d (given c.constants c.variables 0 e ∷ []))
      → Typed (typed (value_facts (Asking which) d (given c.constants c.variables 0 e ∷ [])) (Asked which d (subject_of e)))
  asked_well which d e h ok =
      let s = subject_is c.constants c.variables c.callees (length c.indices) e h in (
        s.0,
        subst (λ x. IsReferred (Asking which) d (given c.constants c.variables 0 x ∷ [])
            (value_facts (Asking which) d (given c.constants c.variables 0 e ∷ []))) (sym s.1) (ok, refl),
      )

  gives_trim : (es : List Filled) → Every Fills es → Gives Typed (referred_one c Trimming None Trim es)
  gives_trim [] h = gives_misreferred
  gives_trim (a ∷ []) h = gives_asking _ _ (λ ok. (h.0, (ok, refl)))
  gives_trim (a ∷ b ∷ more) h = gives_misreferred

  gives_asked : (which : Inquiry) (d : Option ℕ) (es : List Filled) → Every Fills es
      → Gives Typed (referred_one c (Asking which) d (λ e. Asked which d (subject_of e)) es)
  gives_asked which d [] h = gives_misreferred
  gives_asked which d (a ∷ []) h = gives_asking _ _ (λ ok. asked_well which d a.1 h.0 ok)
  gives_asked which d (a ∷ b ∷ more) h = gives_misreferred

  gives_as : (which : Family) (d : Option ℕ) (es : List Filled) → Every Fills es → Gives Typed (referred_as c which d es)
  gives_as (ByElement which) d es h =
      gives_all (ByElement which) None (Elementwise which) (arguments_of es)
      (λ r. (arguments_typed c.constants c.variables c.callees (length c.indices) es h, r))
  gives_as Trimming d es h = gives_trim es h
  gives_as (Asking which) d es h = gives_asked which d es h
  gives_as (Reducing which) d es h = gives_all (Reducing which) d (Reduced which d) (arguments_of es)
      (λ r. (arguments_typed c.constants c.variables c.callees (length c.indices) es h, r))
  gives_as (Moving which) d es h = gives_all (Moving which) d (Rearranged which d) (arguments_of es)
      (λ r. (arguments_typed c.constants c.variables c.callees (length c.indices) es h, r))

  gives_with : (which : Family) (es : List Filled) (d : Dim) → Every Fills es → Gives Typed (referred_with c which es d)
  gives_with which es NoDim h = gives_as which None es h
  gives_with which es (DimIs n) h = gives_as which (Some n) es h
  gives_with which es WrongDim h = gives_misreferred

  gives_to : (which : Intrinsic) (o : Option (List Filled)) → Holds (Every Fills) o → Gives Typed (referred_to c which o)
  gives_to which None h = gives_misreferred
  gives_to which (Some es) h = gives_with (family_of which) (others_than (dim_place which) es) (dim_at c (dim_place which) es)
      (others_typed c.constants c.variables c.callees (length c.indices) (dim_place which) es h)

  mapped_filled : (items : List Item) (o : Option (List Placed)) → Every IsTypedItem items
      → Holds (Every Fills) (option_map (filled items) o)
  mapped_filled items None h = tt
  mapped_filled items (Some places) h = filled_typed c.constants c.variables c.callees (length c.indices) items places h

  or_none : (t : Bool) (o : Option (List Filled)) → Holds (Every Fills) o → Holds (Every Fills) (cond t None o)
  or_none true o h = tt
  or_none false o h = h

  gives_referred : (which : Intrinsic) (items : List Item) → Every IsTypedItem items → Gives Typed (referred c which items)
  gives_referred which items h = gives_to which (all_filled which items) (or_none (list_any is_triple items) _
      (mapped_filled items (arranged which (map (λ k. argument_of k None None) (keywords which items))) h))

  -- ---- a name with what stands behind it

  gives_intrinsic : (which : Intrinsic) (b : Behind) → TypedBehindName b → Gives Typed (referred_behind c which b)
  gives_intrinsic which Bare h = gives_misreferred
  gives_intrinsic which (Applied items) h = gives_referred which items h
  gives_intrinsic which (Cut items f l) h = gives_uncut (Cut items f l) _ (gives_referred which items h.0)

  -- an index is one of those around
  abbrev IsAround : Sense → Type 0
  IsAround (IsIndex k) = nat_lt k (length c.indices) ≡ true
  IsAround other = Unit {0}

  gives_meant : (s : Sense) (b : Behind) → IsAround s → TypedBehindName b → Gives Typed (meant c s b)
  gives_meant (IsVariable n) b a h = gives_mapped named _ (gives_place n (slice_get c.variables n) refl b h) (λ p g. g)
  gives_meant (IsConstant n) b a h = gives_constant n (slice_get c.constants n) refl b
  gives_meant (IsProcedure n dummies) b a h = gives_uncut b _ (gives_called n (slice_get c.callees n) _ refl
      (actuals_typed c.constants c.variables c.callees (length c.indices) dummies 0 false (items_in b)
      (items_typed c.constants c.variables c.callees (length c.indices) b h)))
  gives_meant (IsIntrinsic which) b a h = gives_intrinsic which b h
  gives_meant (IsIndex k) b a h = gives_scalar _ b (a, refl)
  gives_meant IsNothing b a h = gives_nothing

  intrinsic_is_around : (o : Option Intrinsic) → IsAround (intrinsic_or_nothing o)
  intrinsic_is_around None = tt
  intrinsic_is_around (Some which) = tt

  meaning_is_around : (m : Meaning) → IsAround (sense_as m)
  meaning_is_around (AVariable n) = tt
  meaning_is_around (AConstant n) = tt
  meaning_is_around (AProcedure n dummies) = tt

  declared_is_around : (o : Option Meant) (name : Word) → IsAround (meant_or_intrinsic o name)
  declared_is_around None name = intrinsic_is_around (intrinsic_named name)
  declared_is_around (Some m) name = meaning_is_around m.meaning

  level_is_around : (o : Option ℕ) (s : Sense) → Holds (λ k. nat_lt k (length c.indices) ≡ true) o → IsAround s
      → IsAround (index_or_declared o s)
  level_is_around None s h g = g
  level_is_around (Some k) s h g = h

next_below : (n : ℕ) → nat_lt n (suc n) ≡ true
next_below n = grind (arith, nat_tests)

below_next : (k n : ℕ) → nat_lt k n ≡ true → nat_lt k (suc n) ≡ true
below_next k n e = grind (arith, nat_tests, e)

later_below : (o : Option ℕ) (n : ℕ) → Holds (λ k. nat_lt k n ≡ true) o → Holds (λ k. nat_lt k (suc n) ≡ true) o
later_below None n h = tt
later_below (Some k) n h = below_next k n h

first_below : (t : Bool) (n : ℕ) (o : Option ℕ) → Holds (λ k. nat_lt k n ≡ true) o
    → Holds (λ k. nat_lt k (suc n) ≡ true) (cond t (Some n) o)
first_below true n o h = next_below n
first_below false n o h = later_below o n h

levels_below : (indices : List Word) (name : Word) → Holds (λ k. nat_lt k (length indices) ≡ true) (index_level indices name)
levels_below [] name = tt
levels_below (i ∷ outer) name = first_below (is_word i name) (length outer) (index_level outer name) (levels_below outer name)

pub is_around : (c : Names) (name : Word) → IsAround c (sense_of c name)
is_around c name = level_is_around c (index_level c.indices name) (declared_sense c name) (levels_below c.indices name)
    (declared_is_around c (find (λ (m : Meant). is_word name m.name) c.meant) name)

-- ---- expressions

abbrev pub TypedBounded : Names → Expr → Type 0
TypedBounded c e = Typed c e × Settled (Bounds (facts_of e))

pub gives_bounded : (c : Names) (m : Found Expr) → Gives (Typed c) m → Gives (TypedBounded c) (bounded_by m)
gives_bounded c m g = gives_then m _ g
    (λ e h. gives_then (bounding e) _ (gives_asking {P = λ b. TypedBounded c e} _ _ (λ ok. (h, ok))) (λ b k. gives_found e k))

abbrev pub AreTypedItems : Names → Items → Type 0
AreTypedItems c = TypedItems c.constants c.variables c.callees (length c.indices)

mutual
  pub gives_expr : (c : Names) (e : source.Expr) → Gives (Typed c) (expr_of c e)
  gives_expr c (source.Literal x) = gives_found (literal x) refl
  gives_expr c (source.Named r) =
      gives_then (behind_of c r) _ (gives_of c r) (λ b h. gives_meant c (sense_of c (name_of r)) b (is_around c (name_of r)) h)
  gives_expr c (source.Bracketed e) = gives_mapped bracketed _ (gives_expr c e) (λ x h. (h, refl))
  gives_expr c (source.Constructor values) =
      gives_then (values_of c values) _ (gives_values c values) (λ items h. gives_asking _ _ (λ ok. (h, (ok, refl))))
  gives_expr c (source.Signed s e) = gives_then (expr_of c e) _ (gives_expr c e) (gives_signed c s)
  gives_expr c (source.Binary op e f) =
      gives_then (both (expr_of c e) (expr_of c f)) _ (gives_both _ _ (gives_expr c e) (gives_expr c f)) (gives_operated c op)

  pub gives_of : (c : Names) (r : source.Reference) → Gives (TypedBehindName c) (behind_of c r)
  gives_of c (source.Whole name) = gives_found Bare tt
  gives_of c (source.Applied name items) = gives_mapped Applied _ (gives_items c items) (λ x h. h)
  gives_of c (source.Substring name items f l) =
      gives_mapped _ _ (gives_both _ _ (gives_items c items) (gives_both _ _ (gives_bound c f) (gives_bound c l))) (λ p h. h)

  pub gives_bound : (c : Names) (b : source.Bound) → Gives (TypedB c) (bound_of c b)
  gives_bound c source.Absent = gives_found Absent tt
  gives_bound c (source.Given e) = gives_then (expr_of c e) _ (gives_expr c e) (gives_bounding c)

  gives_items : (c : Names) (items : source.Items) → Gives (Every (IsTypedItem c)) (items_of c items)
  gives_items c source.no_item = gives_found [] tt
  gives_items c (source.plain e more) = gives_mapped _ _ (gives_both _ _ (gives_expr c e) (gives_items c more)) (λ p h. h)
  gives_items c (source.keyword word e more) = gives_mapped _ _ (gives_both _ _ (gives_expr c e) (gives_items c more)) (λ p h. h)
  gives_items c (source.triplet f l s more) = gives_mapped _ _
      (gives_both _ _ (gives_both _ _ (gives_bound c f) (gives_both _ _ (gives_bound c l) (gives_bound c s)))
      (gives_items c more)) (λ p h. h)

  gives_values : (c : Names) (values : source.Values) → Gives (AreTypedItems c) (values_of c values)
  gives_values c source.no_value = gives_found no_item tt
  gives_values c (source.value e more) = gives_mapped _ _ (gives_both _ _ (gives_expr c e) (gives_values c more)) (λ p h. h)
  gives_values c (source.loop body name f l s more) =
      gives_and_asking (Counts (variable_of c (declared_sense c name))) _ (λ ok. gives_mapped looped _
      (gives_both _ _ (gives_both _ _ (gives_values (with_variable name c) body)
      (gives_both _ _ (gives_bounded c _ (gives_expr c f))
      (gives_both _ _ (gives_bounded c _ (gives_expr c l)) (gives_bound c s)))) (gives_values c more))
      (λ p h. (h.0.0, (h.0.1.0, (h.0.1.1.0, (h.0.1.1.1, h.1))))))

holds_of : {A : Type 0} (P : A → Type 0) (o : Option A) (a : A) → o ≡ Some a → Holds P o → P a
holds_of P o a e h = subst (Holds P) e h

pub expressions_are_typed : ExpressionsAreTyped
expressions_are_typed c e t made = holds_of (Typed c) (expr_of c e).made t made (gives_expr c e).made
