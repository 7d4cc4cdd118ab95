-- Each well typed expression has at most seven dimensions.
use Rattle.std.proofs.Common.{◌≡◌, ◌≤◌, ℕ, ℤ, suc, zero, ◌+◌, ◌==◌, nat_le, nat_lt, Bool, true, false, ◌&&◌, ◌||◌, cond, List, []}
use Rattle.std.proofs.Common.{◌∷◌}
use Rattle.std.proofs.Common.{◌++◌, map, fold, take, drop, reverse, replicate, length, Option, Some, None, slice_get, refl, sym}
use Rattle.std.proofs.Common.{subst, arith}
use Rattle.std.specs.List.{list_all}
use Rattle.std.proofs.lemmas.Bool.Decides.{nat_tests}
use Rattle.std.proofs.lemmas.List.{length-append, length-map, length-take, length-drop, length-reverse, length-replicate}
use Rattle.std.proofs.lemmas.Option.{slice_get_within, get_or_from_slice_get}
use Rattle.a95_base.specs.declared.scalar.Scalar.{Scalar}
use Rattle.a95_base.specs.declared.scalar.Scalar.TheVariants as scalar
use Rattle.a95_base.specs.declared.scalar.Kind.TheVariants as kind
use Rattle.a95_base.specs.Lists.{Every}
use Rattle.a95_base.proofs.Lists.{each_at}
use Rattle.std.proofs.lemmas.Bool.{and_parts}
use Rattle.constant_operators.specs.declared.value.Facts.{Facts as Scalars}
use Rattle.names_types.specs.Rules.{extent_between}
use Rattle.f95_unit.specs.declared.facts.Facts.{Facts}
use Rattle.f95_unit.specs.declared.operation.Inquiry.{Inquiry}
use Rattle.f95_unit.specs.declared.operation.Inquiry.TheVariants as inquiry
use Rattle.f95_unit.specs.declared.operation.Reduction.{Reduction}
use Rattle.f95_unit.specs.declared.operation.Reduction.TheVariants as reduction
use Rattle.f95_unit.specs.declared.operation.Rearranging.{Rearranging}
use Rattle.f95_unit.specs.declared.operation.Rearranging.TheVariants as rearranging
use Rattle.f95_unit.specs.Plain.{Expr, typed, Node, Literal, Constant, Index, Named, Brackets, Unary, Binary, Constructor}
use Rattle.f95_unit.specs.Plain.{Elementwise, Trim, Asked, Reduced, Rearranged, Called, at, Access, Whole, Subscripted, Subscripts}
use Rattle.f95_unit.specs.Plain.{no_subscript, subscript, One, Vector, SubscriptTriplet, Part, Arguments, no_argument, argument}
use Rattle.f95_unit.specs.Plain.{call}
use Rattle.well_typed.specs.Shapes.{Extents, rank, is_of, joint, joint_of}
use Rattle.well_typed.specs.Known.{facts_of, extents_of, scalar_facts, section_extents, access_extents}
use Rattle.well_typed.specs.Known.{vector_like, values_facts, count_of}
use Rattle.well_typed.specs.Intrinsics.{given_at, facts_in, at as facts_at, is_given, shapes, shaped, without_dim}
use Rattle.well_typed.specs.Intrinsics.{without_last, is_no_text, is_like, is_shape, only_extent, extent_in, reshaped_by, reshaped}
use Rattle.well_typed.specs.Intrinsics.{with_dim}
use Rattle.well_typed.specs.Intrinsics.{copies, moves_rightly, reduces_rightly, value_facts, element_facts as elemental_of}
use Rattle.well_typed.specs.Intrinsics.{moved_extents, reduced, answer, takes}
use Rattle.well_typed.specs.Typing.{givens, shapes_in}
use Rattle.well_typed.specs.Rules.{is_subscript}
use Rattle.well_typed.specs.WellTyped.{TypedExpr, TypedNode, TypedArguments, Designates, HasValue, HasSubscripts, listed_in}
use Rattle.well_typed.specs.WellTyped.{IsCalled, IsResult, IsValueOf}
use Rattle.well_typed.specs.WellTypedStatements.{Maybe}
use Rattle.well_typed.specs.Laws.{HasSmallRank, VariablesAreSmall, ResultsAreSmall, RanksAreSmall}
use Rattle.well_typed.proofs.Settled.{all_subscripts, are_taken}
use Rattle.well_typed.specs.declared.known.Callee.{Callee}
use Rattle.well_typed.specs.declared.known.Dim.{Dim}
use Rattle.well_typed.specs.declared.known.Given.{Given}
use Rattle.well_typed.specs.declared.known.Variable.{Variable}
use Rattle.well_typed.specs.declared.family.Family.{Family}
use Rattle.well_typed.specs.declared.family.Family.TheVariants.{ByElement, Trimming, Asking, Reducing, Moving}
use Rattle.well_typed.specs.declared.asked.Listed.TheVariants.{Plain}

abbrev Small : Extents → Type 0
Small extents = length extents ≤ 7

found_has : {A : Type 0} (P : A → Type 0) (xs : List A) (k : ℕ) (x : A) → Every P xs → slice_get xs k ≡ Some x → P x
found_has P xs k x h e = subst P (get_or_from_slice_get xs k x x e) (each_at P xs k x h (slice_get_within xs k x e))

moved : {f g : Facts} → f ≡ g → Small g.extents → Small f.extents
moved e h = subst (λ (x : Facts). Small x.extents) (sym e) h

-- ---- shapes that are joined

joint_small : (k : ℕ) (ms ns : Extents) → length ms ≤ k → length ns ≤ k → length (joint ms ns) ≤ k
joint_small k [] ns h g = g
joint_small k (m ∷ ms) [] h g = h
joint_small zero (m ∷ ms) (n ∷ ns) h g = absurd (omega (arith, h))
joint_small (suc k) (m ∷ ms) (n ∷ ns) h g =
    let i = joint_small k ms ns (omega (arith, h)) (omega (arith, g)) in omega (arith, i)

all_joint_small : (before : Extents) (shapes : List Extents) → Small before → Every Small shapes → Small (fold joint before shapes)
all_joint_small before [] h g = h
all_joint_small before (ms ∷ more) h g = all_joint_small (joint before ms) more (joint_small 7 before ms h g.0) g.1

shaped_small : (extents : Extents) (o : Option Scalars) → Small extents → Small (shaped extents o).extents
shaped_small extents None h = h
shaped_small extents (Some f) h = h

-- ---- sections

-- a subscript is a scalar, or a vector
subscript_rank : (a : Bool) (n : ℕ) → ((a && n == 0) || (a && n == 1)) ≡ true → n ≤ 1
subscript_rank true n e = grind (arith, nat_tests, e)
subscript_rank false n e = cc

module _ (constants : List Scalar) where
  section_small : (dims : List Dim) (ss : Subscripts) → list_all is_subscript (listed_in ss) ≡ true
      → length (section_extents constants dims ss) ≤ length dims
  section_small [] ss e = omega arith
  section_small (d ∷ dims) no_subscript e = omega arith
  section_small (d ∷ dims) (subscript (One x) more) e =
      let i = section_small dims more (and_parts (is_subscript (Plain (facts_of x)))
      (list_all is_subscript (listed_in more)) e).1 in omega (arith, i)
  section_small (d ∷ dims) (subscript (Vector x) more) e =
      let b = and_parts (is_subscript (Plain (facts_of x))) (list_all is_subscript (listed_in more)) e in
      let i = section_small dims more b.1 in
      let one = subscript_rank (is_of kind.Int (facts_of x)) (rank (facts_of x)) b.0 in
      let l = length-append (extents_of x) (section_extents constants dims more) in omega (arith, i, one, l)
  section_small (d ∷ dims) (subscript (SubscriptTriplet f l s) more) e =
      let i = section_small dims more e in omega (arith, i)

  access_small : (v : Variable) (access : Access) → length v.dims ≤ 7 → HasSubscripts v access
      → Small (access_extents constants v.dims access)
  access_small v Whole h ok = let l = length-map v.dims (λ (d : Dim). extent_between d.lower d.upper) in omega (arith, h, l)
  access_small v (Subscripted ss) h ok =
      let i = section_small v.dims ss (all_subscripts (length v.dims) (listed_in ss) ok) in omega (arith, i, h)

  designated_small : (o : Option Variable) (f : Facts) (access : Access) (part : Part)
      → ((v : Variable) → o ≡ Some v → length v.dims ≤ 7) → Designates constants o f access part → Small f.extents
  designated_small None f access part h d = absurd d
  designated_small (Some v) f access part h d = moved d.1.1 (access_small v access (h v refl) d.0)

-- ---- arguments of intrinsic functions

abbrev AreSmall : List Given → Type 0
AreSmall gs = Every (λ (g : Given). Small g.facts.extents) gs

found_small : (t : Bool) (g : Given) (o : Option Given) → Small g.facts.extents → Small (facts_in o).extents
    → Small (facts_in (cond t (Some g) o)).extents
found_small true g o h i = h
found_small false g o h i = i

at_small : (place : ℕ) (gs : List Given) → AreSmall gs → Small (facts_at place gs).extents
at_small place [] h = omega arith
at_small place (g ∷ more) h = found_small (g.place == place) g (given_at place more) h.0 (at_small place more h.1)

shapes_small : (gs : List Given) → AreSmall gs → Every Small (shapes gs)
shapes_small [] h = tt
shapes_small (g ∷ more) h = (h.0, shapes_small more h.1)

without_small : (d : Option ℕ) (extents : Extents) → Small extents → Small (without_dim d extents)
without_small None extents h = omega arith
without_small (Some zero) extents h = h
without_small (Some (suc k)) extents h =
    let l = length-append (take k extents) (drop (suc k) extents) in
    let t = length-take k extents in
    let b = length-drop (suc k) extents in grind (arith, h, l, t, b)

factor_ranks : (m n : ℕ) → ((m == 2 && n == 2) || ((m == 1 && n == 2) || (m == 2 && n == 1))) ≡ true → (m + n) ≤ 4
factor_ranks m n e = grind (arith, nat_tests, e)

product_small : (ms ns : Extents) → (length ms + length ns) ≤ 4 → Small (without_last ms ++ drop 1 ns)
product_small ms ns h =
    let l = length-append (without_last ms) (drop 1 ns) in
    let r = length-reverse (drop 1 (reverse ms)) in
    let d = length-drop 1 (reverse ms) in
    let s = length-reverse ms in
    let b = length-drop 1 ns in grind (arith, h, l, r, d, s, b)

reduced_small : (which : Reduction) (d : Option ℕ) (gs : List Given) → AreSmall gs → reduces_rightly which d gs ≡ true
    → Small (reduced which d gs).extents
reduced_small reduction.Sum d gs h ok = without_small d _ (at_small 0 gs h)
reduced_small reduction.Product d gs h ok = without_small d _ (at_small 0 gs h)
reduced_small reduction.Maxval d gs h ok = without_small d _ (at_small 0 gs h)
reduced_small reduction.Minval d gs h ok = without_small d _ (at_small 0 gs h)
reduced_small reduction.All d gs h ok = without_small d _ (at_small 0 gs h)
reduced_small reduction.Any d gs h ok = without_small d _ (at_small 0 gs h)
reduced_small reduction.Count d gs h ok = without_small d _ (at_small 0 gs h)
reduced_small reduction.Maxloc d gs h ok = omega arith
reduced_small reduction.Minloc d gs h ok = omega arith
reduced_small reduction.DotProduct d gs h ok = omega arith
reduced_small reduction.Matmul d gs h ok = product_small _ _
    (factor_ranks (rank (facts_at 0 gs)) (rank (facts_at 1 gs)) (and_parts (is_like (facts_at 0 gs) (facts_at 1 gs)) _
    (and_parts (is_no_text (facts_at 0 gs)) _ ok).1).1)

answer_small : (which : Inquiry) (d : Option ℕ) (gs : List Given) → Small (answer which d gs).extents
answer_small inquiry.Size d gs = omega arith
answer_small inquiry.Shape d gs = omega arith
answer_small inquiry.Lbound None gs = omega arith
answer_small inquiry.Lbound (Some n) gs = omega arith
answer_small inquiry.Ubound None gs = omega arith
answer_small inquiry.Ubound (Some n) gs = omega arith
answer_small inquiry.Allocated d gs = omega arith
answer_small inquiry.Len d gs = omega arith

-- ---- rearrangements

with_small : (d : Option ℕ) (n : Option ℕ) (extents : Extents) → nat_lt (length extents) 7 ≡ true → Small (with_dim d n extents)
with_small None n extents e = grind (arith, nat_tests, e)
with_small (Some zero) n extents e = grind (arith, nat_tests, e)
with_small (Some (suc k)) n extents e =
    let l = length-append (take k extents) (n ∷ drop k extents) in
    let t = length-take k extents in
    let b = length-drop k extents in grind (arith, nat_tests, e, l, t, b)

abbrev no_extent : Option ℕ
no_extent = None

filled_small : (t : Bool) (n : ℕ) (entries : List (Option ℤ)) → (length entries == n) ≡ t → (nat_le 1 n && nat_le n 7) ≡ true
    → Small (cond t (map extent_in entries) (replicate n None))
filled_small true n entries e h = let l = length-map entries extent_in in grind (arith, nat_tests, e, h, l)
filled_small false n entries e h = let l = length-replicate n no_extent in grind (arith, nat_tests, h, l)

reshaped_by_small : (o : Option ℕ) (entries : List (Option ℤ)) → is_shape o ≡ true → Small (reshaped_by o entries)
reshaped_by_small None entries e = cc
reshaped_by_small (Some n) entries e = filled_small (length entries == n) n entries refl e

reshaped_small : (o : Option Given) → is_shape (only_extent (facts_in o).extents) ≡ true → Small (reshaped o)
reshaped_small None e = cc
reshaped_small (Some g) e = reshaped_by_small (only_extent g.facts.extents) g.entries e

packed_small : (t : Bool) (extents : Extents) → Small extents → Small (cond t extents (None ∷ []))
packed_small true extents h = h
packed_small false extents h = omega arith

moved_small : (which : Rearranging) (d : Option ℕ) (gs : List Given) → AreSmall gs → moves_rightly which d gs ≡ true
    → Small (moved_extents which d gs)
moved_small rearranging.Transpose d gs h ok =
    let l = length-reverse (facts_at 0 gs).extents in let s = at_small 0 gs h in omega (arith, l, s)
moved_small rearranging.Cshift d gs h ok = at_small 0 gs h
moved_small rearranging.Eoshift d gs h ok = at_small 0 gs h
moved_small rearranging.Spread d gs h ok = with_small d (copies (given_at 2 gs)) (facts_at 0 gs).extents
    (and_parts (nat_lt (rank (facts_at 0 gs)) 7) _ (and_parts (is_no_text (facts_at 0 gs)) _ ok).1).0
moved_small rearranging.Pack d gs h ok = packed_small (is_given 2 gs) (facts_at 2 gs).extents (at_small 2 gs h)
moved_small rearranging.Unpack d gs h ok = at_small 1 gs h
moved_small rearranging.Reshape d gs h ok = reshaped_small (given_at 1 gs)
    (and_parts (is_shape (only_extent (facts_at 1 gs).extents)) _
    (and_parts (is_of kind.Int (facts_at 1 gs)) _ (and_parts (is_no_text (facts_at 0 gs)) _ (and_parts _ _ ok).1).1).1).0

value_small : (which : Family) (d : Option ℕ) (gs : List Given) → AreSmall gs → takes which d gs ≡ true
    → Small (value_facts which d gs).extents
value_small (ByElement which) d gs h ok = shaped_small (joint_of (shapes gs)) (elemental_of which gs)
    (all_joint_small [] (shapes gs) (omega arith) (shapes_small gs h))
value_small Trimming d gs h ok = omega arith
value_small (Asking which) d gs h ok = answer_small which d gs
value_small (Reducing which) d gs h ok = reduced_small which d gs h ok
value_small (Moving which) d gs h ok = moved_small which d gs h ok

-- ---- expressions

literal_small : (x : Scalar) → Small (scalar_facts x).extents
literal_small (scalar.Int z) = omega arith
literal_small (scalar.Log b) = omega arith
literal_small (scalar.Text bytes) = omega arith

constant_small : (o : Option Scalar) (f : Facts) → HasValue o f → Small f.extents
constant_small None f h = absurd h
constant_small (Some x) f h = moved h (literal_small x)

vector_small : (fs : List Facts) (n : Option ℕ) → Small (vector_like fs n).extents
vector_small [] n = omega arith
vector_small (f ∷ more) n = omega arith

called_small : (t : Bool) (p : Callee) (r f : Facts) (es : Arguments) → Small r.extents → Every Small (shapes_in es)
    → IsCalled t p r f es → Small f.extents
called_small false p r f es h g e = moved e h
called_small true p r f es h g e = moved e.1.1 (all_joint_small [] (shapes_in es) (omega arith) g)

result_small : (o : Option Facts) (p : Callee) (f : Facts) (es : Arguments) → Maybe HasSmallRank o → Every Small (shapes_in es)
    → IsResult p o f es → Small f.extents
result_small None p f es h g e = absurd e
result_small (Some r) p f es h g e = called_small p.interface.elemental p r f es h g e

reference_small : (o : Option Callee) (f : Facts) (es : Arguments) → ((p : Callee) → o ≡ Some p → Maybe HasSmallRank p.result)
    → Every Small (shapes_in es) → IsValueOf o f es → Small f.extents
reference_small None f es h g e = absurd e
reference_small (Some p) f es h g e = result_small p.result p f es (h p refl) g e

module _ (constants : List Scalar) (variables : List Variable) (callees : List Callee) (vs : VariablesAreSmall variables)
    (rs : ResultsAreSmall callees) where
  variable_small : (n : ℕ) (v : Variable) → slice_get variables n ≡ Some v → length v.dims ≤ 7
  variable_small n v e = found_has (λ (w : Variable). length w.dims ≤ 7) variables n v vs e

  results_small : (n : ℕ) (p : Callee) → slice_get callees n ≡ Some p → Maybe HasSmallRank p.result
  results_small n p e = found_has (λ (q : Callee). Maybe HasSmallRank q.result) callees n p rs e

  mutual
    pub expr_small : (ix : ℕ) (e : Expr) → TypedExpr constants variables callees ix e → Small (extents_of e)
    expr_small ix (typed f node) h = node_small ix f node h

    node_small : (ix : ℕ) (f : Facts) (node : Node) → TypedNode constants variables callees ix f node → Small f.extents
    node_small ix f (Literal x) h = moved h (literal_small x)
    node_small ix f (Constant n) h = constant_small (slice_get constants n) f h
    node_small ix f (Index k) h = moved h.1 (omega arith)
    node_small ix f (Named (at n access part)) h =
        designated_small constants (slice_get variables n) f access part (variable_small n) h.1.1
    node_small ix f (Brackets e) h = moved h.1 (expr_small ix e h.0)
    node_small ix f (Unary op e) h = moved h.1.1 (shaped_small (extents_of e) _ (expr_small ix e h.0))
    node_small ix f (Binary op e g) h = moved h.1.1.1 (shaped_small (joint (extents_of e) (extents_of g)) _
        (joint_small 7 (extents_of e) (extents_of g) (expr_small ix e h.0) (expr_small ix g h.1.0)))
    node_small ix f (Constructor items) h = moved h.1.1 (vector_small (values_facts items) (count_of constants items))
    node_small ix f (Elementwise which es) h = moved h.1.1 (value_small (ByElement which) None (givens constants variables es)
        (arguments_small ix es h.0) (are_taken (ByElement which) None (givens constants variables es) h.1.0))
    node_small ix f (Trim e) h = moved h.1.1 (omega arith)
    node_small ix f (Asked which d subject) h = moved h.1.1 (answer_small which d _)
    node_small ix f (Reduced which d es) h = moved h.1.1 (value_small (Reducing which) d (givens constants variables es)
        (arguments_small ix es h.0) (are_taken (Reducing which) d (givens constants variables es) h.1.0))
    node_small ix f (Rearranged which d es) h = moved h.1.1 (value_small (Moving which) d (givens constants variables es)
        (arguments_small ix es h.0) (are_taken (Moving which) d (givens constants variables es) h.1.0))
    node_small ix f (Called (call p es)) h =
        reference_small (slice_get callees p) f es (results_small p) (actuals_small ix es h.0) h.1

    arguments_small : (ix : ℕ) (es : Arguments) → TypedArguments constants variables callees ix es
        → AreSmall (givens constants variables es)
    arguments_small ix no_argument h = tt
    arguments_small ix (argument place e more) h = (expr_small ix e h.0, arguments_small ix more h.1)

    actuals_small : (ix : ℕ) (es : Arguments) → TypedArguments constants variables callees ix es → Every Small (shapes_in es)
    actuals_small ix no_argument h = tt
    actuals_small ix (argument place e more) h = (expr_small ix e h.0, actuals_small ix more h.1)

pub ranks_are_small : RanksAreSmall
ranks_are_small constants variables callees vs rs ix e h = expr_small constants variables callees vs rs ix e h
