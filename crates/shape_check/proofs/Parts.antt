-- What stands behind a name: subscripts and arguments of well typed items are well typed.
use Rattle.std.proofs.Common.{◌≡◌, ℕ, suc, ◌==◌, Bool, true, false, not, ◌||◌, cond, List, [], ◌∷◌, map, filter, Option, Some, None}
use Rattle.std.proofs.Common.{is_some, slice_get, refl, sym, ap}
use Rattle.std.specs.List.{list_all, zip}
use Rattle.a95_base.specs.declared.scalar.Scalar.{Scalar}
use Rattle.a95_base.specs.Lists.{Every}
use Rattle.std.proofs.lemmas.Bool.{and_parts}
use Rattle.f95_tree.specs.Forms.{Word}
use Rattle.names_types.specs.Constants.{Placed}
use Rattle.f95_unit.specs.declared.facts.Facts.{Facts}
use Rattle.f95_unit.specs.Plain.{Expr, typed, Literal, Constant, Index, Named, Brackets, Unary, Binary, Constructor, Elementwise}
use Rattle.f95_unit.specs.Plain.{Trim, Asked, Reduced, Rearranged, Called, Designator, at, Whole, Subscripted, Subscripts}
use Rattle.f95_unit.specs.Plain.{subscript, One, Vector, AllOf, BytesOf, Subject}
use Rattle.well_typed.specs.Shapes.{is_array}
use Rattle.well_typed.specs.Known.{facts_of}
use Rattle.well_typed.specs.Rules.{is_subscript}
use Rattle.shape_check.specs.Nodes.{Item, Single, Triple, listed, subscript_of, subscripts_of, Behind, Bare, Applied, Cut, items_in}
use Rattle.shape_check.specs.Nodes.{actuals_from}
use Rattle.shape_check.specs.References.{Filled, filled, expr_in, others_than, arguments_of, subject_at, subject_of}
use Rattle.well_typed.specs.WellTyped.{TypedExpr, TypedBound, TypedSubscript, TypedSubscripts, TypedArguments, TypedSubject}
use Rattle.well_typed.specs.WellTyped.{listed_in, Designates, bare, subject_expr}
use Rattle.well_typed.specs.declared.known.Callee.{Callee}
use Rattle.well_typed.specs.declared.known.Variable.{Variable}
use Rattle.well_typed.specs.declared.asked.Listed.{Listed}
use Rattle.well_typed.specs.declared.asked.Listed.TheVariants.{Plain, Ranged}

module _ (constants : List Scalar) (variables : List Variable) (callees : List Callee) (ix : ℕ) where
  abbrev pub TypedItem : Item → Type 0
  TypedItem (Single keyword e) = TypedExpr constants variables callees ix e
  TypedItem (Triple f l s) = TypedBound constants variables callees ix f
      × (TypedBound constants variables callees ix l × TypedBound constants variables callees ix s)

  abbrev pub TypedBehind : Behind → Type 0
  TypedBehind Bare = Unit {0}
  TypedBehind (Applied items) = Every TypedItem items
  TypedBehind (Cut items f l) = Every TypedItem items
      × (TypedBound constants variables callees ix f × TypedBound constants variables callees ix l)

  pub items_typed : (b : Behind) → TypedBehind b → Every TypedItem (items_in b)
  items_typed Bare h = tt
  items_typed (Applied items) h = h
  items_typed (Cut items f l) h = h.0

  -- ---- subscripts

  one_or_vector : (t : Bool) (e : Expr) → is_array (facts_of e) ≡ t → TypedExpr constants variables callees ix e
      → TypedSubscript constants variables callees ix (cond t (Vector e) (One e))
  one_or_vector true e same h = (h, same)
  one_or_vector false e same h = (h, same)

  subscript_typed : (i : Item) → TypedItem i → TypedSubscript constants variables callees ix (subscript_of i)
  subscript_typed (Single keyword e) h = one_or_vector (is_array (facts_of e)) e refl h
  subscript_typed (Triple f l s) h = h

  pub subscripts_typed : (items : List Item) → Every TypedItem items
      → TypedSubscripts constants variables callees ix (subscripts_of items)
  subscripts_typed [] h = tt
  subscripts_typed (i ∷ more) h = (subscript_typed i h.0, subscripts_typed more h.1)

  -- ---- arguments

  pub actuals_typed : (dummies : List Word) (next : ℕ) (keyed : Bool) (items : List Item) → Every TypedItem items
      → TypedArguments constants variables callees ix (actuals_from dummies next keyed items)
  actuals_typed dummies next keyed [] h = tt
  actuals_typed dummies next keyed (Single keyword e ∷ more) h =
      (h.0, actuals_typed dummies (suc next) (keyed || is_some keyword) more h.1)
  actuals_typed dummies next keyed (Triple f l s ∷ more) h = (refl, actuals_typed dummies (suc next) keyed more h.1)

  abbrev pub TypedFilled : Filled → Type 0
  TypedFilled a = TypedExpr constants variables callees ix a.1

  expr_typed : (i : Item) → TypedItem i → TypedExpr constants variables callees ix (expr_in i)
  expr_typed (Single keyword e) h = h
  expr_typed (Triple f l s) h = refl

  zipped : (places : List ℕ) (items : List Item) → Every TypedItem items → Every TypedFilled (zip places (map expr_in items))
  zipped [] [] h = tt
  zipped [] (i ∷ more) h = tt
  zipped (p ∷ places) [] h = tt
  zipped (p ∷ places) (i ∷ more) h = (expr_typed i h.0, zipped places more h.1)

  pub filled_typed : (items : List Item) (places : List Placed) → Every TypedItem items → Every TypedFilled (filled items places)
  filled_typed items places h = zipped (map (λ (p : Placed). p.0) places) items h

  kept : (t : Bool) (a : Filled) (es : List Filled) → TypedFilled a → Every TypedFilled es → Every TypedFilled (cond t (a ∷ es) es)
  kept true a es h g = (h, g)
  kept false a es h g = g

  filtered : (test : Filled → Bool) (es : List Filled) → Every TypedFilled es → Every TypedFilled (filter test es)
  filtered test [] h = tt
  filtered test (a ∷ es) h = kept (test a) a (filter test es) h.0 (filtered test es h.1)

  pub others_typed : (place : Option ℕ) (es : List Filled) → Every TypedFilled es → Every TypedFilled (others_than place es)
  others_typed None es h = h
  others_typed (Some place) es h = filtered (λ (a : Filled). not (a.0 == place)) es h

  pub arguments_typed : (es : List Filled) → Every TypedFilled es → TypedArguments constants variables callees ix (arguments_of es)
  arguments_typed [] h = tt
  arguments_typed (a ∷ more) h = (h.0, arguments_typed more h.1)

  -- ---- what is asked about

  bare_is : (n : ℕ) (o : Option Variable) (f : Facts) → Designates constants o f Whole AllOf
      → Designates constants o (facts_of (bare n o)) Whole AllOf × (bare n o ≡ typed f (Named (at n Whole AllOf)))
  bare_is n None f h = absurd h
  bare_is n (Some v) f h = ((tt, (tt, refl)), ap (λ g. typed g (Named (at n Whole AllOf))) (sym h.1.1))

  abbrev pub IsSubject : Expr → Subject → Type 0
  IsSubject e s = TypedSubject constants variables callees ix s × (subject_expr variables s ≡ e)

  subject_is_at : (b : Bool) (f : Facts) (d : Designator) → TypedExpr constants variables callees ix (typed f (Named d))
      → IsSubject (typed f (Named d)) (subject_at b (typed f (Named d)) d)
  subject_is_at true f (at n Whole AllOf) h = bare_is n (slice_get variables n) f h.1.1
  subject_is_at true f (at n Whole (BytesOf g l)) h = (h, refl)
  subject_is_at true f (at n (Subscripted ss) part) h = (h, refl)
  subject_is_at false f (at n access part) h = (h, refl)

  pub subject_is : (e : Expr) → TypedExpr constants variables callees ix e → IsSubject e (subject_of e)
  subject_is (typed f (Named d)) h = subject_is_at (is_array f) f d h
  subject_is (typed f (Literal x)) h = (h, refl)
  subject_is (typed f (Constant n)) h = (h, refl)
  subject_is (typed f (Index k)) h = (h, refl)
  subject_is (typed f (Brackets e)) h = (h, refl)
  subject_is (typed f (Unary op e)) h = (h, refl)
  subject_is (typed f (Binary op e g)) h = (h, refl)
  subject_is (typed f (Constructor items)) h = (h, refl)
  subject_is (typed f (Elementwise which es)) h = (h, refl)
  subject_is (typed f (Trim e)) h = (h, refl)
  subject_is (typed f (Asked which d s)) h = (h, refl)
  subject_is (typed f (Reduced which d es)) h = (h, refl)
  subject_is (typed f (Rearranged which d es)) h = (h, refl)
  subject_is (typed f (Called c)) h = (h, refl)

-- the subscripts are listed as the items are
listed_one : (t : Bool) (e : Expr) (more : Subscripts) (rest : List Listed) → listed_in more ≡ rest
    → listed_in (subscript (cond t (Vector e) (One e)) more) ≡ Plain (facts_of e) ∷ rest
listed_one true e more rest same = ap (λ ls. Plain (facts_of e) ∷ ls) same
listed_one false e more rest same = ap (λ ls. Plain (facts_of e) ∷ ls) same

pub listed_as : (items : List Item) → list_all is_subscript (map listed items) ≡ true
    → listed_in (subscripts_of items) ≡ map listed items
listed_as [] h = refl
listed_as (Single None e ∷ more) h =
    listed_one (is_array (facts_of e)) e (subscripts_of more) (map listed more)
    (listed_as more (and_parts (is_subscript (Plain (facts_of e))) (list_all is_subscript (map listed more)) h).1)
listed_as (Single (Some word) e ∷ more) h = cc
listed_as (Triple f l s ∷ more) h = ap (λ ls. Ranged ∷ ls) (listed_as more h)
