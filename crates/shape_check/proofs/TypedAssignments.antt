-- Assignments that are made are well typed: plain ones, under masks, for indices.
use Rattle.std.proofs.Common.{◌≡◌, ℕ, ◌==◌, false, ◌++◌, List, [], ◌∷◌, length, Option, Some, None, option_map, slice_get, refl}
use Rattle.std.proofs.Common.{sym, subst, ◌∙◌}
use Rattle.std.specs.List.{list_any}
use Rattle.std.proofs.lemmas.List.{length-reverse, length-map}
use Rattle.a95_base.specs.Lists.{Every}
use Rattle.names_types.specs.Plain as source
use Rattle.f95_unit.specs.Plain.{Expr, Whole, Subscripted, AllOf, BytesOf, Assign, Where, MaskedBody, Others, Triplet}
use Rattle.shape_check.specs.Statements as statement
use Rattle.well_typed.specs.Shapes.{Extents}
use Rattle.well_typed.specs.Known.{facts_of}
use Rattle.well_typed.specs.Questions.{Cuts, Stores, Assigns, Fills, Heads, Ranges, Counts}
use Rattle.shape_check.specs.Names.{Sense, IsVariable, IsConstant, IsProcedure, IsIntrinsic, IsIndex, IsNothing, Names}
use Rattle.shape_check.specs.Names.{declared_sense, sense_of, variable_of}
use Rattle.shape_check.specs.Nodes.{Place, place, Behind, Bare, Applied, Cut, is_substring, part_in, subscripts_of}
use Rattle.shape_check.specs.Nodes.{subscripts_asked, place_behind, place_of}
use Rattle.shape_check.specs.Expressions.{name_of, behind_of, expr_of}
use Rattle.well_typed.specs.Levels.{levels_in, designator_levels}
use Rattle.shape_check.specs.Assignments.{placed, storing, target_of, assign, assigned, sides, assignment_of, masked_assign}
use Rattle.shape_check.specs.Assignments.{mask_of, narrowed_to, inside, with_assign, with_where, with_other, masked_by, where_of}
use Rattle.shape_check.specs.Assignments.{masked_of, others_of, index_names, with_header, triplet, triplet_of, forall_mask}
use Rattle.shape_check.specs.Assignments.{forall_assign, header_of, added, forall_body, forall_with, forall_of}
use Rattle.well_typed.specs.WellTyped.{Settled, TypedDesignator}
use Rattle.well_typed.specs.WellTypedStatements.{number_of, Maybe, CanStore, TypedPlace, TypedAssign, TypedMask, TypedWhere}
use Rattle.well_typed.specs.WellTypedStatements.{TypedMasked, TypedOthers, TypedTriplet, TypedForallMask, TypedForallAssign}
use Rattle.well_typed.specs.WellTypedStatements.{TypedForallBy, TypedForall}
use Rattle.well_typed.specs.Masks.{fits_indices}
use Rattle.shape_check.proofs.Gives.{Holds, Gives, Of, gives_found, gives_nothing, gives_asking, gives_then, gives_both}
use Rattle.shape_check.proofs.Gives.{gives_and_asking, gives_each, gives_maybe, gives_two, gives_implied}
use Rattle.shape_check.proofs.Typed.{Typed, TypedBehindName, gives_choice, gives_place, gives_expr, gives_of, gives_bound}
use Rattle.shape_check.proofs.Typed.{gives_bounded}
use Rattle.well_typed.specs.declared.known.Variable.{Variable}

module _ (c : Names) where
  abbrev pub PlaceFor : Place → Type 0
  PlaceFor p = TypedPlace c.constants c.variables c.callees (length c.indices) c.dos p.0 p.1

  abbrev pub AssignFor : Assign → Type 0
  AssignFor = TypedAssign c.constants c.variables c.callees (length c.indices) c.dos

  -- ---- what is stored into

  names_it : (n : ℕ) (v : Variable) (b : Behind) → Gives (λ p. number_of p.1 ≡ n) (place_behind c n v b)
  names_it n v Bare = gives_found (place c n v Whole AllOf) refl
  names_it n v (Applied items) = gives_choice c (is_substring v items) _ _
      (λ s. gives_found (place c n v Whole (part_in items)) refl)
      (λ s. gives_asking (subscripts_asked v items) (place c n v (Subscripted (subscripts_of items)) AllOf) (λ ok. refl))
  names_it n v (Cut items f l) = gives_and_asking (Cuts (Some v.kind)) _
      (λ cut. gives_asking (subscripts_asked v items) (place c n v (Subscripted (subscripts_of items)) (BytesOf f l)) (λ ok. refl))

  names_variable : (n : ℕ) (o : Option Variable) (b : Behind) → Gives (λ p. number_of p.1 ≡ n) (place_of c n o b)
  names_variable n None b = gives_nothing
  names_variable n (Some v) b = names_it n v b

  stored_into : (n : ℕ) (p : Place) → Settled (Stores (slice_get c.variables n) (list_any (λ k. k == n) c.dos))
      → TypedDesignator c.constants c.variables c.callees (length c.indices) p.0 p.1 → number_of p.1 ≡ n → PlaceFor p
  stored_into n p ok h same = (h, subst (λ k. CanStore c.constants c.variables c.callees c.dos k) (sym same) ok)

  gives_placed : (s : Sense) (b : Behind) → Settled (storing c s) → TypedBehindName c b → Gives PlaceFor (placed c s b)
  gives_placed (IsVariable n) b ok h = gives_implied _
      (gives_two (place_of c n (slice_get c.variables n) b) (gives_place c n (slice_get c.variables n) refl b h)
      (names_variable n (slice_get c.variables n) b))
      (λ p g. stored_into n p ok g.0 g.1)
  gives_placed (IsConstant n) b ok h = gives_nothing
  gives_placed (IsProcedure n dummies) b ok h = gives_nothing
  gives_placed (IsIntrinsic which) b ok h = gives_nothing
  gives_placed (IsIndex k) b ok h = gives_nothing
  gives_placed IsNothing b ok h = gives_nothing

  pub gives_target : (r : source.Reference) → Gives PlaceFor (target_of c r)
  gives_target r = gives_and_asking (storing c (sense_of c (name_of r))) _ (λ ok. gives_then (behind_of c r) _ (gives_of c r)
      (λ b h. gives_placed (sense_of c (name_of r)) b ok h))

  gives_sides : (a : statement.Assignment) → Gives (Of PlaceFor (Typed c)) (sides c a)
  gives_sides a = gives_both _ _ (gives_target a.to) (gives_expr c a.value)

  assigned_well : (line : ℕ) (p : Place × Expr) → Of PlaceFor (Typed c) p → Settled (Assigns p.0.0 (facts_of p.1))
      → AssignFor (assign line p.0 p.1)
  assigned_well line p h ok = (h.0, (h.1, ok))

  gives_assigned : (line : ℕ) (p : Place × Expr) → Of PlaceFor (Typed c) p → Gives AssignFor (assigned line p)
  gives_assigned line p h = gives_asking _ (assign line p.0 p.1) (assigned_well line p h)

  pub gives_assignment : (line : ℕ) (a : statement.Assignment) → Gives AssignFor (assignment_of c line a)
  gives_assignment line a = gives_then (sides c a) _ (gives_sides a) (gives_assigned line)

  -- ---- WHERE

  abbrev FillsFor : Option Extents → Assign → Type 0
  FillsFor around a = AssignFor a × Settled (Fills around a.target.facts)

  gives_masked : (around : Option Extents) (a : statement.Sited) → Gives (FillsFor around) (masked_assign c around a)
  gives_masked around a = gives_then (sides c a.of) _ (gives_sides a.of)
      (λ p h. gives_and_asking (Fills around p.0.0) _
      (λ fill. gives_asking _ (assign a.line p.0 p.1) (λ ok. (assigned_well a.line p h ok, fill))))

  gives_mask : (around : Option Extents) (e : source.Expr)
      → Gives (TypedMask c.constants c.variables c.callees (length c.indices) around) (mask_of c around e)
  gives_mask around e = gives_then (expr_of c e) _ (gives_expr c e) (λ m h. gives_asking _ m (λ ok. (h, ok)))

  abbrev WhereFor : Option Extents → Where → Type 0
  WhereFor = TypedWhere c.constants c.variables c.callees (length c.indices) c.dos

  abbrev MaskedFor : Option Extents → MaskedBody → Type 0
  MaskedFor = TypedMasked c.constants c.variables c.callees (length c.indices) c.dos

  abbrev OthersFor : Option Extents → Others → Type 0
  OthersFor = TypedOthers c.constants c.variables c.callees (length c.indices) c.dos

  abbrev MaskFor : Option Extents → Expr → Type 0
  MaskFor = TypedMask c.constants c.variables c.callees (length c.indices)

  where_made : (line : ℕ) (around : Option Extents) (o : Option Expr) (body : MaskedBody) (others : Others)
      → Holds (MaskFor around) o
      → MaskedFor (narrowed_to around o) body → OthersFor (narrowed_to around o) others
      → Holds (WhereFor around) (option_map (masked_by line body others) o)
  where_made line around None body others h g k = tt
  where_made line around (Some mask) body others h g k = (h, (g, k))

  body_with : (around : Option Extents) (o : Option Assign) (body : MaskedBody) → Holds (FillsFor around) o → MaskedFor around body
      → MaskedFor around (with_assign o body)
  body_with around None body h g = g
  body_with around (Some a) body h g = (h, g)

  body_with_where : (around : Option Extents) (o : Option Where) (body : MaskedBody) → Holds (WhereFor around) o
      → MaskedFor around body
      → MaskedFor around (with_where o body)
  body_with_where around None body h g = g
  body_with_where around (Some w) body h g = (h, g)

  other_made : (line : ℕ) (around : Option Extents) (o : Option Expr) (body : MaskedBody) (others : Others)
      → Holds (MaskFor around) o
      → MaskedFor (narrowed_to around o) body → OthersFor around others
      → OthersFor around (with_other line (option_map Some o) body others)
  other_made line around None body others h g k = k
  other_made line around (Some mask) body others h g k = (h, (g, k))

  mutual
    pub where_is : (around : Option Extents) (b : statement.WhereBlock) → Holds (WhereFor around) (where_of c around b).is
    where_is around (statement.where_block line mask body others) = where_made line around (mask_of c around mask).made _ _
        (gives_mask around mask).made (masked_is (inside c around mask) body) (others_is (inside c around mask) others)

    masked_is : (around : Option Extents) (b : statement.Masked) → MaskedFor around (masked_of c around b).is
    masked_is around statement.no_masked = tt
    masked_is around (statement.assigning a more) =
        body_with around (masked_assign c around a).made _ (gives_masked around a).made (masked_is around more)
    masked_is around (statement.narrowed w more) =
        body_with_where around (where_of c around w).is _ (where_is around w) (masked_is around more)

    others_is : (around : Option Extents) (b : statement.Others) → OthersFor around (others_of c around b).is
    others_is around statement.no_other = tt
    others_is around (statement.elsewhere line None body more) = (masked_is around body, others_is around more)
    others_is around (statement.elsewhere line (Some mask) body more) = other_made line around (mask_of c around mask).made _ _
        (gives_mask around mask).made (masked_is (inside c around mask) body) (others_is around more)

  -- ---- FORALL

  abbrev TripletFor : Triplet → Type 0
  TripletFor = TypedTriplet c.constants c.variables c.callees (length c.indices)

  gives_triplet : (i : statement.Index) → Gives TripletFor (triplet_of c i)
  gives_triplet i = gives_and_asking (Counts (variable_of c (declared_sense c i.name))) _ (λ count. gives_then _ _
      (gives_both _ _ (gives_bounded c _ (gives_expr c i.first))
      (gives_both _ _ (gives_bounded c _ (gives_expr c i.last)) (gives_bound c i.stride)))
      (λ p h. gives_asking _ (triplet p) (λ ok. (h.0, (h.1.0, (h.1.1, ok))))))

  gives_forall_mask : (e : source.Expr) → Gives (TypedForallMask c.constants c.variables c.callees (length c.indices))
      (forall_mask c e)
  gives_forall_mask e = gives_then (expr_of c e) _ (gives_expr c e)
      (λ m h. gives_and_asking (Ranges (levels_in false m) (length c.indices)) _
      (λ ranges. gives_asking _ m (λ ok. (h, (ranges, ok)))))

  abbrev ForallFor : Assign → Type 0
  ForallFor = TypedForallAssign c.constants c.variables c.callees (length c.indices) c.dos

  gives_forall_assign : (a : statement.Sited) → Gives ForallFor (forall_assign c a)
  gives_forall_assign a = gives_then (sides c a.of) _ (gives_sides a.of)
      (λ p h. gives_and_asking (fits_indices (length c.indices) p.0.0 p.0.1) _
      (λ fits. gives_and_asking (Ranges (designator_levels false p.0.1 ++ levels_in false p.1) (length c.indices)) _
      (λ ranges. gives_asking _ (assign a.line p.0 p.1) (λ ok. (assigned_well a.line p h ok, (fits, ranges))))))

  added_well : (o : Option Assign) (body : List Assign) → Holds ForallFor o → Every ForallFor body → Every ForallFor (added o body)
  added_well None body h g = g
  added_well (Some a) body h g = (h, g)

  forall_body_is : (body : List statement.Sited) → Every ForallFor (forall_body c body).is
  forall_body_is [] = tt
  forall_body_is (a ∷ more) = added_well (forall_assign c a).made _ (gives_forall_assign a).made (forall_body_is more)

  abbrev HeaderFor : ℕ → List Triplet × Option Expr → Type 0
  HeaderFor n p = (Every TripletFor p.0 × (length p.0 ≡ n))
      × Maybe (TypedForallMask c.constants c.variables c.callees (length c.indices)) p.1

  gives_header : (h : statement.Header) → Gives (HeaderFor (length h.indices)) (header_of c h)
  gives_header h = gives_and_asking (Heads (index_names h)) _ (λ heads. gives_both _ _
      (gives_each (triplet_of c) gives_triplet h.indices) (gives_maybe (forall_mask c) gives_forall_mask h.mask))

forall_made : (c : Names) (line n : ℕ) (o : Option (List Triplet × Option Expr)) (body : List Assign) → length c.indices ≡ n
    → Holds (HeaderFor c n) o → Every (ForallFor c) body
    → Holds (TypedForall c.constants c.variables c.callees c.dos) (option_map (forall_with line body) o)
forall_made c line n None body same h g = tt
forall_made c line n (Some p) body same h g = subst
    (λ k. TypedForallBy c.constants c.variables c.callees k c.dos (forall_with line body p)) (same ∙ sym h.0.1) (h.0.0, (h.1, g))

indices_counted : (c : Names) (h : statement.Header) → length (with_header h c).indices ≡ length h.indices
indices_counted c h = length-reverse (index_names h) ∙ length-map h.indices (λ (i : statement.Index). i.name)

pub forall_is : (c : Names) (line : ℕ) (h : statement.Header) (body : List statement.Sited)
    → Holds (TypedForall c.constants c.variables c.callees c.dos) (forall_of c line h body).is
forall_is c line h body = forall_made (with_header h c) line (length h.indices) (header_of (with_header h c) h).made _
    (indices_counted c h) (gives_header (with_header h c) h).made (forall_body_is (with_header h c) body)
