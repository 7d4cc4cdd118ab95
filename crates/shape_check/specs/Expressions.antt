-- The typed expression that an expression of the source is.
use Rattle.std.specs.Prelude.{List, [], ◌∷◌, Some, None, slice_get}
use Rattle.f95_tree.specs.Forms.{Word}
use Rattle.intrinsic_table.specs.declared.intrinsic.Intrinsic.{Intrinsic}
use Rattle.names_types.specs.Plain as source
use Rattle.f95_unit.specs.Plain.{Expr, typed, Index, Bound, Absent, Items, no_item, value, loop}
use Rattle.well_typed.specs.Intrinsics.{an_integer}
use Rattle.well_typed.specs.Questions.{Counts}
use Rattle.shape_check.specs.Found.{Found, found, nothing, then_found, mapped, both, and_asking}
use Rattle.shape_check.specs.Names.{Sense, IsVariable, IsConstant, IsProcedure, IsIntrinsic, IsIndex, IsNothing, Names}
use Rattle.shape_check.specs.Names.{with_indices, declared_sense, sense_of, variable_of}
use Rattle.shape_check.specs.Nodes.{literal, signed, operated, bracketed, bounding, gathered, Item, Single, Triple, Behind, Bare}
use Rattle.shape_check.specs.Nodes.{Applied, Cut, place_of, named, scalar_behind, constant_behind, uncut, items_in, actuals_of}
use Rattle.shape_check.specs.Nodes.{called}
use Rattle.shape_check.specs.References.{referred, misreferred}

-- an intrinsic's name alone refers to nothing
abbrev pub referred_behind : Names → Intrinsic → Behind → Found Expr
referred_behind c which Bare = misreferred
referred_behind c which (Applied items) = referred c which items
referred_behind c which (Cut items f l) = uncut (Cut items f l) (referred c which items)

-- a name with what stands behind it, by what the name means
abbrev pub meant : Names → Sense → Behind → Found Expr
meant c (IsVariable n) behind = mapped named (place_of c n (slice_get c.variables n) behind)
meant c (IsConstant n) behind = constant_behind n (slice_get c.constants n) behind
meant c (IsProcedure n dummies) behind = uncut behind (called (slice_get c.callees n) n (actuals_of dummies (items_in behind)))
meant c (IsIntrinsic which) behind = referred_behind c which behind
meant c (IsIndex level) behind = scalar_behind (typed an_integer (Index level)) behind
meant c IsNothing behind = nothing

abbrev pub with_variable : Word → Names → Names
with_variable name c = with_indices (name ∷ c.indices) c

abbrev pub looped : (Items × (Expr × (Expr × Bound))) × Items → Items
looped p = loop p.0.0 p.0.1.0 p.0.1.1.0 p.0.1.1.1 p.1

-- the values of an INTEGER scalar from one bound to another
abbrev pub bounded_by : Found Expr → Found Expr
bounded_by m = then_found m (λ e. mapped (λ b. e) (bounding e))

abbrev pub name_of : source.Reference → Word
name_of (source.Whole name) = name
name_of (source.Applied name items) = name
name_of (source.Substring name items f l) = name

abbrev mutual
  pub expr_of : Names → source.Expr → Found Expr
  expr_of c (source.Literal x) = found (literal x)
  expr_of c (source.Named r) = then_found (behind_of c r) (meant c (sense_of c (name_of r)))
  expr_of c (source.Bracketed e) = mapped bracketed (expr_of c e)
  expr_of c (source.Constructor values) = then_found (values_of c values) (gathered c)
  expr_of c (source.Signed s e) = then_found (expr_of c e) (signed s)
  expr_of c (source.Binary op e f) = then_found (both (expr_of c e) (expr_of c f)) (operated op)

  -- what stands behind the name
  pub behind_of : Names → source.Reference → Found Behind
  behind_of c (source.Whole name) = found Bare
  behind_of c (source.Applied name items) = mapped Applied (items_of c items)
  behind_of c (source.Substring name items f l) =
      mapped (λ p. Cut p.0 p.1.0 p.1.1) (both (items_of c items) (both (bound_of c f) (bound_of c l)))

  pub bound_of : Names → source.Bound → Found Bound
  bound_of c source.Absent = found Absent
  bound_of c (source.Given e) = then_found (expr_of c e) bounding

  pub items_of : Names → source.Items → Found (List Item)
  items_of c source.no_item = found []
  items_of c (source.plain e more) = mapped (λ p. Single None p.0 ∷ p.1) (both (expr_of c e) (items_of c more))
  items_of c (source.keyword word e more) = mapped (λ p. Single (Some word) p.0 ∷ p.1) (both (expr_of c e) (items_of c more))
  items_of c (source.triplet f l s more) = mapped (λ p. Triple p.0.0 p.0.1.0 p.0.1.1 ∷ p.1)
      (both (both (bound_of c f) (both (bound_of c l) (bound_of c s))) (items_of c more))

  -- the variable of an implied DO has the values as its scope
  pub values_of : Names → source.Values → Found Items
  values_of c source.no_value = found no_item
  values_of c (source.value e more) = mapped (λ p. value p.0 p.1) (both (expr_of c e) (values_of c more))
  values_of c (source.loop body name first last step more) = and_asking (Counts (variable_of c (declared_sense c name)))
      (mapped looped (both (both (values_of (with_variable name c) body)
      (both (bounded_by (expr_of c first)) (both (bounded_by (expr_of c last)) (bound_of c step)))) (values_of c more)))
