-- The assignments of a source: plain ones, under masks, and for indices.
use Rattle.std.specs.Prelude.{ℕ, false, List, [], ◌∷◌, ◌++◌, map, length, reverse, Option, Some, None, option_map, slice_get}
use Rattle.f95_tree.specs.Forms.{Word}
use Rattle.names_types.specs.Plain as source
use Rattle.f95_unit.specs.Plain.{Expr, Bound, Target, Assign, Where, masked, MaskedBody, no_masked, assigning, narrowed, Others}
use Rattle.f95_unit.specs.Plain.{no_other, elsewhere, Triplet, Forall}
use Rattle.shape_check.specs.Statements as statement
use Rattle.well_typed.specs.Shapes.{Extents}
use Rattle.well_typed.specs.Known.{facts_of}
use Rattle.well_typed.specs.Questions.{Question, Assigns, Decides, Stores, Masks, Fills, Heads, Ranges, Counts}
use Rattle.shape_check.specs.Found.{Found, nothing, asking, then_found, both, each_found, maybe_found, and_asking}
use Rattle.shape_check.specs.Names.{Sense, IsVariable, Names, with_indices, declared_sense, sense_of, number_in, variable_of}
use Rattle.shape_check.specs.Names.{is_of_do}
use Rattle.shape_check.specs.Nodes.{Place, place_of, Behind}
use Rattle.shape_check.specs.Expressions.{name_of, behind_of, expr_of, bound_of, bounded_by}
use Rattle.well_typed.specs.Levels.{levels_in, designator_levels}
use Rattle.well_typed.specs.Masks.{joint_around, triplet_levels, fits_indices}
use Rattle.shape_check.specs.Told.{Told, told, mapped_told, both_told, told_at}

-- ---- what is stored into

abbrev pub placed : Names → Sense → Behind → Found Place
placed c (IsVariable n) behind = place_of c n (slice_get c.variables n) behind
placed c other behind = nothing

abbrev pub storing : Names → Sense → Question
storing c s = Stores (variable_of c s) (is_of_do c (number_in s))

-- whether a store may name it doesn't depend on its subscripts
abbrev pub target_of : Names → source.Reference → Found Place
target_of c r = and_asking (storing c (sense_of c (name_of r))) (then_found (behind_of c r) (placed c (sense_of c (name_of r))))

abbrev pub target : Place → Target
target p = record { facts = p.0; designator = p.1 }

abbrev pub assign : ℕ → Place → Expr → Assign
assign line p e = record { line = line; target = target p; value = e }

abbrev pub assigned : ℕ → Place × Expr → Found Assign
assigned line p = asking (Assigns p.0.0 (facts_of p.1)) (assign line p.0 p.1)

-- the target and the value, both with their types
abbrev pub sides : Names → statement.Assignment → Found (Place × Expr)
sides c a = both (target_of c a.to) (expr_of c a.value)

abbrev pub assignment_of : Names → ℕ → statement.Assignment → Found Assign
assignment_of c line a = then_found (sides c a) (assigned line)

-- ---- WHERE: `around` is what is known of the shape of the masks around

abbrev pub masked_assign : Names → Option Extents → statement.Sited → Found Assign
masked_assign c around a = then_found (sides c a.of) (λ p. and_asking (Fills around p.0.0) (assigned a.line p))

abbrev pub mask_of : Names → Option Extents → source.Expr → Found Expr
mask_of c around e = then_found (expr_of c e) (λ m. asking (Masks around (facts_of m)) m)

abbrev pub narrowed_to : Option Extents → Option Expr → Option Extents
narrowed_to around None = around
narrowed_to around (Some mask) = Some (joint_around around (facts_of mask).extents)

abbrev pub inside : Names → Option Extents → source.Expr → Option Extents
inside c around mask = narrowed_to around (mask_of c around mask).made

abbrev pub inside_other : Names → Option Extents → Option source.Expr → Option Extents
inside_other c around None = around
inside_other c around (Some mask) = inside c around mask

abbrev pub mask_told : Names → Option Extents → ℕ → source.Expr → Told (Option Expr)
mask_told c around line e = told_at line (mask_of c around e)

-- a mask that is there, and has its type or not; or none
abbrev pub other_mask : Names → Option Extents → ℕ → Option source.Expr → Told (Option (Option Expr))
other_mask c around line None = told (Some None)
other_mask c around line (Some e) = mapped_told (option_map Some) (mask_told c around line e)

abbrev pub with_assign : Option Assign → MaskedBody → MaskedBody
with_assign None body = body
with_assign (Some a) body = assigning a body

abbrev pub with_where : Option Where → MaskedBody → MaskedBody
with_where None body = body
with_where (Some w) body = narrowed w body

abbrev pub with_other : ℕ → Option (Option Expr) → MaskedBody → Others → Others
with_other line None body others = others
with_other line (Some mask) body others = elsewhere line mask body others

abbrev pub masked_by : ℕ → MaskedBody → Others → Expr → Where
masked_by line body others mask = masked line mask body others

abbrev mutual
  pub where_of : Names → Option Extents → statement.WhereBlock → Told (Option Where)
  where_of c around (statement.where_block line mask body others) = mapped_told (λ p. option_map (masked_by line p.1.0 p.1.1) p.0)
      (both_told (mask_told c around line mask)
      (both_told (masked_of c (inside c around mask) body) (others_of c (inside c around mask) others)))

  pub masked_of : Names → Option Extents → statement.Masked → Told MaskedBody
  masked_of c around statement.no_masked = told no_masked
  masked_of c around (statement.assigning a more) = mapped_told (λ p. with_assign p.0 p.1)
      (both_told (told_at a.line (masked_assign c around a)) (masked_of c around more))
  masked_of c around (statement.narrowed w more) =
      mapped_told (λ p. with_where p.0 p.1) (both_told (where_of c around w) (masked_of c around more))

  pub others_of : Names → Option Extents → statement.Others → Told Others
  others_of c around statement.no_other = told no_other
  others_of c around (statement.elsewhere line mask body more) = mapped_told (λ p. with_other line p.0 p.1.0 p.1.1)
      (both_told (other_mask c around line mask)
      (both_told (masked_of c (inside_other c around mask) body) (others_of c around more)))

-- ---- FORALL: the construct is the scope of its indices; the first one has the least number

abbrev pub index_names : statement.Header → List Word
index_names h = map (λ (i : statement.Index). i.name) h.indices

abbrev pub with_header : statement.Header → Names → Names
with_header h c = with_indices (reverse (index_names h)) c

abbrev pub triplet : Expr × (Expr × Bound) → Triplet
triplet p = record { first = p.0; last = p.1.0; stride = p.1.1 }

-- the indices around are those of the FORALL
abbrev pub ranging : Names → Triplet → Found Triplet
ranging c t = asking (Ranges (triplet_levels t) (length c.indices)) t

abbrev pub triplet_of : Names → statement.Index → Found Triplet
triplet_of c i = and_asking (Counts (variable_of c (declared_sense c i.name)))
    (then_found (both (bounded_by (expr_of c i.first)) (both (bounded_by (expr_of c i.last)) (bound_of c i.stride)))
    (λ p. ranging c (triplet p)))

abbrev pub deciding : Expr → Found Expr
deciding e = asking (Decides (facts_of e)) e

abbrev pub forall_mask : Names → source.Expr → Found Expr
forall_mask c e = then_found (expr_of c e) (λ m. and_asking (Ranges (levels_in false m) (length c.indices)) (deciding m))

abbrev pub forall_assigned : Names → ℕ → Place × Expr → Found Assign
forall_assigned c line p = and_asking (fits_indices (length c.indices) p.0.0 p.0.1)
    (and_asking (Ranges (designator_levels false p.0.1 ++ levels_in false p.1) (length c.indices)) (assigned line p))

abbrev pub forall_assign : Names → statement.Sited → Found Assign
forall_assign c a = then_found (sides c a.of) (forall_assigned c a.line)

abbrev pub header_of : Names → statement.Header → Found (List Triplet × Option Expr)
header_of c h = and_asking (Heads (index_names h)) (both (each_found (triplet_of c) h.indices)
    (maybe_found (forall_mask c) h.mask))

abbrev pub added : Option Assign → List Assign → List Assign
added None body = body
added (Some a) body = a ∷ body

abbrev pub forall_body : Names → List statement.Sited → Told (List Assign)
forall_body c [] = told []
forall_body c (a ∷ more) =
    mapped_told (λ p. added p.0 p.1) (both_told (told_at a.line (forall_assign c a)) (forall_body c more))

abbrev pub forall_with : ℕ → List Assign → List Triplet × Option Expr → Forall
forall_with line body p = record { line = line; triplets = p.0; mask = p.1; body = body }

abbrev pub forall_of : Names → ℕ → statement.Header → List statement.Sited → Told (Option Forall)
forall_of c line h body = mapped_told (λ p. option_map (forall_with line p.1) p.0)
    (both_told (told_at line (header_of (with_header h c) h)) (forall_body (with_header h c) body))
