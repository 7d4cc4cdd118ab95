-- What the fields in brackets and in rows are taken for.
use Rattle.std.specs.Prelude.{ℕ, Bool, true, false, nat_eq, List, [], ◌∷◌, ◌++◌, Option, Some, None, option_map, option_and_then}
use Rattle.std.specs.Prelude.{codes, if◌then◌else◌}
use Rattle.std.specs.Cmp.Lexicographic.{pointwise}
use Rattle.f95_tree.specs.declared.expression.Expression.{Expression, out-Expression}
use Rattle.f95_tree.specs.declared.expression.Reference.{Reference, out-Reference}
use Rattle.f95_tree.specs.declared.expression.Item.{Item, out-Item}
use Rattle.f95_tree.specs.declared.expression.Value.{Value}
use Rattle.f95_tree.specs.declared.expression.Expression.TheOpen.{Expression-F, Reference-F, Item-F}
use Rattle.f95_tree.specs.declared.expression.Expression.TheOpen as layer
use Rattle.f95_tree.specs.declared.declaration.Dim.{Dim}
use Rattle.f95_tree.specs.declared.declaration.Dim.TheVariants as dim
use Rattle.f95_tree.specs.declared.declaration.Entity.{Entity}
use Rattle.f95_tree.specs.declared.action.Argument.{Argument}
use Rattle.f95_tree.specs.declared.action.Allocation.{Allocation}
use Rattle.f95_tree.specs.declared.action.Bound.{Bound}
use Rattle.f95_tree.specs.declared.action.Bound.TheVariants as bound
use Rattle.f95_tree.specs.declared.action.Header.{Header}
use Rattle.f95_tree.specs.declared.action.Index.{Index}
use Rattle.f95_tree.specs.declared.action.Assignment.{Assignment}
use Rattle.f95_tree.specs.declared.form.CaseRange.{CaseRange}
use Rattle.f95_tree.specs.declared.form.CaseRange.TheVariants as range
use Rattle.f95_tree.specs.Forms.{Word}
use Rattle.f95_expressions.specs.declared.pending.Field.{Field}
use Rattle.f95_expressions.specs.declared.pending.Spread.{Spread}
use Rattle.f95_expressions.specs.declared.pending.Spread.TheVariants as spread
use Rattle.f95_expressions.specs.Machine.{lone, whole, collected, within, expression_of, has_left}

abbrev pub is : Word → Word → Bool
is name word = pointwise nat_eq word name

-- Lists of items, the first one first.

-- each item made into something, behind what is there
abbrev pub picked : {A : Type 0} → (Item → Option A) → List A → List Item → Option (List A)
picked make done [] = Some done
picked make done (x ∷ xs) = option_and_then (λ a. picked make (done ++ a ∷ []) xs) (make x)

-- at least one
abbrev pub filled : {A : Type 0} → List A → Option (List A)
filled [] = None
filled (x ∷ xs) = Some (x ∷ xs)

abbrev pub ItemLayer : Type 0
ItemLayer = Item-F Expression Item Reference Value

abbrev pub dim_of_bounds : Option Expression → Option Expression → Option Expression → Option Dim
dim_of_bounds None None None = Some dim.Deferred
dim_of_bounds (Some lower) None None = Some (dim.Lower lower)
dim_of_bounds (Some lower) (Some upper) None = Some (dim.Both lower upper)
dim_of_bounds _ _ _ = None

abbrev pub dim_in : ItemLayer → Option Dim
dim_in (layer.Plain upper) = Some (dim.Upper upper)
dim_in (layer.Keyword _ _) = None
dim_in (layer.Triplet lower upper stride) = dim_of_bounds lower upper stride

-- the bounds of one dimension
abbrev pub dim_of : Item → Option Dim
dim_of x = dim_in (out-Item x)

abbrev pub dims_of : List Item → Option (List Dim)
dims_of xs = option_and_then filled (picked dim_of [] xs)

abbrev pub bound_of_bounds : Option Expression → Option Expression → Option Expression → Option Bound
bound_of_bounds (Some lower) (Some upper) None = Some (bound.Both lower upper)
bound_of_bounds _ _ _ = None

abbrev pub bound_in : ItemLayer → Option Bound
bound_in (layer.Plain upper) = Some (bound.Upper upper)
bound_in (layer.Keyword _ _) = None
bound_in (layer.Triplet lower upper stride) = bound_of_bounds lower upper stride

-- the bounds of one dimension in ALLOCATE
abbrev pub bound_of : Item → Option Bound
bound_of x = bound_in (out-Item x)

abbrev pub bounds_of : List Item → Option (List Bound)
bounds_of xs = option_and_then filled (picked bound_of [] xs)

-- Fields.

abbrev pub ExpressionLayer : Type 0
ExpressionLayer = Expression-F Expression Item Reference Value

abbrev pub reference_in : ExpressionLayer → Option Reference
reference_in (layer.Reference x) = Some x
reference_in _ = None

-- an expression that is a reference
abbrev pub as_reference : Expression → Option Reference
as_reference x = reference_in (out-Expression x)

abbrev pub reference_of : Field → Option Reference
reference_of f = option_and_then as_reference (expression_of f)

abbrev pub name_of : Field → Option Word
name_of f = option_and_then whole (expression_of f)

abbrev pub spread_expression : Spread → Option Expression
spread_expression (spread.One w) = lone w
spread_expression _ = None

-- name = e, or e
abbrev pub keyword_of : Option Expression → Option (Option Word)
keyword_of None = Some None
keyword_of (Some x) = option_map Some (whole x)

abbrev pub argument : Option Word → Expression → Argument
argument n x = record { keyword = n; value = x }

abbrev pub argument_of : Field → Option Argument
argument_of f = option_and_then (λ n. option_map (argument n) (spread_expression f.spread)) (keyword_of f.left)

abbrev pub ReferenceLayer : Type 0
ReferenceLayer = Reference-F Expression Item Reference Value

abbrev pub entity : Word → Option (List Dim) → Option Expression → Entity
entity n dims initial = record { name = n; dims = dims; initial = initial }

abbrev pub entity_in : Option Expression → ReferenceLayer → Option Entity
entity_in initial (layer.Whole n) = Some (entity n None initial)
entity_in initial (layer.Items n xs) = option_map (λ dims. entity n (Some dims) initial) (dims_of xs)
entity_in initial (layer.Substring _ _ _) = None

abbrev pub entity_named : Option Expression → Reference → Option Entity
entity_named initial x = entity_in initial (out-Reference x)

-- name ( dims ) = e
abbrev pub entity_from : Option Expression → Spread → Option Entity
entity_from None s = option_and_then (λ x. option_and_then (entity_named None) (as_reference x)) (spread_expression s)
entity_from (Some left) s = option_and_then (λ initial. option_and_then (entity_named (Some initial)) (as_reference left))
    (spread_expression s)

abbrev pub entity_of : Field → Option Entity
entity_of f = entity_from f.left f.spread

abbrev pub allocation : Word → List Bound → Allocation
allocation n bounds = record { name = n; bounds = bounds }

abbrev pub allocation_in : ReferenceLayer → Option Allocation
allocation_in (layer.Whole _) = None
allocation_in (layer.Items n xs) = option_map (allocation n) (bounds_of xs)
allocation_in (layer.Substring _ _ _) = None

abbrev pub allocation_named : Reference → Option Allocation
allocation_named x = allocation_in (out-Reference x)

abbrev pub allocation_of : Field → Option Allocation
allocation_of f = option_and_then allocation_named (reference_of f)

abbrev pub range_of_bounds : Option Expression → Option Expression → Option Expression → Option CaseRange
range_of_bounds (Some lower) None None = Some (range.From lower)
range_of_bounds None (Some upper) None = Some (range.UpTo upper)
range_of_bounds (Some lower) (Some upper) None = Some (range.Between lower upper)
range_of_bounds _ _ _ = None

abbrev pub range_from : Option Expression → Spread → Option CaseRange
range_from None (spread.One w) = option_map range.One (lone w)
range_from None (spread.Triplet lower upper stride) = range_of_bounds lower upper stride
range_from _ _ = None

abbrev pub range_of : Field → Option CaseRange
range_of f = range_from f.left f.spread

abbrev pub index : Option Expression → Word → Expression → Expression → Index
index stride n lower upper = record { name = n; lower = lower; upper = upper; stride = stride }

abbrev pub index_of_bounds : Word → Option Expression → Option Expression → Option Expression → Option Index
index_of_bounds n (Some lower) (Some upper) stride = Some (index stride n lower upper)
index_of_bounds n _ _ _ = None

abbrev pub index_from : Option Expression → Spread → Option Index
index_from (Some left) (spread.Triplet lower upper stride) =
    option_and_then (λ n. index_of_bounds n lower upper stride) (whole left)
index_from _ _ = None

-- name = lower : upper : stride
abbrev pub index_of : Field → Option Index
index_of f = index_from f.left f.spread

abbrev pub header : Option Expression → List Index → Header
header mask indices = record { indices = indices; mask = mask }

abbrev pub indices_of : Option Expression → List Field → Option Header
indices_of mask [] = None
indices_of mask (f ∷ fs) = option_map (header mask) (collected index_of [] (f ∷ fs))

-- the header of a FORALL, the last field first
abbrev pub header_of : List Field → Option Header
header_of [] = None
header_of (f ∷ fs) = if has_left f then indices_of None (f ∷ fs) else option_and_then (λ mask. indices_of (Some mask) fs)
    (expression_of f)

abbrev pub assignment : Reference → Expression → Assignment
assignment to x = record { to = to; value = x }

abbrev pub assignment_from : Option Expression → Spread → Option Assignment
assignment_from None s = None
assignment_from (Some left) s = option_and_then (λ to. option_map (assignment to) (spread_expression s)) (as_reference left)

abbrev pub assignment_of : Field → Option Assignment
assignment_of f = assignment_from f.left f.spread
