-- Each node of an expression is seen as it is written.
use Rattle.std.proofs.Common.{Some, None, sym, ap, ◌∙◌}
use Rattle.f95_tree.specs.declared.expression.Expression.TheVariants as e
use Rattle.f95_tree.specs.declared.expression.Expression.TheOpen as layer
use Rattle.f95_tree.specs.declared.expression.Expression.TheFolds.{fold-roll-Expression, fold-roll-Reference}
use Rattle.f95_tree.specs.declared.expression.Reference.TheVariants as r
use Rattle.names_types.specs.Plain as plain
use Rattle.names_types.specs.View.{AddItem, AddValue, expression_at, item_at, reference_at, value_at, expr_of, reference_of}
use Rattle.names_types.specs.Nodes.{Literals, References, Brackets, Constructors, Signs, Operations, WholeNames, AppliedNames}
use Rattle.names_types.specs.Nodes.{Substrings}

pub literals : Literals
literals l = ap expr_of (sym (e.rolls-Literal l))
    ∙ fold-roll-Expression plain.Expr AddItem plain.Reference AddValue expression_at item_at reference_at value_at
    (layer.Literal l)

pub references : References
references x = ap expr_of (sym (e.rolls-Reference x))
    ∙ fold-roll-Expression plain.Expr AddItem plain.Reference AddValue expression_at item_at reference_at value_at
    (layer.Reference x)

pub brackets : Brackets
brackets x = ap expr_of (sym (e.rolls-Bracketed x))
    ∙ fold-roll-Expression plain.Expr AddItem plain.Reference AddValue expression_at item_at reference_at value_at
    (layer.Bracketed x)

pub constructors : Constructors
constructors vs = ap expr_of (sym (e.rolls-Constructor vs))
    ∙ fold-roll-Expression plain.Expr AddItem plain.Reference AddValue expression_at item_at reference_at value_at
    (layer.Constructor vs)

pub signs : Signs
signs s x = ap expr_of (sym (e.rolls-Signed s x))
    ∙ fold-roll-Expression plain.Expr AddItem plain.Reference AddValue expression_at item_at reference_at value_at
    (layer.Signed s x)

pub operations : Operations
operations op x y = ap expr_of (sym (e.rolls-Binary op x y))
    ∙ fold-roll-Expression plain.Expr AddItem plain.Reference AddValue expression_at item_at reference_at value_at
    (layer.Binary op x y)

pub whole_names : WholeNames
whole_names name = ap reference_of (sym (r.rolls-Whole name))
    ∙ fold-roll-Reference plain.Expr AddItem plain.Reference AddValue expression_at item_at reference_at value_at
    (layer.Whole name)

pub applied_names : AppliedNames
applied_names name items = ap reference_of (sym (r.rolls-Items name items))
    ∙ fold-roll-Reference plain.Expr AddItem plain.Reference AddValue expression_at item_at reference_at value_at
    (layer.Items name items)

pub substrings : Substrings
substrings name items None None = ap reference_of (sym (r.rolls-Substring name items (None, None)))
    ∙ fold-roll-Reference plain.Expr AddItem plain.Reference AddValue expression_at item_at reference_at value_at
    (layer.Substring name items (None, None))
substrings name items None (Some upper) = ap reference_of (sym (r.rolls-Substring name items (None, Some upper)))
    ∙ fold-roll-Reference plain.Expr AddItem plain.Reference AddValue expression_at item_at reference_at value_at
    (layer.Substring name items (None, Some upper))
substrings name items (Some lower) None = ap reference_of (sym (r.rolls-Substring name items (Some lower, None)))
    ∙ fold-roll-Reference plain.Expr AddItem plain.Reference AddValue expression_at item_at reference_at value_at
    (layer.Substring name items (Some lower, None))
substrings name items (Some lower) (Some upper) = ap reference_of (sym (r.rolls-Substring name items (Some lower, Some upper)))
    ∙ fold-roll-Reference plain.Expr AddItem plain.Reference AddValue expression_at item_at reference_at value_at
    (layer.Substring name items (Some lower, Some upper))
