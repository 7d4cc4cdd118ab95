-- How an implied DO is seen.
use Rattle.std.proofs.Common.{◌≡◌, List, map, Option, Some, None, option_map, sym, ap, ◌∙◌}
use Rattle.f95_tree.specs.Forms.{Word}
use Rattle.f95_tree.specs.declared.expression.Expression.{Expression}
use Rattle.f95_tree.specs.declared.expression.Expression.TheOpen as layer
use Rattle.f95_tree.specs.declared.expression.Expression.TheFolds.{fold-roll-Value}
use Rattle.f95_tree.specs.declared.expression.Value.{Value}
use Rattle.f95_tree.specs.declared.expression.Value.TheVariants as v
use Rattle.names_types.specs.Plain as plain
use Rattle.names_types.specs.View.{AddItem, AddValue, expression_at, item_at, reference_at, value_at, joined_values, bound_of}
use Rattle.names_types.specs.View.{expr_of, value_of}

pub loop_is : (values : List Value) (name : Word) (first last : Expression) (step : Option Expression) (more : plain.Values)
    → value_of (v.ImpliedDo values name first last step) more
    ≡ plain.loop (joined_values (map value_of values)) name (expr_of first) (expr_of last) (bound_of (option_map expr_of step)) more
loop_is values name first last None more =
    ap (λ (add : AddValue). add more) (ap value_of (sym (v.rolls-ImpliedDo values name first last None))
    ∙ fold-roll-Value plain.Expr AddItem plain.Reference AddValue expression_at item_at reference_at value_at
    (layer.ImpliedDo values name first last None))
loop_is values name first last (Some step) more =
    ap (λ (add : AddValue). add more) (ap value_of (sym (v.rolls-ImpliedDo values name first last (Some step)))
    ∙ fold-roll-Value plain.Expr AddItem plain.Reference AddValue expression_at item_at reference_at value_at
    (layer.ImpliedDo values name first last (Some step)))
