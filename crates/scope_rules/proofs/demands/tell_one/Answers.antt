use Rattle.std.proofs.Common.{◌≡◌, ◌∷◌, [], List}
use Rattle.std.proofs.lemmas.Result.{on_ok_weaker}
use Rattle.names_types.specs.Plain.{Expr}
use Rattle.names_types.specs.View.{expr_of}
use Rattle.scope_rules.specs.Asking.{told_exprs}
use Rattle.scope_rules.specs.Told.{all_told}
use Rattle.scope_rules.proofs.demands.tell_one.Goals as goal

pub returns : goal.returns
returns c =
    on_ok_weaker {P = (more : List Expr) → all_told c.tell_expr.new.breaks (told_exprs c.args.asked.now c.args.kind more)
    ≡ all_told c.args.breaks.now (told_exprs c.args.asked.now c.args.kind (expr_of c.args.e.now ∷ more))}
    c.tell_expr.result (λ told. told []) c.tell_expr.ensures
