use Rattle.std.proofs.Common.{◌≡◌, ◌∷◌, ◌++◌, List, sym, ap, ◌∙◌}
use Rattle.std.proofs.lemmas.Result.{on_ok_weaker}
use Rattle.a95_base.specs.declared.scalar.Kind.TheVariants as kind
use Rattle.names_types.specs.Plain.{Expr}
use Rattle.names_types.specs.Rules.{bound_exprs}
use Rattle.names_types.specs.View.{expr_of, dim_of}
use Rattle.scope_rules.specs.Asking.{told_exprs}
use Rattle.scope_rules.specs.Told.{all_told}
use Rattle.scope_rules.proofs.demands.tell_dim.Goals as goal

pub returns-in_ok-tell_expr-in-Both : goal.returns-in_ok-tell_expr-in-Both
returns-in_ok-tell_expr-in-Both c =
    let asked = c.args.asked.now in
    let upper = expr_of c.in-Both.upper in
    on_ok_weaker {P = (more : List Expr) → all_told c.tell_expr-in-Both-2.new.breaks (told_exprs asked kind.Int more)
    ≡ all_told c.tell_expr-in-Both.new.breaks (told_exprs asked kind.Int (upper ∷ more))}
    c.tell_expr-in-Both-2.result
    (λ last more. last more ∙ (c.in_ok-tell_expr-in-Both.ensures (upper ∷ more)
    ∙ ap (λ d. all_told c.args.breaks.now (told_exprs asked kind.Int (bound_exprs (dim_of d) ++ more))) (sym c.in-Both.is)))
    c.tell_expr-in-Both-2.ensures
