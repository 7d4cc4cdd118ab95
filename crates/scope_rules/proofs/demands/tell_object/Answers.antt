use Rattle.std.proofs.Common.{◌≡◌, option_map, ap, ◌∙◌}
use Rattle.std.proofs.lemmas.Result.{on_ok_weaker}
use Rattle.names_types.specs.Rules.{initial_exprs}
use Rattle.names_types.specs.View.{expr_of}
use Rattle.declared_meanings.specs.Objects.{object_in}
use Rattle.known_scopes.specs.View.{scope_of, senses_of}
use Rattle.scope_rules.specs.Asking.{told_exprs}
use Rattle.scope_rules.specs.Told.{all_told}
use Rattle.scope_rules.proofs.Lines.{told_three}
use Rattle.scope_rules.proofs.demands.tell_object.Goals as goal

pub returns : goal.returns
returns c =
    let asked = c.args.asked.now in
    let o = object_in c.args.declaration.now c.args.entity.now in
    let b2 = c.tell_bounds.new.breaks in
    let b3 = c.tell_initial.new.breaks in
    on_ok_weaker {P = b3 ≡ all_told b2 (told_exprs asked c.kind_of.result (initial_exprs o o.initial))} c.tell_initial.result
    (λ e3. told_three asked.rule (scope_of asked.known.now.scope) asked.line (senses_of asked.senses) o c.args.breaks.now
    c.tell_length.new.breaks b2 b3 c.in_ok-tell_length.ensures c.in_ok-tell_bounds.ensures
    (e3 ∙ ap (λ k. all_told b2 (told_exprs asked k (initial_exprs o o.initial))) c.kind_of.ensures))
    c.tell_initial.ensures
