use Rattle.std.proofs.Common.{◌≡◌, ◌∷◌, [], ◌++◌, map, option_map, OnOk, Result, Ok, Err, ◌∙◌, sym, ap, rules}
use Rattle.names_types.specs.Plain.{Values}
use Rattle.names_types.specs.Mentions.{names_in, names_in_bound, names_in_values}
use Rattle.names_types.specs.View.{expr_of, value_of, joined_values, bound_of}
use Rattle.statement_names.proofs.Joined.{joined}
use Rattle.statement_names.proofs.Loops.{loop_is}
use Rattle.statement_names.proofs.expressions.+names.Goals as goal

on_ok : {A E P Q : Type 0} (r : Result A E) → OnOk r P → (P → Q) → OnOk r Q
on_ok (Ok a) h f = f h
on_ok (Err e) h f = tt

pub value_names-returns-in_ok-expression_names-in-ImpliedDo-2 :
    goal.value_names-returns-in_ok-expression_names-in-ImpliedDo-2
value_names-returns-in_ok-expression_names-in-ImpliedDo-2 t c =
    let before = c.args.names.now.items in
    let body = names_in_values (joined_values (map value_of c.in-ImpliedDo.values)) in
    let first = names_in (expr_of c.in-ImpliedDo.first) in
    let last = names_in (expr_of c.in-ImpliedDo.last) in
    let step = names_in_bound (bound_of (option_map expr_of c.in-ImpliedDo.step)) in
    let n1 = c.add_name.new.names.items in
    let n2 = c.values_names.new.names.items in
    let n3 = c.expression_names-in-ImpliedDo.new.names.items in
    let n4 = c.expression_names-in-ImpliedDo-2.new.names.items in
    let n5 = c.boxed_names.new.names.items in
    let e2 : n2 ≡ n1 ++ body = search rules in
    let e3 : n3 ≡ n2 ++ first = search rules in
    let e4 : n4 ≡ n3 ++ last = search rules in
    let said : (more : Values) → names_in_values (value_of c.args.value.now more)
    ≡ c.in-ImpliedDo.name ∷ (body ++ (first ++ (last ++ (step ++ names_in_values more)))) =
    λ more. ap (λ v. names_in_values (value_of v more)) c.in-ImpliedDo.is
    ∙ ap names_in_values
    (loop_is c.in-ImpliedDo.values c.in-ImpliedDo.name c.in-ImpliedDo.first c.in-ImpliedDo.last c.in-ImpliedDo.step more) in
    on_ok {P = n5 ≡ n4 ++ step} c.boxed_names.result c.boxed_names.ensures (λ e5 more.
    joined before n1 n2 n3 n4 n5 c.in-ImpliedDo.name body first last step (names_in_values more)
    c.in_ok-add_name-in-ImpliedDo.ensures e2 e3 e4 e5
    ∙ ap (λ ns. before ++ ns) (sym (said more)))
