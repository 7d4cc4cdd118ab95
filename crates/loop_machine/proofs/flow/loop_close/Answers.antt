use Rattle.std.proofs.Common.{ap, sym, ◌∙◌, drop}
use Rattle.std.specs.Prelude.{map}
use Rattle.loop_tree.specs.Machine.{Place, exits, loop_end}
use Rattle.loop_rows.specs.Shown.{lines_in, brace}
use Rattle.loop_rows.proofs.Exits.{exits_at_own, closes_own, closes_outer, choice_passed, at_loop}
use Rattle.loop_machine.proofs.flow.loop_close.Goals as goal

pub loop-braces-init : goal.loop-braces-init
loop-braces-init c =
    let lines = lines_in c.args.routines.now c.args.routine in
    let own = c.exit-closing.ensures in
    record {
      same = ap (loop_end (map (brace lines) c.args.braces.now)) (ap exits own ∙ exits_at_own (drop c.args.place lines));
      closes = closes_own (drop c.args.place lines) _ own;
    }

pub loop-braces-preserved : goal.loop-braces-preserved
loop-braces-preserved c =
    let lines = lines_in c.args.routines.now c.args.routine in
    record {
      same = choice_passed lines _ _ (drop c.loop-braces.closing lines) _ (sym c.is_choice.ensures ∙ c.loop-braces-test.true)
          c.drop_top.ensures c.outer-closing.ensures ∙ c.loop-braces.invariant.same;
      closes = closes_outer (drop c.loop-braces.closing lines) _ c.outer-closing.ensures;
    }

pub returns-clause-lines : goal.returns-clause-lines
returns-clause-lines c =
    let lines = lines_in c.args.routines.now c.args.routine in
    let there = at_loop lines c.loop-braces.braces (exits (drop c.loop-braces.closing lines))
    (sym c.is_choice.ensures ∙ c.loop-braces-test.false) in
    sym c.loop-braces.invariant.closes ∙ ap (λ (p : Place). p.lines) (sym there ∙ c.loop-braces.invariant.same)

pub returns-clause-braces : goal.returns-clause-braces
returns-clause-braces c =
    let lines = lines_in c.args.routines.now c.args.routine in
    let there = at_loop lines c.loop-braces.braces (exits (drop c.loop-braces.closing lines))
    (sym c.is_choice.ensures ∙ c.loop-braces-test.false) in
    ap (λ (p : Place). p.braces) (sym there ∙ c.loop-braces.invariant.same)
