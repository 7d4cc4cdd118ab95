use Rattle.std.proofs.Common.{◌≡◌, ◌∷◌, length, sym, ap, subst, ◌∙◌, arith}
use Rattle.std.specs.Vec.Iter.{into_iter_items}
use Rattle.f95_reader.specs.Judging.{GoesOn}
use Rattle.f95_reader.proofs.Judgements.{goes_on_first, goes_on_added, judged_at_end}
use Rattle.f95_reader.proofs.forms.judged.Goals as goal

pub loop-statement-preserved : goal.loop-statement-preserved
loop-statement-preserved c =
    let at = c.loop-statement in
    let steps = c.in-Some.ensures.steps in (
      goes_on_added c.args.statements.items c.in-Some.statement (into_iter_items c.next.new.self) at.judgement.forms.items
          c.add.new.self.forms.items at.judgement.breaks.items c.add.new.self.breaks.items
          (subst (λ z. GoesOn c.args.statements.items z at.judgement.forms.items at.judgement.breaks.items) steps.0 at.invariant.0)
          c.in_ok-add.ensures,
      let was = at.invariant.1 in
          let gone = steps.1 in
          let short = ap length steps.0 in
          omega arith,
    )

pub returns : goal.returns
returns c =
    let at = c.loop-statement in
    judged_at_end c.args.statements.items (into_iter_items at.statement-iterator) at.judgement.forms.items at.judgement.breaks.items
    at.invariant.0 (sym at.invariant.1 ∙ c.in-None.ensures.steps.0)
