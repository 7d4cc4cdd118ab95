use Rattle.std.proofs.Common.{◌≡◌, ◌+◌, ◌-◌, suc, length, sym, ◌∙◌, arith}
use Rattle.loop_text.proofs.Texts.{arguments_next}
use Rattle.loop_text.proofs.atoms.arguments.Goals as goal

pub loop-turn-preserved : goal.loop-turn-preserved
loop-turn-preserved c =
    let left : length c.args.bytes.now - c.loop-turn._turn ≡ suc (length c.args.bytes.now - (c.loop-turn._turn + 1)) =
    omega arith in
    sym (arguments_next _ _ _ _ _ _ _ _ left c.behind_argument-behind.ensures
    (sym c.byte_at-in-loop-turn.ensures ∙ c.if-byte_at-ne44.false) c.in_ok-argument.ensures c.in_ok-push.ensures.ok
    c.skip-rest.ensures)
    ∙ c.loop-turn.invariant
