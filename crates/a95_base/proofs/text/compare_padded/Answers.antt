use Rattle.std.proofs.Common.{◌∙◌, arith}
use Rattle.a95_base.proofs.Texts.{same_at}
use Rattle.a95_base.proofs.text.compare_padded.Goals as goal

pub loop-i-preserved : goal.loop-i-preserved
loop-i-preserved c = same_at c.args.a.now c.args.b.now c.loop-i.i (omega arith) (omega arith) c.if-a-i.false ∙ c.loop-i.invariant
