use Rattle.section_algebra.proofs.Forms.{same_form}
use Rattle.section_algebra.proofs.linear_form.same_forms.Goals as goal

pub returns : goal.returns
returns c = same_form c.args.a.now c.args.b.now c.known.ensures c.known-2.ensures c.requires.constant c.requires.factors
