use Rattle.f95_reader.proofs.SourceLaws.{breaks_nothing}
use Rattle.f95_reader.proofs.laws.breaks_nothing.Goals as goal

pub returns : goal.returns
returns c = breaks_nothing c.one_form.ensures c.one_cut.ensures c.cuts_unbroken.ensures.only
