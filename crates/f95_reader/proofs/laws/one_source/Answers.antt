use Rattle.f95_reader.proofs.SourceLaws.{one_source}
use Rattle.f95_reader.proofs.laws.one_source.Goals as goal

pub returns : goal.returns
returns c = one_source c.one_form.ensures c.one_cut.ensures c.one_nesting.ensures
