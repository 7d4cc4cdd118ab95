use Rattle.f95_parser.proofs.FormLaws.{one_form}
use Rattle.f95_parser.proofs.laws.one_form.Goals as goal

pub returns : goal.returns
returns c = one_form
