use Rattle.f95_parser.proofs.FormLaws.{unbroken_form}
use Rattle.f95_parser.proofs.laws.unbroken_form.Goals as goal

pub returns : goal.returns
returns c = unbroken_form
