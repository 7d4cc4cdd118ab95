use Rattle.f95_reader.proofs.WholeLaws.{unbroken_read}
use Rattle.f95_reader.proofs.laws.unbroken_bytes_read.Goals as goal

pub returns : goal.returns
returns c = unbroken_read c.cuts_unbroken.ensures.cuts c.unbroken_form.ensures c.unbroken_forms_nest.ensures
