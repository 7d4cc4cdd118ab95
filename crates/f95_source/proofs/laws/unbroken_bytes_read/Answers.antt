use Rattle.f95_source.proofs.WholeLaws.{unbroken_read}
use Rattle.f95_source.proofs.laws.unbroken_bytes_read.Goals as goal

pub returns : goal.returns
returns c = unbroken_read c.unbroken_bytes_read.ensures c.one_unit.ensures.some
