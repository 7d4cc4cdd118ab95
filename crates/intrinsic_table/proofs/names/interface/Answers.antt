use Rattle.intrinsic_table.proofs.Found.{named_if_some}
use Rattle.intrinsic_table.proofs.names.interface.Goals as goal

pub returns-clause-some : goal.returns-clause-some
returns-clause-some c = named_if_some c.beginning.result.now c.args.name.now c.first_named.result c.first_named.ensures
