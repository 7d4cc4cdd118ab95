use Rattle.scope_names.proofs.Intrinsics.{named_is}
use Rattle.scope_names.proofs.senses.intrinsic_named.Goals as goal

pub returns : goal.returns
returns c = named_is c.args.name.now c.interface.result c.interface.ensures.some c.interface.ensures.none
