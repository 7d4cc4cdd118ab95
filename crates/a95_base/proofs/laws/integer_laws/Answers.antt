use Rattle.a95_base.proofs.Wrapping.{wrapped_is_the_one}
use Rattle.a95_base.proofs.Moduli.{modulo_is_near, remainder_is_near}
use Rattle.a95_base.proofs.laws.integer_laws.Goals as goal

pub returns : goal.returns
returns c = record { wrapped = wrapped_is_the_one; modulo = modulo_is_near; remainder = remainder_is_near }
