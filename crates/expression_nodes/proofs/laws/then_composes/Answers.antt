use Rattle.expression_nodes.proofs.Made.{then_made, then_missing, mapped_made}
use Rattle.expression_nodes.proofs.laws.then_composes.Goals as goal

pub returns : goal.returns
returns c c' = record { made = then_made; missing = then_missing; mapped = mapped_made }
