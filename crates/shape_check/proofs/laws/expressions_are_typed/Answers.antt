use Rattle.shape_check.proofs.Typed.{expressions_are_typed}
use Rattle.shape_check.proofs.Telling.{made_breaks_none}
use Rattle.shape_check.proofs.laws.expressions_are_typed.Goals as goal

pub returns : goal.returns
returns c = record { typed = expressions_are_typed; unbroken = made_breaks_none }
