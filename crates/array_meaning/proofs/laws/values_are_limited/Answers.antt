use Rattle.array_meaning.proofs.laws.values_are_limited.Goals as goal
use Rattle.array_meaning.proofs.Limited.{inquiries_are_limited, reductions_are_limited, values_are_limited}

pub returns : goal.returns
returns c = record { values = values_are_limited; inquiries = inquiries_are_limited; reductions = reductions_are_limited }
