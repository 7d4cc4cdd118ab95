use Rattle.f95_source.proofs.FitLaws.{unit_typed, unit_within}
use Rattle.f95_source.proofs.laws.units_are_typed.Goals as goal

pub returns-clause-typed : goal.returns-clause-typed
returns-clause-typed c = unit_typed c.terminals_within.ensures c.lines_within.ensures c.units_are_typed.ensures.size
    c.units_are_typed.ensures.typed

pub returns-clause-size : goal.returns-clause-size
returns-clause-size c = unit_within c.terminals_within.ensures c.lines_within.ensures c.units_are_typed.ensures.size
