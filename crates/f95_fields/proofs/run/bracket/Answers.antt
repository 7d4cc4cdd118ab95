use Rattle.std.proofs.Common.{sym, ◌∙◌}
use Rattle.f95_expressions.proofs.Runs.{closed_either}
use Rattle.f95_fields.proofs.run.bracket.Goals as goal

pub returns : goal.returns
returns c = c.closed_at.ensures ∙ sym (closed_either c.reading.machine c.reading.rest.now c.in_default.ensures)
    ∙ c.reading.invariant
