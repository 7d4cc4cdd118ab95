use Rattle.f95a_core.proofs.Joined.{joined}
use Rattle.f95a_core.proofs.law.headline.Goals as goal

pub returns : goal.returns
returns c = joined c.one_program.ensures c.with_more_turns.ensures
