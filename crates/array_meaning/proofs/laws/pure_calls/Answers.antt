use Rattle.array_meaning.proofs.laws.pure_calls.Goals as goal
use Rattle.array_meaning.proofs.PureCalls.{pure_calls_are_still, pure_functions_take_turns}

pub returns : goal.returns
returns c = record { still = pure_calls_are_still; functions = pure_functions_take_turns }
