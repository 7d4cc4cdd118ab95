use Rattle.array_meaning.proofs.laws.function_calls_ignore.Goals as goal
use Rattle.array_meaning.proofs.Ignored.{function_calls_ignore}

pub returns : goal.returns
returns c = function_calls_ignore
