use Rattle.std.proofs.Common.{◌∙◌, sym}
use Rattle.proc_check.proofs.Refusing.{refused}
use Rattle.proc_check.proofs.check.match_calls.Goals as goal

pub returns-in-Some-clause-refused : goal.returns-in-Some-clause-refused
returns-in-Some-clause-refused c = refused c.args.unit.now c.in-Some.first (sym c.in_ok-first_break.ensures ∙ c.in-Some.is)
