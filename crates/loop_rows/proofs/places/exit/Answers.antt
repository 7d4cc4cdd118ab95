use Rattle.std.proofs.Common.{rules}
use Rattle.loop_rows.proofs.Exits.{no_exit}
use Rattle.loop_rows.proofs.places.exit.Goals as goal

pub returns-in-None : goal.returns-in-None
returns-in-None c = no_exit c.args.routines.now c.args.routine (search (rules, c.at.ensures)) c.args.place
