use Rattle.std.proofs.Common.{rules}
use Rattle.loop_rows.proofs.Exits.{no_outer}
use Rattle.loop_rows.proofs.places.outer.Goals as goal

pub returns-in-None : goal.returns-in-None
returns-in-None c = no_outer c.args.routines.now c.args.routine (search (rules, c.at.ensures)) c.args.place
