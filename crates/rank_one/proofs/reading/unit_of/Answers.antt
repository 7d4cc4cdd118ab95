use Rattle.std.proofs.Common.{◌≡◌, ◌∙◌, ap}
use Rattle.a95_base.specs.Breaks.{first_of}
use Rattle.rank_one.specs.Noting.{not_yet_breaks, undeclared_breaks}
use Rattle.rank_one.specs.Reading.{unit_of, told}
use Rattle.rank_one.proofs.Told.{Tells, tells_unit, tells_typed, tells_size, tells_names, tells_form}
use Rattle.rank_one.proofs.reading.unit_of.Goals as goal

pub returns-clause-unit : goal.returns-clause-unit
returns-clause-unit c = tells_unit c.args.source c.tell.result
    (cc (c.tell.ensures, c.in_ok-judged.ensures.unit, c.in_ok-judged.ensures.not_yet, c.in_ok-judged.ensures.undeclared))

pub returns-clause-typed : goal.returns-clause-typed
returns-clause-typed c = tells_typed c.args.source c.tell.result c.in_ok-judged.ensures.fits
    (cc (c.tell.ensures, c.in_ok-judged.ensures.unit, c.in_ok-judged.ensures.not_yet, c.in_ok-judged.ensures.undeclared))

pub returns-clause-size : goal.returns-clause-size
returns-clause-size c = tells_size c.args.source c.tell.result
    (cc (c.tell.ensures, c.in_ok-judged.ensures.unit, c.in_ok-judged.ensures.not_yet, c.in_ok-judged.ensures.undeclared))

pub returns-clause-names : goal.returns-clause-names
returns-clause-names c = tells_names c.args.source c.tell.result
    (cc (c.tell.ensures, c.in_ok-judged.ensures.unit, c.in_ok-judged.ensures.not_yet, c.in_ok-judged.ensures.undeclared))

pub returns-clause-form : goal.returns-clause-form
returns-clause-form c = tells_form c.args.source c.tell.result
    (cc (c.tell.ensures, c.in_ok-judged.ensures.unit, c.in_ok-judged.ensures.not_yet, c.in_ok-judged.ensures.undeclared))
