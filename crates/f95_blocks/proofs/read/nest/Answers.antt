use Rattle.std.proofs.Common.{◌≡◌, sym, ◌∙◌}
use Rattle.f95_nesting.proofs.Least.{first_noted}
use Rattle.f95_nesting.proofs.Exact.{read_nests}
use Rattle.f95_blocks.proofs.read.nest.Goals as goal

pub returns-in-Some-clause-refused : goal.returns-in-Some-clause-refused
returns-in-Some-clause-refused c =
    first_noted c.args.forms.items c.args.feeds c.in-Some.first (c.in_ok-state.ensures.first ∙ c.in-Some.is)

pub returns-in-Ended-clause-nested : goal.returns-in-Ended-clause-nested
returns-in-Ended-clause-nested c = read_nests c.args.forms.items c.in-Ended.source (sym c.in_ok-state.ensures.run ∙ c.in-Ended.is)
