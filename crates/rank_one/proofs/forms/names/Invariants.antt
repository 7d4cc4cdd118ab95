use Rattle.std.proofs.Common.{◌≡◌, [], drop}
use Rattle.rank_one.specs.Forms.{names_from}
use Rattle.rank_one.proofs.forms.names.Given as goal

abbrev pub invariant-loop-expression : goal.invariant-loop-expression
invariant-loop-expression l = names_from l.names (drop l.expression-index l.expressions) ≡ names_from [] l.expressions
