use Rattle.std.proofs.Common.{sym, ◌∙◌}
use Rattle.f95_parser.specs.Rules.{left_out, no_form}
use Rattle.f95_parser.proofs.read.refusal.Goals as goal

pub returns-then-begins_left_out : goal.returns-then-begins_left_out
returns-then-begins_left_out c = left_out (c.requires, sym c.begins_left_out.ensures ∙ c.if-begins_left_out.true)

pub returns-else-begins_left_out : goal.returns-else-begins_left_out
returns-else-begins_left_out c = no_form (c.requires, sym c.begins_left_out.ensures ∙ c.if-begins_left_out.false)
