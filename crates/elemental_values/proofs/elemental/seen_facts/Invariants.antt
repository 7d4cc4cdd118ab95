use Rattle.std.proofs.Common.{◌≡◌, drop}
use Rattle.names_types.specs.Constants.{seen_facts}
use Rattle.elemental_values.proofs.elemental.seen_facts.Given as goal

abbrev pub invariant-loop-argument : goal.invariant-loop-argument
invariant-loop-argument l = seen_facts l.place (drop l.argument-index l.seen) ≡ seen_facts l.place l.seen
