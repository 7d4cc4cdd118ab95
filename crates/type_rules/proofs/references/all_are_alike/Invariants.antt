use Rattle.std.proofs.Common.{◌≡◌, drop}
use Rattle.std.specs.List.{list_all}
use Rattle.well_typed.specs.Rules.{is_alike}
use Rattle.type_rules.proofs.references.all_are_alike.Given as goal

abbrev pub invariant-loop-value : goal.invariant-loop-value
invariant-loop-value l = list_all (is_alike l.first) (drop l.value-index l.values) ≡ list_all (is_alike l.first) l.values
