use Rattle.std.proofs.Common.{◌≡◌, drop}
use Rattle.std.specs.List.{list_all}
use Rattle.well_typed.specs.Rules.{is_subscript}
use Rattle.type_rules.proofs.references.all_are_subscripts.Given as goal

abbrev pub invariant-loop-item : goal.invariant-loop-item
invariant-loop-item l = list_all is_subscript (drop l.item-index l.items) ≡ list_all is_subscript l.items
