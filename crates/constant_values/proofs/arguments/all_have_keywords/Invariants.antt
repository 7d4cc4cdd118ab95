use Rattle.std.proofs.Common.{◌≡◌, drop}
use Rattle.std.specs.List.{list_all}
use Rattle.std.specs.Option.{is_some}
use Rattle.constant_operators.specs.declared.value.Argument.{Argument}
use Rattle.constant_values.proofs.arguments.all_have_keywords.Given as goal

abbrev pub invariant-loop-argument : goal.invariant-loop-argument
invariant-loop-argument l =
    list_all (λ (a : Argument). is_some a.keyword) (drop l.argument-index l.arguments)
    ≡ list_all (λ (a : Argument). is_some a.keyword) l.arguments
