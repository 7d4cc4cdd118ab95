use Rattle.std.proofs.Common.{◌≡◌, drop, map}
use Rattle.std.specs.List.{list_all}
use Rattle.names_types.specs.Rules.{is_deferred}
use Rattle.names_types.specs.View.{dim_of}
use Rattle.scope_rules.proofs.agreement.all_deferred.Given as goal

abbrev pub invariant-loop-dim : goal.invariant-loop-dim
invariant-loop-dim l = list_all is_deferred (map dim_of (drop l.dim-index l.dims)) ≡ list_all is_deferred (map dim_of l.dims)
