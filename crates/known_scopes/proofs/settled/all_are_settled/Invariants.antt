use Rattle.std.proofs.Common.{◌≡◌, ◌||◌, not, drop}
use Rattle.std.specs.List.{list_all}
use Rattle.names_types.specs.Scopes.{is_undeclared, is_of_host}
use Rattle.known_scopes.specs.View.{scope_of}
use Rattle.known_scopes.proofs.settled.all_are_settled.Given as goal

abbrev pub invariant-loop-name : goal.invariant-loop-name
invariant-loop-name l =
    list_all (λ n. not (is_undeclared (scope_of l.known.scope) n || is_of_host (scope_of l.known.scope) n))
    (drop l.name-index l.names)
    ≡ list_all (λ n. not (is_undeclared (scope_of l.known.scope) n || is_of_host (scope_of l.known.scope) n)) l.names
