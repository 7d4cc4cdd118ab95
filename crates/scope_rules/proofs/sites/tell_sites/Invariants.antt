use Rattle.std.proofs.Common.{◌≡◌}
use Rattle.names_types.specs.Scopes.{sites}
use Rattle.known_scopes.specs.View.{scope_of}
use Rattle.scope_rules.specs.Sites.{site_breaks}
use Rattle.scope_rules.proofs.Lines.{Telling}
use Rattle.scope_rules.proofs.sites.tell_sites.Given as goal

abbrev pub invariant-loop-entry : goal.invariant-loop-entry
invariant-loop-entry l = record {
  told : Telling (site_breaks l.rule (scope_of l.known.scope)) (sites (scope_of l.known.scope)) l.initial.breaks l.breaks l.entry-index;
  counted : l.place ≡ l.entry-index;
}
