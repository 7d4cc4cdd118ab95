use Rattle.std.proofs.Common.{◌≡◌, ◌&&◌, not, sym, ap, ◌∙◌}
use Rattle.std.proofs.lemmas.Result.{on_ok_weaker}
use Rattle.a95_base.specs.Rules.{wrong_dummy, wrong_length}
use Rattle.names_types.specs.declared.meaning.Meaning.{Meaning}
use Rattle.names_types.specs.Rules.{declares, form_demands, site_line}
use Rattle.names_types.specs.Scopes.{has_intent, is_dummy}
use Rattle.scope_entries.specs.View.{entry_of, form_of}
use Rattle.known_scopes.specs.View.{scope_of}
use Rattle.scope_rules.specs.Sites.{sited, object_rule, site_breaks, told_demands}
use Rattle.scope_rules.specs.Told.{all_told, on_lines, line_if}
use Rattle.scope_rules.proofs.sites.tell_site.Goals as goal

pub returns-in-IntendedOther : goal.returns-in-IntendedOther
returns-in-IntendedOther c m =
    let scope = scope_of c.args.known.now.scope in
    let s = sited scope c.args.place (entry_of c.args.entry) m in
    let old = c.args.breaks.now in
    c.tell_if-in-IntendedOther.ensures
    ∙ (ap (λ b. all_told old (on_lines wrong_dummy (line_if b c.name_line-line.result))) (c.is_intended_other.ensures m)
    ∙ (ap (λ l. all_told old (on_lines wrong_dummy
    (line_if (declares (λ t o. has_intent o && not (is_dummy scope t.entry.name)) s s.entry.form) l))) c.name_line-line.ensures
    ∙ ap (λ r. all_told old (site_breaks r scope s)) (sym c.in-IntendedOther.is)))

pub returns-in_ok-holds-in-WrongLength : goal.returns-in_ok-holds-in-WrongLength
returns-in_ok-holds-in-WrongLength c m =
    let scope = scope_of c.args.known.now.scope in
    let s = sited scope c.args.place (entry_of c.args.entry) m in
    let old = c.args.breaks.now in
    c.tell_if-in-WrongLength.ensures
    ∙ (ap (λ b. all_told old (on_lines wrong_length (line_if b (site_line s)))) (c.in_ok-holds-in-WrongLength.ensures m)
    ∙ ap (λ r. all_told old (site_breaks r scope s)) (sym c.in-WrongLength.is))

pub returns-in_ok-holds-in-OfObject : goal.returns-in_ok-holds-in-OfObject
returns-in_ok-holds-in-OfObject c m =
    let scope = scope_of c.args.known.now.scope in
    let s = sited scope c.args.place (entry_of c.args.entry) m in
    let old = c.args.breaks.now in
    c.tell_if-in-OfObject.ensures
    ∙ (ap (λ n. all_told old (on_lines n (line_if c.in_ok-holds-in-OfObject.holds (site_line s)))) c.object_rule.ensures
    ∙ (ap (λ b. all_told old (on_lines (object_rule c.in-OfObject.rule) (line_if b (site_line s))))
    (c.in_ok-holds-in-OfObject.ensures m)
    ∙ ap (λ r. all_told old (site_breaks r scope s)) (sym c.in-OfObject.is)))

pub returns-in-OfDemand : goal.returns-in-OfDemand
returns-in-OfDemand c =
    let scope = scope_of c.args.known.now.scope in
    let old = c.args.breaks.now in
    on_ok_weaker {P = (m : Meaning) → c.tell_demands.new.breaks
    ≡ all_told old (told_demands c.in-OfDemand.rule scope (form_demands scope (sited scope c.args.place (entry_of c.args.entry) m)
    (form_of c.args.entry.form)))}
    c.tell_demands.result
    (λ told m. told m ∙ ap (λ r. all_told old (site_breaks r scope (sited scope c.args.place (entry_of c.args.entry) m)))
    (sym c.in-OfDemand.is))
    c.tell_demands.ensures
