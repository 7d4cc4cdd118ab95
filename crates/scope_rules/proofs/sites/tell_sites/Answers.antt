use Rattle.std.proofs.Common.{◌≡◌, ◌<◌, ◌+◌, List, length, get_or, refl, sym, ap, subst, ◌∙◌, arith}
use Rattle.std.proofs.lemmas.List.{length-map, get_or-map}
use Rattle.names_types.specs.Scopes.{entries, sites}
use Rattle.scope_entries.specs.View.{entries_of, entry_of}
use Rattle.known_scopes.specs.View.{scope_of}
use Rattle.scope_rules.specs.Sites.{sited, site_breaks, site_rule, site_lines}
use Rattle.scope_rules.specs.Told.{all_told}
use Rattle.scope_rules.proofs.Lines.{here, telling_step, telling_end, length_sites, of_scope}
use Rattle.scope_rules.proofs.sites.tell_sites.Goals as goal

pub loop-entry-init : goal.loop-entry-init
loop-entry-init c = record { told = record { same = refl }; counted = refl }

pub loop-entry-preserved : goal.loop-entry-preserved
loop-entry-preserved c =
    let i = c.loop-entry.entry-index in
    let rule = c.args.rule in
    let scope = scope_of c.args.known.now.scope in
    let all = c.as_slice-entry-items.result.now in
    let one = c.entry-item.result in
    let same : entries_of all ≡ entries scope = ap (λ xs. entries_of xs) c.as_slice-entry-items.ensures.value ∙ c.requires.listed in
    let inside : i < length all = omega arith in
    let within : i < length (entries scope) =
    subst (λ xs. i < length xs) same (subst (λ n. i < n) (sym (length-map all entry_of)) inside) in
    let is : entry_of one ≡ get_or (entries scope) i (entry_of one) =
    ap entry_of c.entry-item.is ∙ (sym (get_or-map entry_of all i one (entry_of one) inside)
    ∙ ap (λ xs. get_or xs i (entry_of one)) same) in
    let found = here scope i (entry_of one) within is in
    let place : c.loop-entry.place ≡ i = c.loop-entry.invariant.counted in
    record {
      told = telling_step (sited scope i (entry_of one) found.meaning) c.loop-entry.invariant.told found.is
          (subst (λ n. c.tell_site.new.breaks
          ≡ all_told c.loop-entry.breaks (site_breaks rule scope (sited scope n (entry_of one) found.meaning))) place
          (c.in_ok-tell_site.ensures found.meaning));
      counted = ap (λ n. n + 1) place;
    }

pub returns : goal.returns
returns c =
    let scope = scope_of c.args.known.now.scope in
    let all = c.as_slice-entry-items.result.now in
    let same : entries_of all ≡ entries scope = ap (λ xs. entries_of xs) c.as_slice-entry-items.ensures.value ∙ c.requires.listed in
    let counted : length (entries_of all) ≡ c.loop-entry.entry-index = length-map all entry_of ∙ omega arith in
    let end : length (sites scope) ≡ c.loop-entry.entry-index = length_sites scope ∙ (sym (ap (λ xs. length xs) same) ∙ counted) in
    telling_end c.loop-entry.invariant.told end ∙ ap (λ bs. all_told c.args.breaks.now bs) (of_scope c.args.rule scope)
