use Rattle.std.proofs.Common.{◌≡◌, ◌<◌, ◌+◌, ◌++◌, ◌∷◌, [], List, length, get_or, sym, ap, subst, ◌∙◌, arith, rules}
use Rattle.std.proofs.lemmas.List.{length-map, get_or-map}
use Rattle.names_types.specs.declared.meaning.Meaning.{Meaning}
use Rattle.names_types.specs.Scopes.{entry_meaning}
use Rattle.scope_entries.specs.View.{entries_of, entry_of}
use Rattle.scope_names.specs.Tables.{meant_by, meant_in}
use Rattle.scope_names.proofs.Filled.{Filled, filled_start, filled_step, filled_end}
use Rattle.scope_names.proofs.filling.meanings_of.Goals as goal

pub loop-entry-init : goal.loop-entry-init
loop-entry-init c =
    filled_start (meant_in c.args.host.now) (entries_of c.args.entries.now) c.in_ok-names.names c.new.result.items
    c.in_ok-names.ensures c.new.ensures.items

pub loop-entry-preserved : goal.loop-entry-preserved
loop-entry-preserved c =
    let i = c.loop-entry.entry-index in
    let one = c.entry-item.result in
    let es = entries_of c.args.entries.now in
    let within : i < length es = subst (λ n. i < n) (sym (length-map c.args.entries.now entry_of)) (omega arith) in
    let is : entry_of one ≡ get_or es i (entry_of one) =
    ap entry_of c.entry-item.is ∙ sym (get_or-map entry_of c.args.entries.now i one (entry_of one) (omega arith)) in
    let own = c.loop-entry.own.names in
    let known : c.as_slice.result.now ≡ c.loop-entry.own.meanings.items = search rules in
    let said : c.in_ok-meaning.meaning
    ≡ entry_meaning own (meant_in c.args.host.now) (meant_by own c.loop-entry.own.meanings.items) (entry_of one) =
    c.in_ok-meaning.ensures
    ∙ ap (λ ms. entry_meaning own (meant_in c.args.host.now) (meant_by own ms) (entry_of one)) known in
    subst (λ (ms : List Meaning). Filled (meant_in c.args.host.now) es c.loop-entry.own.names ms (i + 1))
    (sym c.in_ok-push.ensures.items)
    (filled_step (meant_in c.args.host.now) es c.loop-entry.own.names c.loop-entry.own.meanings.items i (entry_of one)
    c.in_ok-meaning.meaning
    c.loop-entry.invariant within is said)

pub returns-clause-names : goal.returns-clause-names
returns-clause-names c = c.loop-entry.invariant.names

pub returns-clause-meanings : goal.returns-clause-meanings
returns-clause-meanings c =
    let end : length (entries_of c.args.entries.now) ≡ c.loop-entry.entry-index = length-map c.args.entries.now entry_of
    ∙ omega arith in
    filled_end (meant_in c.args.host.now) (entries_of c.args.entries.now) c.loop-entry.own.names c.loop-entry.own.meanings.items
    c.loop-entry.entry-index c.loop-entry.invariant end
