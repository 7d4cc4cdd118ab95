use Rattle.std.proofs.Common.{false, ◌++◌, sym, ap, ◌∙◌}
use Rattle.a95_base.specs.Record.{record_text}
use Rattle.record_io.specs.Values.{ends_in_text, added_text}
use Rattle.record_io.proofs.Records.{record_text-push, ends_in_text-push}
use Rattle.record_io.proofs.record.Record.put_value.Goals as goal

pub invariant_of-self-2 : goal.invariant_of-self-2
invariant_of-self-2 c =
    let before = c.self.inside.values.items in
    let value = c.args.value.now in
    let same_values = c.in_ok-put.ensures.values in (
      c.in_ok-put.ensures.text ∙ ap (λ text. text ++ added_text c.self.inside.after_text value) c.self.invariant.0
          ∙ ap (λ after_text. record_text before ++ added_text after_text value) c.self.invariant.1
          ∙ sym (record_text-push before value) ∙ ap record_text (sym same_values),
      c.is_text_value-self-inside.ensures ∙ sym (ends_in_text-push false before value) ∙ ap (ends_in_text false) (sym same_values),
    )
