-- A record with one more value.
use Rattle.std.proofs.Common.{◌≡◌, Bool, false, List, [], ◌∷◌, ◌++◌, refl, sym, ap, ◌∙◌, append_assoc, append-nil}
use Rattle.a95_base.specs.Record.{is_text, blank_before, value_text, values_text, record_text}
use Rattle.a95_base.specs.declared.scalar.Scalar.{Scalar}
use Rattle.record_io.specs.Values.{ends_in_text, added_text}

values_text-push : (after_text : Bool) (values : List Scalar) (value : Scalar)
    → values_text after_text (values ++ value ∷ [])
    ≡ values_text after_text values ++ added_text (ends_in_text after_text values) value
values_text-push after_text [] value = ap (λ text. blank_before after_text value ++ text) (append-nil (value_text value))
values_text-push after_text (first ∷ more) value =
    let blank = blank_before after_text first in
    let own = value_text first in
    let rest = values_text (is_text first) more in
    let added = added_text (ends_in_text (is_text first) more) value in
    ap (λ text. blank ++ (own ++ text)) (values_text-push (is_text first) more value)
    ∙ ap (λ text. blank ++ text) (sym (append_assoc own rest added))
    ∙ sym (append_assoc blank (own ++ rest) added)

pub record_text-push : (values : List Scalar) (value : Scalar)
    → record_text (values ++ value ∷ []) ≡ record_text values ++ added_text (ends_in_text false values) value
record_text-push values value = values_text-push false values value

pub ends_in_text-push : (after_text : Bool) (values : List Scalar) (value : Scalar)
    → ends_in_text after_text (values ++ value ∷ []) ≡ is_text value
ends_in_text-push after_text [] value = refl
ends_in_text-push after_text (first ∷ more) value = ends_in_text-push (is_text first) more value
