-- What follows where a question breaks no rule.
use Rattle.std.proofs.Common.{◌≡◌, ℕ, ◌==◌, Bool, true, false, not, ◌&&◌, ◌||◌, List, length, Option, None, refl}
use Rattle.std.specs.List.{list_all}
use Rattle.std.specs.Option.{is_none}
use Rattle.a95_base.specs.Rules.{wrong_kind_or_rank, extents_differ, wrong_intrinsic_arguments, wrong_designator, wrong_store}
use Rattle.a95_base.specs.Rules.{wrong_case, wrong_mask, wrong_forall, wrong_constructor, wrong_read_item}
use Rattle.std.proofs.lemmas.Bool.{or_parts}
use Rattle.well_typed.specs.Intrinsics.{takes, has_others}
use Rattle.well_typed.specs.Questions.{Subscripts, Refers}
use Rattle.well_typed.specs.Rules.{has_wrong_kinds, has_other_extents, has_wrong_arguments, has_wrong_subscripts, has_wrong_store}
use Rattle.well_typed.specs.Rules.{has_wrong_case, has_wrong_mask, has_wrong_index, has_wrong_values, has_wrong_item, is_subscript}
use Rattle.well_typed.specs.Rules.{is_settled, rule_if}
use Rattle.well_typed.specs.Laws.{SettledBreaksNone}
use Rattle.well_typed.specs.declared.known.Given.{Given}
use Rattle.well_typed.specs.declared.family.Family.{Family}
use Rattle.well_typed.specs.declared.asked.Listed.{Listed}

not_false : (a : Bool) → not a ≡ false → a ≡ true
not_false true e = refl
not_false false e = cc

-- what is settled isn't broken
unbroken : (w : Bool) → not (w || false) ≡ true → w ≡ false
unbroken true e = cc
unbroken false e = refl

pub all_subscripts : (n : ℕ) (items : List Listed) → is_settled (Subscripts n items) ≡ true → list_all is_subscript items ≡ true
all_subscripts n items e =
    let w = unbroken (n == 0 || (not (length items == n) || not (list_all is_subscript items))) e in
    let v = (or_parts (n == 0) (not (length items == n) || not (list_all is_subscript items)) w).1 in
    not_false (list_all is_subscript items) (or_parts (not (length items == n)) (not (list_all is_subscript items)) v).1

taken : (t o : Bool) → not ((t && o) || (not t || false)) ≡ true → t ≡ true
taken true o e = refl
taken false o e = cc

-- an intrinsic takes its arguments
pub are_taken : (which : Family) (d : Option ℕ) (gs : List Given) → is_settled (Refers which d gs) ≡ true → takes which d gs ≡ true
are_taken which d gs e = taken (takes which d gs) (has_others which gs) e

-- ---- the least rule that is broken

one_of : (a b : Bool) (rule : ℕ) (later : Option ℕ) → not b ≡ is_none later → not (a || b) ≡ is_none (rule_if a rule later)
one_of true b rule later e = refl
one_of false b rule later e = e

last_of : (a : Bool) (rule : ℕ) → not a ≡ is_none (rule_if a rule None)
last_of true rule = refl
last_of false rule = refl

pub settled_breaks_none : SettledBreaksNone
settled_breaks_none q = one_of (has_wrong_kinds q) _ wrong_kind_or_rank _ (one_of (has_other_extents q) _ extents_differ _
    (one_of (has_wrong_arguments q) _ wrong_intrinsic_arguments _ (one_of (has_wrong_subscripts q) _ wrong_designator _
    (one_of (has_wrong_store q) _ wrong_store _ (one_of (has_wrong_case q) _ wrong_case _
    (one_of (has_wrong_mask q) _ wrong_mask _ (one_of (has_wrong_index q) _ wrong_forall _
    (one_of (has_wrong_values q) _ wrong_constructor _ (last_of (has_wrong_item q) wrong_read_item)))))))))
