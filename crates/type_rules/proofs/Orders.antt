-- Where kinds don't fit, extents aren't compared: so it is one whether that rule comes before the other one.
use Rattle.std.proofs.Common.{◌≡◌, ◌<◌, ℕ, ◌+◌, nat_lt, Bool, true, false, not, ◌&&◌, Option, None, refl, arith}
use Rattle.std.proofs.lemmas.Bool.Decides.{nat_tests}
use Rattle.a95_base.specs.Rules.{extents_differ}
use Rattle.well_typed.specs.Rules.{rule_if}
use Rattle.type_rules.specs.Told.{then_extents}

pub extents_first : (fit differ : Bool) (rule : ℕ)
    → then_extents rule fit differ ≡ rule_if (fit && differ) extents_differ (rule_if (not fit) rule None)
extents_first true true rule = refl
extents_first true false rule = refl
extents_first false differ rule = refl

pub mask_first : (array around differ : Bool) (rule : ℕ)
    → then_extents rule (array && around) differ
    ≡ rule_if (array && (around && differ)) extents_differ (rule_if (not (array && around)) rule None)
mask_first true true true rule = refl
mask_first true true false rule = refl
mask_first true false differ rule = refl
mask_first false around differ rule = refl

pub rank_is_many : (indices rank : ℕ) → 7 < rank → nat_lt 7 (indices + rank) ≡ true
rank_is_many indices rank h = grind (arith, nat_tests, h)
