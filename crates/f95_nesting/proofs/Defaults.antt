-- CASE DEFAULT among CASEs.
use Rattle.std.proofs.Common.{◌≡◌, Bool, true, false, List, [], ◌∷◌, map, ◌∙◌, ap, refl}
use Rattle.f95_tree.specs.declared.source.Case.{Case}
use Rattle.f95_nesting.specs.Lists.{is_absent}
use Rattle.f95_nesting.specs.Placed.{Range, case_range}
use Rattle.f95_nesting.specs.Machine.{case_head, seen_after, has_default}
use Rattle.f95_nesting.proofs.Texts.{range-Case}

case_default : (k : Case) → (case_range k).default ≡ is_absent k.ranges
case_default k = ap (λ (r : Range). r.default) (range-Case (case_head k.line k.ranges k.name) k.body)

seen_stays : (rs : List Range) → seen_after true rs ≡ true
seen_stays [] = refl
seen_stays (r ∷ rs) = seen_stays rs

pub default_first : (k : Case) (ks : List Case) → is_absent k.ranges ≡ true → has_default (k ∷ ks) ≡ true
default_first k ks h = ap (λ b. seen_after b (map case_range ks)) (case_default k ∙ h) ∙ seen_stays (map case_range ks)

pub default_rest : (k : Case) (ks : List Case) → is_absent k.ranges ≡ false → has_default (k ∷ ks) ≡ has_default ks
default_rest k ks h = ap (λ b. seen_after b (map case_range ks)) (case_default k ∙ h)
