-- The intrinsic of a name, as the table answers it.
use Rattle.std.proofs.Common.{◌≡◌, ◌≢◌, Option, Some, None, List, [], ◌∷◌, refl, sym, ap, ◌∙◌, IfSome, IfNone}
use Rattle.f95_tree.specs.Forms.{Word}
use Rattle.intrinsic_table.specs.declared.intrinsic.Intrinsic.{Intrinsic}
use Rattle.intrinsic_table.specs.Interface.{name_of}
use Rattle.intrinsic_table.specs.Finding.{first_named, beginning}
use Rattle.intrinsic_table.proofs.Found.{found, each_is_found, named_so}
use Rattle.names_types.specs.Keywords.{intrinsic_named}

named_is_found : (name : Word) → intrinsic_named name ≡ found name
named_is_found [] = refl
named_is_found (byte ∷ more) = refl

named_has_name : (name : Word) (w : Intrinsic) → intrinsic_named name ≡ Some w → name_of w ≡ name
named_has_name [] w e = absurd (let z : ⊥ = cc in z)
named_has_name (byte ∷ more) w e = named_so (beginning byte) (byte ∷ more) w e

none_by : (name : Word) (r : Option Intrinsic) → intrinsic_named name ≡ r → ((w : Intrinsic) → name_of w ≢ name) → None ≡ r
none_by name (Some w) e h = absurd (h w (named_has_name name w e))
none_by name None e h = refl

pub named_is : (name : Word) (r : Option Intrinsic) → IfSome r (λ w. name_of w ≡ name) →
    IfNone r ((w : Intrinsic) → name_of w ≢ name)
    → r ≡ intrinsic_named name
named_is name (Some w) some none = sym (each_is_found w) ∙ (ap found some ∙ sym (named_is_found name))
named_is name None some none = none_by name (intrinsic_named name) refl none
