-- Bounds that are no specification expressions, where names mean what they mean at a declaration.
use Rattle.std.proofs.Common.{◌≡◌, Bool, true, ◌&&◌, List, ap, ◌∙◌}
use Rattle.std.specs.List.{list_any}
use Rattle.f95_tree.specs.Forms.{Word}
use Rattle.names_types.specs.declared.sense.Sense.{Sense}
use Rattle.names_types.specs.Plain.{Expr}
use Rattle.names_types.specs.Scopes.{Scope, Meant, own_names, constant_sense, specification_sense}
use Rattle.known_scopes.specs.Reading.{specification_with}
use Rattle.scope_rules.specs.Specifying.{is_none_of}

pub specified : (c : Scope) (before known : List Meant) (sense : Word → Sense) (es fs : List Expr) (b p : Bool)
    → b ≡ list_any (is_none_of c (specification_with c before sense)) es → before ≡ known
    → sense ≡ constant_sense (own_names c) c.host known → es ≡ fs → true ≡ p
    → b ≡ (p && list_any (is_none_of c (specification_sense c known)) fs)
specified c before known sense es fs b p e1 e2 e3 e4 e5 =
    e1 ∙ (ap (λ x. list_any (is_none_of c (specification_with c x sense)) es) e2
    ∙ (ap (λ h. list_any (is_none_of c (specification_with c known h)) es) e3
    ∙ (ap (λ xs. list_any (is_none_of c (specification_sense c known)) xs) e4
    ∙ ap (λ q. q && list_any (is_none_of c (specification_sense c known)) fs) e5)))
