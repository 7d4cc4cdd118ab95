-- The names of a function's result.
use Rattle.std.proofs.Common.{◌≡◌, Bool, Option, Some, None, refl, sym, ap, ◌∙◌}
use Rattle.std.specs.Prelude.{option_map}
use Rattle.std.proofs.Math.Bool.{or-false}
use Rattle.f95_tree.specs.Forms.{Word}
use Rattle.intrinsic_table.specs.Finding.{is_word}
use Rattle.names_types.specs.Plain.{Function}
use Rattle.names_types.specs.Rules.{result_name}
use Rattle.names_types.specs.Scopes.{is_among}
use Rattle.scope_rules.specs.Results.{is_named}

named_among : (name : Word) (f : Option Function) → is_named name (option_map (λ (g : Function). g.result) f) ≡ is_among (result_name f) name
named_among name None = refl
named_among name (Some f) = sym (or-false (is_word name f.result))

-- a function has one result, whatever type stands before it
pub result_among : (name : Word) (o : Option Word) (f : Option Function) → o ≡ option_map (λ (g : Function). g.result) f
    → is_named name o ≡ is_among (result_name f) name
result_among name o f e = ap (λ x. is_named name x) e ∙ named_among name f
