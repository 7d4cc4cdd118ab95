-- Bounds that are no specification expressions, where names mean what the senses say.
use Rattle.std.specs.Prelude.{Bool, not, ◌&&◌}
use Rattle.a95_base.specs.declared.scalar.Kind.TheVariants as kind
use Rattle.f95_tree.specs.Forms.{Word}
use Rattle.names_types.specs.declared.sense.Sense.{Sense}
use Rattle.names_types.specs.Constants.{valued}
use Rattle.names_types.specs.Plain.{Expr}
use Rattle.names_types.specs.Rules.{has_kind}
use Rattle.names_types.specs.Scopes.{Scope, is_settled}
use Rattle.scope_names.specs.Tables.{meant_by}
use Rattle.known_scopes.specs.Reading.{specification_with}
use Rattle.known_scopes.specs.View.{scope_of, senses_of}
use Rattle.known_scopes.specs.declared.specification.SpecificationSenses.{SpecificationSenses}

abbrev pub is_none_of : Scope → (Word → Sense) → Expr → Bool
is_none_of c sense e = is_settled c e && not (has_kind kind.Int (valued sense e))

abbrev pub said_by : SpecificationSenses → Word → Sense
said_by s = specification_with (scope_of s.known.now.scope) (meant_by s.constant.names.now s.constant.before.now)
    (senses_of s.constant)
