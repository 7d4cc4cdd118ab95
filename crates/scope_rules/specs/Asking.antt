-- What is told of expressions that have to be constant.
use Rattle.std.specs.Prelude.{ℕ, List, map, ◌++◌}
use Rattle.a95_base.specs.declared.breaks.Break.{Break}
use Rattle.a95_base.specs.declared.scalar.Kind.{Kind}
use Rattle.a95_base.specs.declared.scalar.Kind.TheVariants as kind
use Rattle.f95_tree.specs.Forms.{Word}
use Rattle.names_types.specs.declared.sense.Sense.{Sense}
use Rattle.names_types.specs.Plain.{Expr, TypeSpec}
use Rattle.names_types.specs.Rules.{demand, length_exprs, constant_bounds, initial_exprs, prefix_sense}
use Rattle.names_types.specs.Scopes.{Scope, Object, kind_of}
use Rattle.known_scopes.specs.View.{scope_of, senses_of}
use Rattle.scope_rules.specs.declared.asking.Asked.{Asked}
use Rattle.scope_rules.specs.declared.rules.DemandRule.{DemandRule}
use Rattle.scope_rules.specs.Sites.{told_demands}

abbrev pub told_exprs : Asked → Kind → List Expr → List Break
told_exprs a k es = told_demands a.rule (scope_of a.known.now.scope) (map (demand a.line k (senses_of a.senses)) es)

-- of a declaration that stands on the line, where names mean what the sense says
abbrev pub told_object : DemandRule → Scope → ℕ → (Word → Sense) → Object → List Break
told_object rule c line sense o = told_demands rule c
    (map (demand line kind.Int sense) (length_exprs o.of ++ constant_bounds c o)
    ++ map (demand line (kind_of o.of) sense) (initial_exprs o o.initial))

-- of a prefix that stands on the line
abbrev pub told_prefix : DemandRule → Scope → ℕ → TypeSpec → List Break
told_prefix rule c line t = told_demands rule c (map (demand line kind.Int (prefix_sense c)) (length_exprs t))
