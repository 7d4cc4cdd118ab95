-- How each statement of the first form is printed as a tree of the reader, and which numbers it may have.
use Rattle.std.specs.Prelude.{◌≡◌, ℕ, pos, nat_le, Bool, true, false, ◌&&◌, List, [], ◌∷◌, map, fold, Some, None}
use Rattle.std.specs.List.{list_all}
use Rattle.a95_base.specs.declared.source.Line.{Line}
use Rattle.f95_tree.specs.Forms.{Word}
use Rattle.f95_tree.specs.declared.expression.Expression.{Expression}
use Rattle.f95_tree.specs.declared.expression.Expression.TheVariants as e
use Rattle.f95_tree.specs.declared.expression.Reference.TheVariants as r
use Rattle.f95_tree.specs.declared.expression.Literal.TheVariants as literal
use Rattle.f95_tree.specs.declared.terminal.Operator.{Operator}
use Rattle.f95_tree.specs.declared.terminal.Operator.TheVariants as operator
use Rattle.f95_tree.specs.declared.source.Statement.{Statement}
use Rattle.f95_tree.specs.declared.source.Statement.TheVariants as statement
use Rattle.f95_tree.specs.declared.action.Action.{Action}
use Rattle.f95_tree.specs.declared.action.Action.TheVariants as act
use Rattle.f95_tree.specs.declared.declaration.Declaration.{Declaration}
use Rattle.f95_tree.specs.declared.declaration.Entity.{Entity}
use Rattle.f95_tree.specs.declared.declaration.TypeSpec.TheVariants as type_spec
use Rattle.f95_tree.specs.declared.declaration.Dim.TheVariants as dim
use Rattle.rank_one.specs.declared.form.NamedAction.{NamedAction}
use Rattle.rank_one.specs.declared.form.NamedAction.TheVariants as action
use Rattle.rank_one.specs.declared.form.NamedArray.{NamedArray}
use Rattle.rank_one.specs.declared.form.NamedSum.{NamedSum}
use Rattle.rank_one.specs.declared.form.NamedTerm.{NamedTerm}
use Rattle.rank_one.specs.declared.form.NamedAddend.{NamedAddend}
use Rattle.rank_one.specs.declared.form.NamedFactor.{NamedFactor}
use Rattle.rank_one.specs.declared.form.NamedFactor.TheVariants as factor

abbrev pub number_tree : ℕ → Expression
number_tree n = e.Literal (literal.Number (pos n))

abbrev pub name_tree : Word → Expression
name_tree n = e.Reference (r.Whole n)

abbrev pub factor_tree : NamedFactor → Expression
factor_tree (factor.Number n) = number_tree n
factor_tree (factor.Name n) = name_tree n

-- factors and terms, each bound to all before it
abbrev pub times : Expression → NamedFactor → Expression
times tree f = e.Binary operator.Multiply tree (factor_tree f)

abbrev pub term_tree : NamedTerm → Expression
term_tree t = fold times (factor_tree t.first) t.rest

abbrev pub sign_of : Bool → Operator
sign_of true = operator.Subtract
sign_of false = operator.Add

abbrev pub plus : Expression → NamedAddend → Expression
plus tree a = e.Binary (sign_of a.minus) tree (term_tree a.term)

abbrev pub sum_tree : NamedSum → Expression
sum_tree s = fold plus (term_tree s.first) s.rest

abbrev pub action_tree : NamedAction → Action
action_tree (action.Assign target value) = act.Assignment (record { to = r.Whole target; value = sum_tree value })
action_tree (action.Print first rest) = act.Print (map name_tree (first ∷ rest))

-- name ( extent )
abbrev pub array_tree : NamedArray → Entity
array_tree a = record { name = a.name; dims = Some (dim.Upper (number_tree a.extent) ∷ []); initial = None }

-- INTEGER, with or without ::
abbrev pub declaration_tree : Bool → List NamedArray → Declaration
declaration_tree colons arrays =
    record { of = type_spec.Integer; attributes = []; colons = colons; entities = map array_tree arrays }

-- each number is one of the language

abbrev pub is_integer_value : ℕ → Bool
is_integer_value n = nat_le n 2147483647

abbrev pub fits_factor : NamedFactor → Bool
fits_factor (factor.Number n) = is_integer_value n
fits_factor (factor.Name n) = true

abbrev pub fits_term : NamedTerm → Bool
fits_term t = fits_factor t.first && list_all fits_factor t.rest

abbrev pub fits_sum : NamedSum → Bool
fits_sum s = fits_term s.first && list_all (λ a. fits_term a.term) s.rest

abbrev pub fits_action : NamedAction → Bool
fits_action (action.Assign target value) = fits_sum value
fits_action (action.Print first rest) = true

-- the statement is printed from this action, whose numbers fit
pub record IsStated (x : Statement) (a : NamedAction) : Type 0 where
  pub line : Line
  pub tree : statement.Action line (action_tree a) ≡ x
  pub fits : fits_action a ≡ true
