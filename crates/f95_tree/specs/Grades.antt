-- What makes an expression well formed: each operand binds as tightly as its operator asks, and no list of values is empty.
use Rattle.std.specs.Prelude.{ℕ, Bool, true, false, ◌&&◌, nat_le, List, [], ◌∷◌, Option, Some, None}
use Rattle.f95_tree.specs.declared.expression.Expression.{Expression}
use Rattle.f95_tree.specs.declared.expression.Reference.{Reference}
use Rattle.f95_tree.specs.declared.expression.Item.{Item}
use Rattle.f95_tree.specs.declared.expression.Value.{Value}
use Rattle.f95_tree.specs.declared.expression.Expression.TheOpen.{Expression-F, Reference-F, Item-F, Value-F}
use Rattle.f95_tree.specs.declared.expression.Expression.TheOpen as layer
use Rattle.f95_tree.specs.declared.expression.Expression.TheFolds.{fold-Expression, fold-Item, fold-Reference, fold-Value}
use Rattle.f95_tree.specs.Levels.{level, left_of, right_of, sign_level, under_sign}

-- how tightly an expression binds, and whether all inside it is well formed
abbrev pub Grade : Type 0
Grade = ℕ × Bool

abbrev pub all : List Bool → Bool
all [] = true
all (b ∷ bs) = b && all bs

abbrev pub some : {A : Type 0} → List A → Bool
some [] = false
some (_ ∷ _) = true

abbrev pub maybe_well : Option Grade → Bool
maybe_well None = true
maybe_well (Some g) = g.1

abbrev pub expression_grade_at : Expression-F Grade Bool Bool Bool → Grade
expression_grade_at (layer.Literal _) = (10, true)
expression_grade_at (layer.Reference r) = (10, r)
expression_grade_at (layer.Bracketed e) = (10, e.1)
expression_grade_at (layer.Constructor values) = (10, some values && all values)
expression_grade_at (layer.Signed s e) = (sign_level s, nat_le (under_sign s) e.0 && e.1)
expression_grade_at (layer.Binary op a b) = (level op, (nat_le (left_of op) a.0 && a.1) && (nat_le (right_of op) b.0 && b.1))

abbrev pub item_well_at : Item-F Grade Bool Bool Bool → Bool
item_well_at (layer.Plain e) = e.1
item_well_at (layer.Keyword _ e) = e.1
item_well_at (layer.Triplet lower upper stride) = maybe_well lower && (maybe_well upper && maybe_well stride)

abbrev pub reference_well_at : Reference-F Grade Bool Bool Bool → Bool
reference_well_at (layer.Whole _) = true
reference_well_at (layer.Items _ items) = all items
reference_well_at (layer.Substring _ items (lower, upper)) = all items && (maybe_well lower && maybe_well upper)

abbrev pub value_well_at : Value-F Grade Bool Bool Bool → Bool
value_well_at (layer.One e) = e.1
value_well_at (layer.ImpliedDo values _ first last step) = (some values && all values) && (first.1 && (last.1 && maybe_well step))

abbrev pub grade : Expression → Grade
grade = fold-Expression Grade Bool Bool Bool expression_grade_at item_well_at reference_well_at value_well_at

abbrev pub well : Expression → Bool
well e = (grade e).1

abbrev pub well_item : Item → Bool
well_item = fold-Item Grade Bool Bool Bool expression_grade_at item_well_at reference_well_at value_well_at

abbrev pub well_reference : Reference → Bool
well_reference = fold-Reference Grade Bool Bool Bool expression_grade_at item_well_at reference_well_at value_well_at

abbrev pub well_value : Value → Bool
well_value = fold-Value Grade Bool Bool Bool expression_grade_at item_well_at reference_well_at value_well_at
