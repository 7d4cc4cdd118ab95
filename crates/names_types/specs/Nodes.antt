-- How each node of an expression is seen.
use Rattle.std.specs.Prelude.{◌≡◌, List, map, Option, option_map}
use Rattle.f95_tree.specs.Forms.{Word}
use Rattle.f95_tree.specs.declared.expression.Expression.{Expression}
use Rattle.f95_tree.specs.declared.expression.Expression.TheVariants as e
use Rattle.f95_tree.specs.declared.expression.Reference.{Reference}
use Rattle.f95_tree.specs.declared.expression.Reference.TheVariants as r
use Rattle.f95_tree.specs.declared.expression.Item.{Item}
use Rattle.f95_tree.specs.declared.expression.Value.{Value}
use Rattle.f95_tree.specs.declared.expression.Literal.{Literal}
use Rattle.f95_tree.specs.declared.terminal.Operator.{Operator}
use Rattle.f95_tree.specs.declared.terminal.Sign.{Sign}
use Rattle.names_types.specs.Plain as plain
use Rattle.names_types.specs.View.{joined_items, joined_values, bound_of, scalar_of, expr_of, item_of, reference_of, value_of}

abbrev pub Literals : Type 0
Literals = (l : Literal) → expr_of (e.Literal l) ≡ plain.Literal (scalar_of l)

abbrev pub References : Type 0
References = (x : Reference) → expr_of (e.Reference x) ≡ plain.Named (reference_of x)

abbrev pub Brackets : Type 0
Brackets = (x : Expression) → expr_of (e.Bracketed x) ≡ plain.Bracketed (expr_of x)

abbrev pub Constructors : Type 0
Constructors = (vs : List Value) → expr_of (e.Constructor vs) ≡ plain.Constructor (joined_values (map value_of vs))

abbrev pub Signs : Type 0
Signs = (s : Sign) (x : Expression) → expr_of (e.Signed s x) ≡ plain.Signed s (expr_of x)

abbrev pub Operations : Type 0
Operations = (op : Operator) (x y : Expression) → expr_of (e.Binary op x y) ≡ plain.Binary op (expr_of x) (expr_of y)

abbrev pub WholeNames : Type 0
WholeNames = (name : Word) → reference_of (r.Whole name) ≡ plain.Whole name

abbrev pub AppliedNames : Type 0
AppliedNames = (name : Word) (items : List Item) → reference_of (r.Items name items)
    ≡ plain.Applied name (joined_items (map item_of items))

abbrev pub Substrings : Type 0
Substrings = (name : Word) (items : List Item) (lower upper : Option Expression)
    → reference_of (r.Substring name items (lower, upper))
    ≡ plain.Substring name (joined_items (map item_of items))
    (bound_of (option_map expr_of lower)) (bound_of (option_map expr_of upper))
