-- The spelling and the grade of each kind of node.
use Rattle.std.proofs.Common.{◌≡◌, Bool, true, ◌&&◌, List, [], ◌∷◌, ◌++◌, map, Option, Some, None, sym, ◌∙◌, ap, nat_le}
use Rattle.std.specs.Prelude.{option_map}
use Rattle.f95_tree.specs.Forms.{Word}
use Rattle.f95_tree.specs.Grades.{Grade, all, some, maybe_well, expression_grade_at, item_well_at, reference_well_at, value_well_at}
use Rattle.f95_tree.specs.Grades.{grade, well, well_item, well_reference, well_value}
use Rattle.f95_tree.specs.declared.expression.Expression.{Expression}
use Rattle.f95_tree.specs.declared.expression.Expression.TheVariants as e
use Rattle.f95_tree.specs.declared.expression.Expression.TheOpen as layer
use Rattle.f95_tree.specs.declared.expression.Expression.TheFolds.{fold-roll-Expression, fold-roll-Item, fold-roll-Reference}
use Rattle.f95_tree.specs.declared.expression.Expression.TheFolds.{fold-roll-Value}
use Rattle.f95_tree.specs.declared.expression.Reference.{Reference}
use Rattle.f95_tree.specs.declared.expression.Reference.TheVariants as r
use Rattle.f95_tree.specs.declared.expression.Item.{Item}
use Rattle.f95_tree.specs.declared.expression.Item.TheVariants as i
use Rattle.f95_tree.specs.declared.expression.Value.{Value}
use Rattle.f95_tree.specs.declared.expression.Value.TheVariants as v
use Rattle.f95_tree.specs.declared.expression.Literal.{Literal}
use Rattle.f95_tree.specs.declared.terminal.Terminal.TheVariants as terminal
use Rattle.f95_tree.specs.declared.terminal.Operator.{Operator}
use Rattle.f95_tree.specs.declared.terminal.Sign.{Sign}
use Rattle.f95_tree.specs.declared.terminal.Punctuation.TheVariants as mark
use Rattle.f95_tree.specs.Levels.{level, left_of, right_of, sign_level, under_sign}
use Rattle.f95_tree.specs.Spelling.{Text, punctuated, commas, in_brackets, maybe, maybe_behind, sign_terminal, expression_at}
use Rattle.f95_tree.specs.Spelling.{item_at, reference_at, value_at, expression, item, reference, value}

pub expression-Literal : (l : Literal) → expression (e.Literal l) ≡ terminal.Literal l ∷ []
expression-Literal l = ap expression (sym (e.rolls-Literal l))
    ∙ fold-roll-Expression Text Text Text Text expression_at item_at reference_at value_at (layer.Literal l)

pub expression-Reference : (x : Reference) → expression (e.Reference x) ≡ reference x
expression-Reference x = ap expression (sym (e.rolls-Reference x))
    ∙ fold-roll-Expression Text Text Text Text expression_at item_at reference_at value_at (layer.Reference x)

pub expression-Bracketed : (x : Expression) → expression (e.Bracketed x) ≡ in_brackets (expression x)
expression-Bracketed x = ap expression (sym (e.rolls-Bracketed x))
    ∙ fold-roll-Expression Text Text Text Text expression_at item_at reference_at value_at (layer.Bracketed x)

pub expression-Constructor : (vs : List Value) → expression (e.Constructor vs)
    ≡ punctuated mark.OpenArray (commas (map value vs) ++ punctuated mark.CloseArray [])
expression-Constructor vs = ap expression (sym (e.rolls-Constructor vs))
    ∙ fold-roll-Expression Text Text Text Text expression_at item_at reference_at value_at (layer.Constructor vs)

pub expression-Signed : (s : Sign) (x : Expression) → expression (e.Signed s x) ≡ sign_terminal s ∷ expression x
expression-Signed s x = ap expression (sym (e.rolls-Signed s x))
    ∙ fold-roll-Expression Text Text Text Text expression_at item_at reference_at value_at (layer.Signed s x)

pub expression-Binary : (op : Operator) (a b : Expression) → expression (e.Binary op a b) ≡ expression a ++ terminal.Operator op
    ∷ expression b
expression-Binary op a b = ap expression (sym (e.rolls-Binary op a b))
    ∙ fold-roll-Expression Text Text Text Text expression_at item_at reference_at value_at (layer.Binary op a b)

pub item-Plain : (x : Expression) → item (i.Plain x) ≡ expression x
item-Plain x = ap item (sym (i.rolls-Plain x)) ∙ fold-roll-Item Text Text Text Text expression_at item_at reference_at value_at
    (layer.Plain x)

pub item-Keyword : (n : Word) (x : Expression) → item (i.Keyword n x) ≡ terminal.Name n ∷ punctuated mark.Assign (expression x)
item-Keyword n x = ap item (sym (i.rolls-Keyword n x)) ∙ fold-roll-Item Text Text Text Text expression_at item_at reference_at
    value_at (layer.Keyword n x)

pub item-Triplet : (lower upper stride : Option Expression) → item (i.Triplet lower upper stride)
    ≡ maybe (option_map expression lower) ++ punctuated mark.Colon
    (maybe (option_map expression upper) ++ maybe_behind mark.Colon (option_map expression stride))
item-Triplet None None None = ap item (sym (i.rolls-Triplet None None None))
    ∙ fold-roll-Item Text Text Text Text expression_at item_at reference_at value_at (layer.Triplet None None None)
item-Triplet None None (Some stride) = ap item (sym (i.rolls-Triplet None None (Some stride)))
    ∙ fold-roll-Item Text Text Text Text expression_at item_at reference_at value_at (layer.Triplet None None (Some stride))
item-Triplet None (Some upper) None = ap item (sym (i.rolls-Triplet None (Some upper) None))
    ∙ fold-roll-Item Text Text Text Text expression_at item_at reference_at value_at (layer.Triplet None (Some upper) None)
item-Triplet None (Some upper) (Some stride) = ap item (sym (i.rolls-Triplet None (Some upper) (Some stride)))
    ∙ fold-roll-Item Text Text Text Text expression_at item_at reference_at value_at (layer.Triplet None (Some upper) (Some stride))
item-Triplet (Some lower) None None = ap item (sym (i.rolls-Triplet (Some lower) None None))
    ∙ fold-roll-Item Text Text Text Text expression_at item_at reference_at value_at (layer.Triplet (Some lower) None None)
item-Triplet (Some lower) None (Some stride) = ap item (sym (i.rolls-Triplet (Some lower) None (Some stride)))
    ∙ fold-roll-Item Text Text Text Text expression_at item_at reference_at value_at (layer.Triplet (Some lower) None (Some stride))
item-Triplet (Some lower) (Some upper) None = ap item (sym (i.rolls-Triplet (Some lower) (Some upper) None))
    ∙ fold-roll-Item Text Text Text Text expression_at item_at reference_at value_at (layer.Triplet (Some lower) (Some upper) None)
item-Triplet (Some lower) (Some upper) (Some stride) = ap item (sym (i.rolls-Triplet (Some lower) (Some upper) (Some stride)))
    ∙ fold-roll-Item Text Text Text Text expression_at item_at reference_at value_at
    (layer.Triplet (Some lower) (Some upper) (Some stride))

pub reference-Whole : (n : Word) → reference (r.Whole n) ≡ terminal.Name n ∷ []
reference-Whole n = ap reference (sym (r.rolls-Whole n)) ∙ fold-roll-Reference Text Text Text Text expression_at item_at
    reference_at value_at (layer.Whole n)

pub reference-Items : (n : Word) (items : List Item) → reference (r.Items n items) ≡ terminal.Name n
    ∷ in_brackets (commas (map item items))
reference-Items n items = ap reference (sym (r.rolls-Items n items))
    ∙ fold-roll-Reference Text Text Text Text expression_at item_at reference_at value_at (layer.Items n items)

pub reference-Substring : (n : Word) (items : List Item) (lower upper : Option Expression) →
    reference (r.Substring n items (lower, upper)) ≡ terminal.Name n
    ∷ (in_brackets (commas (map item items))
    ++ in_brackets (maybe (option_map expression lower) ++ punctuated mark.Colon (maybe (option_map expression upper))))
reference-Substring n items None None = ap reference (sym (r.rolls-Substring n items (None, None)))
    ∙ fold-roll-Reference Text Text Text Text expression_at item_at reference_at value_at (layer.Substring n items (None, None))
reference-Substring n items None (Some upper) = ap reference (sym (r.rolls-Substring n items (None, Some upper)))
    ∙ fold-roll-Reference Text Text Text Text expression_at item_at reference_at value_at
    (layer.Substring n items (None, Some upper))
reference-Substring n items (Some lower) None = ap reference (sym (r.rolls-Substring n items (Some lower, None)))
    ∙ fold-roll-Reference Text Text Text Text expression_at item_at reference_at value_at
    (layer.Substring n items (Some lower, None))
reference-Substring n items (Some lower) (Some upper) = ap reference (sym (r.rolls-Substring n items (Some lower, Some upper)))
    ∙ fold-roll-Reference Text Text Text Text expression_at item_at reference_at value_at
    (layer.Substring n items (Some lower, Some upper))

pub value-One : (x : Expression) → value (v.One x) ≡ expression x
value-One x = ap value (sym (v.rolls-One x)) ∙ fold-roll-Value Text Text Text Text expression_at item_at reference_at value_at
    (layer.One x)

pub value-ImpliedDo : (vs : List Value) (n : Word) (a b : Expression) (c : Option Expression) → value (v.ImpliedDo vs n a b c)
    ≡ in_brackets
    (commas (map value vs)
    ++ punctuated mark.Comma
    (terminal.Name n
    ∷ punctuated mark.Assign
    (expression a ++ punctuated mark.Comma (expression b ++ maybe_behind mark.Comma (option_map expression c)))))
value-ImpliedDo vs n a b None = ap value (sym (v.rolls-ImpliedDo vs n a b None))
    ∙ fold-roll-Value Text Text Text Text expression_at item_at reference_at value_at (layer.ImpliedDo vs n a b None)
value-ImpliedDo vs n a b (Some c) = ap value (sym (v.rolls-ImpliedDo vs n a b (Some c)))
    ∙ fold-roll-Value Text Text Text Text expression_at item_at reference_at value_at (layer.ImpliedDo vs n a b (Some c))

-- ---- grades

pub grade-Literal : (l : Literal) → grade (e.Literal l) ≡ (10, true)
grade-Literal l = ap grade (sym (e.rolls-Literal l)) ∙ fold-roll-Expression Grade Bool Bool Bool expression_grade_at item_well_at
    reference_well_at value_well_at (layer.Literal l)

pub grade-Reference : (x : Reference) → grade (e.Reference x) ≡ (10, well_reference x)
grade-Reference x = ap grade (sym (e.rolls-Reference x)) ∙ fold-roll-Expression Grade Bool Bool Bool expression_grade_at
    item_well_at reference_well_at value_well_at (layer.Reference x)

pub grade-Bracketed : (x : Expression) → grade (e.Bracketed x) ≡ (10, well x)
grade-Bracketed x = ap grade (sym (e.rolls-Bracketed x)) ∙ fold-roll-Expression Grade Bool Bool Bool expression_grade_at
    item_well_at reference_well_at value_well_at (layer.Bracketed x)

pub grade-Constructor : (vs : List Value) → grade (e.Constructor vs) ≡ (10, some (map well_value vs) && all (map well_value vs))
grade-Constructor vs = ap grade (sym (e.rolls-Constructor vs))
    ∙ fold-roll-Expression Grade Bool Bool Bool expression_grade_at item_well_at reference_well_at value_well_at
    (layer.Constructor vs)

pub grade-Signed : (s : Sign) (x : Expression) → grade (e.Signed s x) ≡ (sign_level s, nat_le (under_sign s) (grade x).0 && well x)
grade-Signed s x = ap grade (sym (e.rolls-Signed s x)) ∙ fold-roll-Expression Grade Bool Bool Bool expression_grade_at item_well_at
    reference_well_at value_well_at (layer.Signed s x)

pub grade-Binary : (op : Operator) (a b : Expression) → grade (e.Binary op a b)
    ≡ (level op, (nat_le (left_of op) (grade a).0 && well a) && (nat_le (right_of op) (grade b).0 && well b))
grade-Binary op a b = ap grade (sym (e.rolls-Binary op a b))
    ∙ fold-roll-Expression Grade Bool Bool Bool expression_grade_at item_well_at reference_well_at value_well_at
    (layer.Binary op a b)

pub well_item-Plain : (x : Expression) → well_item (i.Plain x) ≡ well x
well_item-Plain x = ap well_item (sym (i.rolls-Plain x)) ∙ fold-roll-Item Grade Bool Bool Bool expression_grade_at item_well_at
    reference_well_at value_well_at (layer.Plain x)

pub well_item-Keyword : (n : Word) (x : Expression) → well_item (i.Keyword n x) ≡ well x
well_item-Keyword n x = ap well_item (sym (i.rolls-Keyword n x))
    ∙ fold-roll-Item Grade Bool Bool Bool expression_grade_at item_well_at reference_well_at value_well_at (layer.Keyword n x)

pub well_item-Triplet : (lower upper stride : Option Expression) → well_item (i.Triplet lower upper stride)
    ≡ maybe_well (option_map grade lower) && (maybe_well (option_map grade upper) && maybe_well (option_map grade stride))
well_item-Triplet None None None = ap well_item (sym (i.rolls-Triplet None None None))
    ∙ fold-roll-Item Grade Bool Bool Bool expression_grade_at item_well_at reference_well_at value_well_at
    (layer.Triplet None None None)
well_item-Triplet None None (Some stride) = ap well_item (sym (i.rolls-Triplet None None (Some stride)))
    ∙ fold-roll-Item Grade Bool Bool Bool expression_grade_at item_well_at reference_well_at value_well_at
    (layer.Triplet None None (Some stride))
well_item-Triplet None (Some upper) None = ap well_item (sym (i.rolls-Triplet None (Some upper) None))
    ∙ fold-roll-Item Grade Bool Bool Bool expression_grade_at item_well_at reference_well_at value_well_at
    (layer.Triplet None (Some upper) None)
well_item-Triplet None (Some upper) (Some stride) = ap well_item (sym (i.rolls-Triplet None (Some upper) (Some stride)))
    ∙ fold-roll-Item Grade Bool Bool Bool expression_grade_at item_well_at reference_well_at value_well_at
    (layer.Triplet None (Some upper) (Some stride))
well_item-Triplet (Some lower) None None = ap well_item (sym (i.rolls-Triplet (Some lower) None None))
    ∙ fold-roll-Item Grade Bool Bool Bool expression_grade_at item_well_at reference_well_at value_well_at
    (layer.Triplet (Some lower) None None)
well_item-Triplet (Some lower) None (Some stride) = ap well_item (sym (i.rolls-Triplet (Some lower) None (Some stride)))
    ∙ fold-roll-Item Grade Bool Bool Bool expression_grade_at item_well_at reference_well_at value_well_at
    (layer.Triplet (Some lower) None (Some stride))
well_item-Triplet (Some lower) (Some upper) None = ap well_item (sym (i.rolls-Triplet (Some lower) (Some upper) None))
    ∙ fold-roll-Item Grade Bool Bool Bool expression_grade_at item_well_at reference_well_at value_well_at
    (layer.Triplet (Some lower) (Some upper) None)
well_item-Triplet (Some lower) (Some upper) (Some stride) = ap well_item
    (sym (i.rolls-Triplet (Some lower) (Some upper) (Some stride)))
    ∙ fold-roll-Item Grade Bool Bool Bool expression_grade_at item_well_at reference_well_at value_well_at
    (layer.Triplet (Some lower) (Some upper) (Some stride))

pub well_reference-Whole : (n : Word) → well_reference (r.Whole n) ≡ true
well_reference-Whole n = ap well_reference (sym (r.rolls-Whole n))
    ∙ fold-roll-Reference Grade Bool Bool Bool expression_grade_at item_well_at reference_well_at value_well_at (layer.Whole n)

pub well_reference-Items : (n : Word) (items : List Item) → well_reference (r.Items n items) ≡ all (map well_item items)
well_reference-Items n items = ap well_reference (sym (r.rolls-Items n items))
    ∙ fold-roll-Reference Grade Bool Bool Bool expression_grade_at item_well_at reference_well_at value_well_at
    (layer.Items n items)

pub well_reference-Substring : (n : Word) (items : List Item) (lower upper : Option Expression) →
    well_reference (r.Substring n items (lower, upper)) ≡ all (map well_item items)
    && (maybe_well (option_map grade lower) && maybe_well (option_map grade upper))
well_reference-Substring n items None None = ap well_reference (sym (r.rolls-Substring n items (None, None)))
    ∙ fold-roll-Reference Grade Bool Bool Bool expression_grade_at item_well_at reference_well_at value_well_at
    (layer.Substring n items (None, None))
well_reference-Substring n items None (Some upper) = ap well_reference (sym (r.rolls-Substring n items (None, Some upper)))
    ∙ fold-roll-Reference Grade Bool Bool Bool expression_grade_at item_well_at reference_well_at value_well_at
    (layer.Substring n items (None, Some upper))
well_reference-Substring n items (Some lower) None = ap well_reference (sym (r.rolls-Substring n items (Some lower, None)))
    ∙ fold-roll-Reference Grade Bool Bool Bool expression_grade_at item_well_at reference_well_at value_well_at
    (layer.Substring n items (Some lower, None))
well_reference-Substring n items (Some lower) (Some upper) =
    ap well_reference (sym (r.rolls-Substring n items (Some lower, Some upper)))
    ∙ fold-roll-Reference Grade Bool Bool Bool expression_grade_at item_well_at reference_well_at value_well_at
    (layer.Substring n items (Some lower, Some upper))

pub well_value-One : (x : Expression) → well_value (v.One x) ≡ well x
well_value-One x = ap well_value (sym (v.rolls-One x)) ∙ fold-roll-Value Grade Bool Bool Bool expression_grade_at item_well_at
    reference_well_at value_well_at (layer.One x)

pub well_value-ImpliedDo : (vs : List Value) (n : Word) (a b : Expression) (c : Option Expression) →
    well_value (v.ImpliedDo vs n a b c) ≡ (some (map well_value vs) && all (map well_value vs))
    && (well a && (well b && maybe_well (option_map grade c)))
well_value-ImpliedDo vs n a b None = ap well_value (sym (v.rolls-ImpliedDo vs n a b None))
    ∙ fold-roll-Value Grade Bool Bool Bool expression_grade_at item_well_at reference_well_at value_well_at
    (layer.ImpliedDo vs n a b None)
well_value-ImpliedDo vs n a b (Some c) = ap well_value (sym (v.rolls-ImpliedDo vs n a b (Some c)))
    ∙ fold-roll-Value Grade Bool Bool Bool expression_grade_at item_well_at reference_well_at value_well_at
    (layer.ImpliedDo vs n a b (Some c))
