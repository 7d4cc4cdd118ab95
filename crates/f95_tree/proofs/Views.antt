-- What each kind of node is seen as: its layer.
use Rattle.std.proofs.Common.{◌≡◌, List, Option, sym, ◌∙◌, ap}
use Rattle.f95_tree.specs.declared.expression.Expression.{Expression, out-Expression}
use Rattle.f95_tree.specs.declared.expression.Expression.TheVariants as e
use Rattle.f95_tree.specs.declared.expression.Expression.TheOpen as layer
use Rattle.f95_tree.specs.declared.expression.Expression.TheViews.{out-roll-Expression, out-roll-Item, out-roll-Reference}
use Rattle.f95_tree.specs.declared.expression.Expression.TheViews.{out-roll-Value}
use Rattle.f95_tree.specs.declared.expression.Reference.{Reference, out-Reference}
use Rattle.f95_tree.specs.declared.expression.Reference.TheVariants as r
use Rattle.f95_tree.specs.declared.expression.Item.{Item, out-Item}
use Rattle.f95_tree.specs.declared.expression.Item.TheVariants as i
use Rattle.f95_tree.specs.declared.expression.Value.{Value, out-Value}
use Rattle.f95_tree.specs.declared.expression.Value.TheVariants as v
use Rattle.f95_tree.specs.declared.expression.Literal.{Literal}
use Rattle.f95_tree.specs.declared.terminal.Operator.{Operator}
use Rattle.f95_tree.specs.declared.terminal.Sign.{Sign}
use Rattle.f95_tree.specs.Forms.{Word}

pub seen-Literal : (l : Literal) → out-Expression (e.Literal l) ≡ layer.Literal l
seen-Literal l = ap out-Expression (sym (e.rolls-Literal l)) ∙ out-roll-Expression (layer.Literal l)

pub seen-Reference : (x : Reference) → out-Expression (e.Reference x) ≡ layer.Reference x
seen-Reference x = ap out-Expression (sym (e.rolls-Reference x)) ∙ out-roll-Expression (layer.Reference x)

pub seen-Bracketed : (x : Expression) → out-Expression (e.Bracketed x) ≡ layer.Bracketed x
seen-Bracketed x = ap out-Expression (sym (e.rolls-Bracketed x)) ∙ out-roll-Expression (layer.Bracketed x)

pub seen-Constructor : (vs : List Value) → out-Expression (e.Constructor vs) ≡ layer.Constructor vs
seen-Constructor vs = ap out-Expression (sym (e.rolls-Constructor vs)) ∙ out-roll-Expression (layer.Constructor vs)

pub seen-Signed : (s : Sign) (x : Expression) → out-Expression (e.Signed s x) ≡ layer.Signed s x
seen-Signed s x = ap out-Expression (sym (e.rolls-Signed s x)) ∙ out-roll-Expression (layer.Signed s x)

pub seen-Binary : (op : Operator) (a b : Expression) → out-Expression (e.Binary op a b) ≡ layer.Binary op a b
seen-Binary op a b = ap out-Expression (sym (e.rolls-Binary op a b)) ∙ out-roll-Expression (layer.Binary op a b)

pub seen-Plain : (x : Expression) → out-Item (i.Plain x) ≡ layer.Plain x
seen-Plain x = ap out-Item (sym (i.rolls-Plain x)) ∙ out-roll-Item (layer.Plain x)

pub seen-Keyword : (n : Word) (x : Expression) → out-Item (i.Keyword n x) ≡ layer.Keyword n x
seen-Keyword n x = ap out-Item (sym (i.rolls-Keyword n x)) ∙ out-roll-Item (layer.Keyword n x)

pub seen-Triplet : (lower upper stride : Option Expression) → out-Item (i.Triplet lower upper stride)
    ≡ layer.Triplet lower upper stride
seen-Triplet lower upper stride = ap out-Item (sym (i.rolls-Triplet lower upper stride))
    ∙ out-roll-Item (layer.Triplet lower upper stride)

pub seen-Whole : (n : Word) → out-Reference (r.Whole n) ≡ layer.Whole n
seen-Whole n = ap out-Reference (sym (r.rolls-Whole n)) ∙ out-roll-Reference (layer.Whole n)

pub seen-Items : (n : Word) (items : List Item) → out-Reference (r.Items n items) ≡ layer.Items n items
seen-Items n items = ap out-Reference (sym (r.rolls-Items n items)) ∙ out-roll-Reference (layer.Items n items)

pub seen-Substring : (n : Word) (items : List Item) (lower upper : Option Expression) →
    out-Reference (r.Substring n items (lower, upper)) ≡ layer.Substring n items (lower, upper)
seen-Substring n items lower upper = ap out-Reference (sym (r.rolls-Substring n items (lower, upper)))
    ∙ out-roll-Reference (layer.Substring n items (lower, upper))

pub seen-One : (x : Expression) → out-Value (v.One x) ≡ layer.One x
seen-One x = ap out-Value (sym (v.rolls-One x)) ∙ out-roll-Value (layer.One x)

pub seen-ImpliedDo : (vs : List Value) (n : Word) (a b : Expression) (c : Option Expression) → out-Value (v.ImpliedDo vs n a b c)
    ≡ layer.ImpliedDo vs n a b c
seen-ImpliedDo vs n a b c = ap out-Value (sym (v.rolls-ImpliedDo vs n a b c)) ∙ out-roll-Value (layer.ImpliedDo vs n a b c)
