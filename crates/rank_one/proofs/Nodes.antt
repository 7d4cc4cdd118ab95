-- What each kind of node is in the first form.
use Rattle.std.proofs.Common.{◌≡◌, ℕ, Bool, List, Option, Some, None, sym, ◌∙◌, ap}
use Rattle.f95_tree.specs.Forms.{Word}
use Rattle.f95_tree.specs.declared.expression.Expression.{Expression}
use Rattle.f95_tree.specs.declared.expression.Expression.TheVariants as e
use Rattle.f95_tree.specs.declared.expression.Expression.TheOpen as layer
use Rattle.f95_tree.specs.declared.expression.Expression.TheFolds.{fold-roll-Expression, fold-roll-Reference}
use Rattle.f95_tree.specs.declared.expression.Reference.{Reference}
use Rattle.f95_tree.specs.declared.expression.Reference.TheVariants as r
use Rattle.f95_tree.specs.declared.expression.Item.{Item}
use Rattle.f95_tree.specs.declared.expression.Value.{Value}
use Rattle.f95_tree.specs.declared.expression.Literal.{Literal}
use Rattle.f95_tree.specs.declared.terminal.Operator.{Operator}
use Rattle.f95_tree.specs.declared.terminal.Sign.{Sign}
use Rattle.rank_one.specs.declared.form.NamedSum.{NamedSum}
use Rattle.rank_one.specs.declared.form.NamedFactor.TheVariants as factor
use Rattle.rank_one.specs.Forms.{◌>>=◌, number_in, one_factor, joined, name_at, sum_at, whole, sum_in}

pub sum-Literal : (l : Literal) → sum_in (e.Literal l) ≡ (number_in l >>= λ n. Some (one_factor (factor.Number n)))
sum-Literal l = ap sum_in (sym (e.rolls-Literal l)) ∙ fold-roll-Expression (Option NamedSum) (Unit {0}) (Option Word) (Unit {0})
    sum_at (λ _. tt) name_at (λ _. tt) (layer.Literal l)

pub sum-Reference : (x : Reference) → sum_in (e.Reference x) ≡ (whole x >>= λ n. Some (one_factor (factor.Name n)))
sum-Reference x = ap sum_in (sym (e.rolls-Reference x)) ∙ fold-roll-Expression (Option NamedSum) (Unit {0}) (Option Word) (Unit {0})
    sum_at (λ _. tt) name_at (λ _. tt) (layer.Reference x)

pub sum-Bracketed : (x : Expression) → sum_in (e.Bracketed x) ≡ None
sum-Bracketed x = ap sum_in (sym (e.rolls-Bracketed x)) ∙ fold-roll-Expression (Option NamedSum) (Unit {0}) (Option Word) (Unit {0})
    sum_at (λ _. tt) name_at (λ _. tt) (layer.Bracketed x)

pub sum-Constructor : (vs : List Value) → sum_in (e.Constructor vs) ≡ None
sum-Constructor vs = ap sum_in (sym (e.rolls-Constructor vs))
    ∙ fold-roll-Expression (Option NamedSum) (Unit {0}) (Option Word) (Unit {0}) sum_at (λ _. tt) name_at (λ _. tt)
    (layer.Constructor vs)

pub sum-Signed : (s : Sign) (x : Expression) → sum_in (e.Signed s x) ≡ None
sum-Signed s x = ap sum_in (sym (e.rolls-Signed s x)) ∙ fold-roll-Expression (Option NamedSum) (Unit {0}) (Option Word) (Unit {0})
    sum_at (λ _. tt) name_at (λ _. tt) (layer.Signed s x)

pub sum-Binary : (op : Operator) (a b : Expression) → sum_in (e.Binary op a b)
    ≡ (sum_in a >>= λ x. (sum_in b >>= λ y. joined op x y))
sum-Binary op a b = ap sum_in (sym (e.rolls-Binary op a b)) ∙ fold-roll-Expression (Option NamedSum) (Unit {0}) (Option Word)
    (Unit {0}) sum_at (λ _. tt) name_at (λ _. tt) (layer.Binary op a b)

pub whole-Whole : (n : Word) → whole (r.Whole n) ≡ Some n
whole-Whole n = ap whole (sym (r.rolls-Whole n)) ∙ fold-roll-Reference (Option NamedSum) (Unit {0}) (Option Word) (Unit {0}) sum_at
    (λ _. tt) name_at (λ _. tt) (layer.Whole n)

pub whole-Items : (n : Word) (items : List Item) → whole (r.Items n items) ≡ None
whole-Items n items = ap whole (sym (r.rolls-Items n items))
    ∙ fold-roll-Reference (Option NamedSum) (Unit {0}) (Option Word) (Unit {0}) sum_at (λ _. tt) name_at (λ _. tt)
    (layer.Items n items)

pub whole-Substring : (n : Word) (items : List Item) (lower upper : Option Expression) → whole (r.Substring n items (lower, upper))
    ≡ None
whole-Substring n items None None = ap whole (sym (r.rolls-Substring n items (None, None)))
    ∙ fold-roll-Reference (Option NamedSum) (Unit {0}) (Option Word) (Unit {0}) sum_at (λ _. tt) name_at (λ _. tt)
    (layer.Substring n items (None, None))
whole-Substring n items None (Some upper) = ap whole (sym (r.rolls-Substring n items (None, Some upper)))
    ∙ fold-roll-Reference (Option NamedSum) (Unit {0}) (Option Word) (Unit {0}) sum_at (λ _. tt) name_at (λ _. tt)
    (layer.Substring n items (None, Some upper))
whole-Substring n items (Some lower) None = ap whole (sym (r.rolls-Substring n items (Some lower, None)))
    ∙ fold-roll-Reference (Option NamedSum) (Unit {0}) (Option Word) (Unit {0}) sum_at (λ _. tt) name_at (λ _. tt)
    (layer.Substring n items (Some lower, None))
whole-Substring n items (Some lower) (Some upper) = ap whole (sym (r.rolls-Substring n items (Some lower, Some upper)))
    ∙ fold-roll-Reference (Option NamedSum) (Unit {0}) (Option Word) (Unit {0}) sum_at (λ _. tt) name_at (λ _. tt)
    (layer.Substring n items (Some lower, Some upper))
