-- Induction over expressions and what stands in them: what holds of each kind of node where it holds of all inside it.
use Rattle.std.proofs.Common.{List, map, Option, Some, None, sym, subst}
use Rattle.a95_base.specs.Lists.{Every}
use Rattle.a95_base.proofs.Lists.{every_inside}
use Rattle.f95_tree.specs.declared.expression.Expression.{Expression, roll-Expression}
use Rattle.f95_tree.specs.declared.expression.Expression.TheVariants as e
use Rattle.f95_tree.specs.declared.expression.Expression.TheOpen.{Expression-F, Item-F, Reference-F, Value-F}
use Rattle.f95_tree.specs.declared.expression.Expression.TheOpen as layer
use Rattle.f95_tree.specs.declared.expression.Expression.TheFolds.{ind-Expression, ind-Item, ind-Reference, ind-Value}
use Rattle.f95_tree.specs.declared.expression.Expression.TheFolds.{map-Expression, map-Item, map-Reference, map-Value}
use Rattle.f95_tree.specs.declared.expression.Reference.{Reference, roll-Reference}
use Rattle.f95_tree.specs.declared.expression.Reference.TheVariants as r
use Rattle.f95_tree.specs.declared.expression.Item.{Item, roll-Item}
use Rattle.f95_tree.specs.declared.expression.Item.TheVariants as i
use Rattle.f95_tree.specs.declared.expression.Value.{Value, roll-Value}
use Rattle.f95_tree.specs.declared.expression.Value.TheVariants as v
use Rattle.f95_tree.specs.declared.expression.Literal.{Literal}
use Rattle.f95_tree.specs.declared.terminal.Operator.{Operator}
use Rattle.f95_tree.specs.declared.terminal.Sign.{Sign}
use Rattle.f95_tree.specs.Forms.{Word}

-- what holds of an expression, if there is one
abbrev pub Maybe : (Expression → Type 0) → Option Expression → Type 0
Maybe P None = Unit {0}
Maybe P (Some x) = P x

pub record ByNode (P : Expression → Type 0) (Q : Item → Type 0) (R : Reference → Type 0) (S : Value → Type 0) : Type 0 where
  pub on_literal : (l : Literal) → P (e.Literal l)
  pub on_reference : (x : Reference) → R x → P (e.Reference x)
  pub on_bracketed : (x : Expression) → P x → P (e.Bracketed x)
  pub on_constructor : (vs : List Value) → Every S vs → P (e.Constructor vs)
  pub on_signed : (s : Sign) (x : Expression) → P x → P (e.Signed s x)
  pub on_binary : (op : Operator) (a b : Expression) → P a → P b → P (e.Binary op a b)
  pub on_plain : (x : Expression) → P x → Q (i.Plain x)
  pub on_keyword : (n : Word) (x : Expression) → P x → Q (i.Keyword n x)
  pub on_triplet : (a b c : Option Expression) → Maybe P a → Maybe P b → Maybe P c → Q (i.Triplet a b c)
  pub on_whole : (n : Word) → R (r.Whole n)
  pub on_items : (n : Word) (items : List Item) → Every Q items → R (r.Items n items)
  pub on_substring : (n : Word) (items : List Item) (a b : Option Expression) → Every Q items → Maybe P a → Maybe P b →
      R (r.Substring n items (a, b))
  pub on_one : (x : Expression) → P x → S (v.One x)
  pub on_implied : (vs : List Value) (n : Word) (a b : Expression) (c : Option Expression) → Every S vs → P a → P b → Maybe P c →
      S (v.ImpliedDo vs n a b c)

abbrev firsts : {A : Type 0} (S : A → Type 0) → List ((x : A) × S x) → List A
firsts {A} S xs = map (λ (p : (x : A) × S x). p.0) xs

module _ (P : Expression → Type 0) (Q : Item → Type 0) (R : Reference → Type 0) (S : Value → Type 0) (by : ByNode P Q R S) where
  expression_layer : (y : Expression-F ((x : Expression) × P x) ((x : Item) × Q x) ((x : Reference) × R x) ((x : Value) × S x)) →
      P (roll-Expression
      (map-Expression ((x : Expression) × P x) ((x : Item) × Q x) ((x : Reference) × R x) ((x : Value) × S x) Expression Item
      Reference Value (λ p. p.0) (λ p. p.0) (λ p. p.0) (λ p. p.0) y))
  expression_layer (layer.Literal l) = subst P (sym (e.rolls-Literal l)) (by.on_literal l)
  expression_layer (layer.Reference x) = subst P (sym (e.rolls-Reference x.0)) (by.on_reference x.0 x.1)
  expression_layer (layer.Bracketed x) = subst P (sym (e.rolls-Bracketed x.0)) (by.on_bracketed x.0 x.1)
  expression_layer (layer.Constructor vs) = subst P (sym (e.rolls-Constructor (firsts S vs)))
      (by.on_constructor (firsts S vs) (every_inside S vs))
  expression_layer (layer.Signed s x) = subst P (sym (e.rolls-Signed s x.0)) (by.on_signed s x.0 x.1)
  expression_layer (layer.Binary op a b) = subst P (sym (e.rolls-Binary op a.0 b.0)) (by.on_binary op a.0 b.0 a.1 b.1)

  item_layer : (y : Item-F ((x : Expression) × P x) ((x : Item) × Q x) ((x : Reference) × R x) ((x : Value) × S x)) →
      Q (roll-Item
      (map-Item ((x : Expression) × P x) ((x : Item) × Q x) ((x : Reference) × R x) ((x : Value) × S x) Expression Item Reference
      Value (λ p. p.0) (λ p. p.0) (λ p. p.0) (λ p. p.0) y))
  item_layer (layer.Plain x) = subst Q (sym (i.rolls-Plain x.0)) (by.on_plain x.0 x.1)
  item_layer (layer.Keyword n x) = subst Q (sym (i.rolls-Keyword n x.0)) (by.on_keyword n x.0 x.1)
  item_layer (layer.Triplet None None None) = subst Q (sym (i.rolls-Triplet None None None)) (by.on_triplet None None None tt tt tt)
  item_layer (layer.Triplet None None (Some c)) = subst Q (sym (i.rolls-Triplet None None (Some c.0)))
      (by.on_triplet None None (Some c.0) tt tt c.1)
  item_layer (layer.Triplet None (Some b) None) = subst Q (sym (i.rolls-Triplet None (Some b.0) None))
      (by.on_triplet None (Some b.0) None tt b.1 tt)
  item_layer (layer.Triplet None (Some b) (Some c)) = subst Q (sym (i.rolls-Triplet None (Some b.0) (Some c.0)))
      (by.on_triplet None (Some b.0) (Some c.0) tt b.1 c.1)
  item_layer (layer.Triplet (Some a) None None) = subst Q (sym (i.rolls-Triplet (Some a.0) None None))
      (by.on_triplet (Some a.0) None None a.1 tt tt)
  item_layer (layer.Triplet (Some a) None (Some c)) = subst Q (sym (i.rolls-Triplet (Some a.0) None (Some c.0)))
      (by.on_triplet (Some a.0) None (Some c.0) a.1 tt c.1)
  item_layer (layer.Triplet (Some a) (Some b) None) = subst Q (sym (i.rolls-Triplet (Some a.0) (Some b.0) None))
      (by.on_triplet (Some a.0) (Some b.0) None a.1 b.1 tt)
  item_layer (layer.Triplet (Some a) (Some b) (Some c)) = subst Q (sym (i.rolls-Triplet (Some a.0) (Some b.0) (Some c.0)))
      (by.on_triplet (Some a.0) (Some b.0) (Some c.0) a.1 b.1 c.1)

  reference_layer : (y : Reference-F ((x : Expression) × P x) ((x : Item) × Q x) ((x : Reference) × R x) ((x : Value) × S x)) →
      R (roll-Reference
      (map-Reference ((x : Expression) × P x) ((x : Item) × Q x) ((x : Reference) × R x) ((x : Value) × S x) Expression Item
      Reference Value (λ p. p.0) (λ p. p.0) (λ p. p.0) (λ p. p.0) y))
  reference_layer (layer.Whole n) = subst R (sym (r.rolls-Whole n)) (by.on_whole n)
  reference_layer (layer.Items n xs) = subst R (sym (r.rolls-Items n (firsts Q xs)))
      (by.on_items n (firsts Q xs) (every_inside Q xs))
  reference_layer (layer.Substring n xs (None, None)) = subst R (sym (r.rolls-Substring n (firsts Q xs) (None, None)))
      (by.on_substring n (firsts Q xs) None None (every_inside Q xs) tt tt)
  reference_layer (layer.Substring n xs (None, Some b)) = subst R (sym (r.rolls-Substring n (firsts Q xs) (None, Some b.0)))
      (by.on_substring n (firsts Q xs) None (Some b.0) (every_inside Q xs) tt b.1)
  reference_layer (layer.Substring n xs (Some a, None)) = subst R (sym (r.rolls-Substring n (firsts Q xs) (Some a.0, None)))
      (by.on_substring n (firsts Q xs) (Some a.0) None (every_inside Q xs) a.1 tt)
  reference_layer (layer.Substring n xs (Some a, Some b)) = subst R (sym (r.rolls-Substring n (firsts Q xs) (Some a.0, Some b.0)))
      (by.on_substring n (firsts Q xs) (Some a.0) (Some b.0) (every_inside Q xs) a.1 b.1)

  value_layer : (y : Value-F ((x : Expression) × P x) ((x : Item) × Q x) ((x : Reference) × R x) ((x : Value) × S x)) →
      S (roll-Value
      (map-Value ((x : Expression) × P x) ((x : Item) × Q x) ((x : Reference) × R x) ((x : Value) × S x) Expression Item Reference
      Value (λ p. p.0) (λ p. p.0) (λ p. p.0) (λ p. p.0) y))
  value_layer (layer.One x) = subst S (sym (v.rolls-One x.0)) (by.on_one x.0 x.1)
  value_layer (layer.ImpliedDo vs n a b None) = subst S (sym (v.rolls-ImpliedDo (firsts S vs) n a.0 b.0 None))
      (by.on_implied (firsts S vs) n a.0 b.0 None (every_inside S vs) a.1 b.1 tt)
  value_layer (layer.ImpliedDo vs n a b (Some c)) = subst S (sym (v.rolls-ImpliedDo (firsts S vs) n a.0 b.0 (Some c.0)))
      (by.on_implied (firsts S vs) n a.0 b.0 (Some c.0) (every_inside S vs) a.1 b.1 c.1)

  pub each_expression : (x : Expression) → P x
  each_expression = ind-Expression P Q R S
      (λ x y is. subst (λ z. P (roll-Expression z)) is (expression_layer y))
      (λ x y is. subst (λ z. Q (roll-Item z)) is (item_layer y))
      (λ x y is. subst (λ z. R (roll-Reference z)) is (reference_layer y))
      (λ x y is. subst (λ z. S (roll-Value z)) is (value_layer y))

  pub each_item : (x : Item) → Q x
  each_item = ind-Item P Q R S
      (λ x y is. subst (λ z. P (roll-Expression z)) is (expression_layer y))
      (λ x y is. subst (λ z. Q (roll-Item z)) is (item_layer y))
      (λ x y is. subst (λ z. R (roll-Reference z)) is (reference_layer y))
      (λ x y is. subst (λ z. S (roll-Value z)) is (value_layer y))

  pub each_reference : (x : Reference) → R x
  each_reference = ind-Reference P Q R S
      (λ x y is. subst (λ z. P (roll-Expression z)) is (expression_layer y))
      (λ x y is. subst (λ z. Q (roll-Item z)) is (item_layer y))
      (λ x y is. subst (λ z. R (roll-Reference z)) is (reference_layer y))
      (λ x y is. subst (λ z. S (roll-Value z)) is (value_layer y))

  pub each_value : (x : Value) → S x
  each_value = ind-Value P Q R S
      (λ x y is. subst (λ z. P (roll-Expression z)) is (expression_layer y))
      (λ x y is. subst (λ z. Q (roll-Item z)) is (item_layer y))
      (λ x y is. subst (λ z. R (roll-Reference z)) is (reference_layer y))
      (λ x y is. subst (λ z. S (roll-Value z)) is (value_layer y))

-- Cases without induction.

abbrev Any : {A : Type 0} → A → Type 0
Any _ = Unit {0}

pub record Expressions (P : Expression → Type 0) : Type 0 where
  pub on_literal : (l : Literal) → P (e.Literal l)
  pub on_reference : (x : Reference) → P (e.Reference x)
  pub on_bracketed : (x : Expression) → P (e.Bracketed x)
  pub on_constructor : (vs : List Value) → P (e.Constructor vs)
  pub on_signed : (s : Sign) (x : Expression) → P (e.Signed s x)
  pub on_binary : (op : Operator) (a b : Expression) → P (e.Binary op a b)

expressions : (P : Expression → Type 0) → Expressions P → ByNode P Any Any Any
expressions P by = record {
  on_literal = by.on_literal;
  on_reference = λ x _. by.on_reference x;
  on_bracketed = λ x _. by.on_bracketed x;
  on_constructor = λ vs _. by.on_constructor vs;
  on_signed = λ s x _. by.on_signed s x;
  on_binary = λ op a b _ _. by.on_binary op a b;
  on_plain = λ _ _. tt;
  on_keyword = λ _ _ _. tt;
  on_triplet = λ _ _ _ _ _ _. tt;
  on_whole = λ _. tt;
  on_items = λ _ _ _. tt;
  on_substring = λ _ _ _ _ _ _ _. tt;
  on_one = λ _ _. tt;
  on_implied = λ _ _ _ _ _ _ _ _ _. tt;
}

pub expression_cases : (P : Expression → Type 0) → Expressions P → (x : Expression) → P x
expression_cases P by = each_expression P Any Any Any (expressions P by)

values : (S : Value → Type 0) → ((x : Expression) → S (v.One x)) →
    ((vs : List Value) (n : Word) (a b : Expression) (c : Option Expression) → S (v.ImpliedDo vs n a b c)) → ByNode Any Any Any S
values S one implied = record {
  on_literal = λ _. tt;
  on_reference = λ _ _. tt;
  on_bracketed = λ _ _. tt;
  on_constructor = λ _ _. tt;
  on_signed = λ _ _ _. tt;
  on_binary = λ _ _ _ _ _. tt;
  on_plain = λ _ _. tt;
  on_keyword = λ _ _ _. tt;
  on_triplet = λ _ _ _ _ _ _. tt;
  on_whole = λ _. tt;
  on_items = λ _ _ _. tt;
  on_substring = λ _ _ _ _ _ _ _. tt;
  on_one = λ x _. one x;
  on_implied = λ vs n a b c _ _ _ _. implied vs n a b c;
}

pub value_cases : (S : Value → Type 0) → ((x : Expression) → S (v.One x)) →
    ((vs : List Value) (n : Word) (a b : Expression) (c : Option Expression) → S (v.ImpliedDo vs n a b c)) → (w : Value) → S w
value_cases S one implied = each_value Any Any Any S (values S one implied)

items : (Q : Item → Type 0) → ((x : Expression) → Q (i.Plain x)) → ((n : Word) (x : Expression) → Q (i.Keyword n x)) →
    ((a b c : Option Expression) → Q (i.Triplet a b c)) → ByNode Any Q Any Any
items Q plain keyword triplet = record {
  on_literal = λ _. tt;
  on_reference = λ _ _. tt;
  on_bracketed = λ _ _. tt;
  on_constructor = λ _ _. tt;
  on_signed = λ _ _ _. tt;
  on_binary = λ _ _ _ _ _. tt;
  on_plain = λ x _. plain x;
  on_keyword = λ n x _. keyword n x;
  on_triplet = λ a b c _ _ _. triplet a b c;
  on_whole = λ _. tt;
  on_items = λ _ _ _. tt;
  on_substring = λ _ _ _ _ _ _ _. tt;
  on_one = λ _ _. tt;
  on_implied = λ _ _ _ _ _ _ _ _ _. tt;
}

pub item_cases : (Q : Item → Type 0) → ((x : Expression) → Q (i.Plain x)) → ((n : Word) (x : Expression) → Q (i.Keyword n x)) →
    ((a b c : Option Expression) → Q (i.Triplet a b c)) → (x : Item) → Q x
item_cases Q plain keyword triplet = each_item Any Q Any Any (items Q plain keyword triplet)

references : (R : Reference → Type 0) → ((n : Word) → R (r.Whole n)) → ((n : Word) (xs : List Item) → R (r.Items n xs)) →
    ((n : Word) (xs : List Item) (a b : Option Expression) → R (r.Substring n xs (a, b))) → ByNode Any Any R Any
references R whole listed part = record {
  on_literal = λ _. tt;
  on_reference = λ _ _. tt;
  on_bracketed = λ _ _. tt;
  on_constructor = λ _ _. tt;
  on_signed = λ _ _ _. tt;
  on_binary = λ _ _ _ _ _. tt;
  on_plain = λ _ _. tt;
  on_keyword = λ _ _ _. tt;
  on_triplet = λ _ _ _ _ _ _. tt;
  on_whole = whole;
  on_items = λ n xs _. listed n xs;
  on_substring = λ n xs a b _ _ _. part n xs a b;
  on_one = λ _ _. tt;
  on_implied = λ _ _ _ _ _ _ _ _ _. tt;
}

pub reference_cases : (R : Reference → Type 0) → ((n : Word) → R (r.Whole n)) → ((n : Word) (xs : List Item) → R (r.Items n xs)) →
    ((n : Word) (xs : List Item) (a b : Option Expression) → R (r.Substring n xs (a, b))) → (x : Reference) → R x
reference_cases R whole listed part = each_reference Any Any R Any (references R whole listed part)
