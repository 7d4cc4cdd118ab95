-- How an expression is spelled.
use Rattle.std.specs.Prelude.{List, [], ◌∷◌, ◌++◌, Option, Some, None}
use Rattle.f95_tree.specs.declared.expression.Expression.{Expression}
use Rattle.f95_tree.specs.declared.expression.Reference.{Reference}
use Rattle.f95_tree.specs.declared.expression.Item.{Item}
use Rattle.f95_tree.specs.declared.expression.Value.{Value}
use Rattle.f95_tree.specs.declared.expression.Expression.TheOpen.{Expression-F, Reference-F, Item-F, Value-F}
use Rattle.f95_tree.specs.declared.expression.Expression.TheOpen as layer
use Rattle.f95_tree.specs.declared.expression.Expression.TheFolds.{fold-Expression, fold-Item, fold-Reference, fold-Value}
use Rattle.f95_tree.specs.declared.terminal.Terminal.{Terminal}
use Rattle.f95_tree.specs.declared.terminal.Terminal.TheVariants as terminal
use Rattle.f95_tree.specs.declared.terminal.Sign.{Sign}
use Rattle.f95_tree.specs.declared.terminal.Sign.TheVariants as sign
use Rattle.f95_tree.specs.declared.terminal.Operator.TheVariants as operator
use Rattle.f95_tree.specs.declared.terminal.Punctuation.{Punctuation}
use Rattle.f95_tree.specs.declared.terminal.Punctuation.TheVariants as mark

abbrev pub Text : Type 0
Text = List Terminal

abbrev pub punctuated : Punctuation → Text → Text
punctuated p more = terminal.Punctuation p ∷ more

-- each text behind a comma
abbrev pub behind_commas : List Text → Text
behind_commas [] = []
behind_commas (x ∷ xs) = punctuated mark.Comma (x ++ behind_commas xs)

-- texts parted by commas
abbrev pub commas : List Text → Text
commas [] = []
commas (x ∷ xs) = x ++ behind_commas xs

abbrev pub in_brackets : Text → Text
in_brackets inside = punctuated mark.Open (inside ++ punctuated mark.Close [])

-- what may be absent
abbrev pub maybe : Option Text → Text
maybe None = []
maybe (Some x) = x

-- what may be absent, together with what stands before it
abbrev pub maybe_behind : Punctuation → Option Text → Text
maybe_behind p None = []
maybe_behind p (Some x) = punctuated p x

abbrev pub sign_terminal : Sign → Terminal
sign_terminal sign.Plus = terminal.Operator operator.Add
sign_terminal sign.Minus = terminal.Operator operator.Subtract
sign_terminal sign.Not = terminal.Not

-- one node, each expression inside it given as it is spelled

abbrev pub expression_at : Expression-F Text Text Text Text → Text
expression_at (layer.Literal l) = terminal.Literal l ∷ []
expression_at (layer.Reference r) = r
expression_at (layer.Bracketed e) = in_brackets e
expression_at (layer.Constructor values) = punctuated mark.OpenArray (commas values ++ punctuated mark.CloseArray [])
expression_at (layer.Signed s e) = sign_terminal s ∷ e
expression_at (layer.Binary op a b) = a ++ terminal.Operator op ∷ b

abbrev pub reference_at : Reference-F Text Text Text Text → Text
reference_at (layer.Whole n) = terminal.Name n ∷ []
reference_at (layer.Items n items) = terminal.Name n ∷ in_brackets (commas items)
reference_at (layer.Substring n items (lower, upper)) =
    terminal.Name n ∷ (in_brackets (commas items) ++ in_brackets (maybe lower ++ punctuated mark.Colon (maybe upper)))

abbrev pub item_at : Item-F Text Text Text Text → Text
item_at (layer.Plain e) = e
item_at (layer.Keyword n e) = terminal.Name n ∷ punctuated mark.Assign e
item_at (layer.Triplet lower upper stride) = maybe lower ++ punctuated mark.Colon (maybe upper ++ maybe_behind mark.Colon stride)

abbrev pub value_at : Value-F Text Text Text Text → Text
value_at (layer.One e) = e
value_at (layer.ImpliedDo values n first last step) = in_brackets (commas values ++ punctuated mark.Comma (terminal.Name n ∷
    punctuated mark.Assign (first ++ punctuated mark.Comma (last ++ maybe_behind mark.Comma step))))

abbrev pub expression : Expression → Text
expression = fold-Expression Text Text Text Text expression_at item_at reference_at value_at

abbrev pub item : Item → Text
item = fold-Item Text Text Text Text expression_at item_at reference_at value_at

abbrev pub reference : Reference → Text
reference = fold-Reference Text Text Text Text expression_at item_at reference_at value_at

abbrev pub value : Value → Text
value = fold-Value Text Text Text Text expression_at item_at reference_at value_at
