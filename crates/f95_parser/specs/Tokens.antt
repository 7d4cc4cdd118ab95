-- What each token stands for in the grammar: terminals. Words are names or keywords, joined keywords are two, the two spellings
-- of a relation are one, and inside brackets `::` is two colons.
use Rattle.std.specs.Prelude.{ℕ, zero, suc, ◌+◌, ◌-◌, Bool, true, false, List, [], ◌∷◌, ◌++◌, Option, Some, None, codes}
use Rattle.std.specs.Prelude.{if◌then◌else◌}
use Rattle.f95_lexer.specs.declared.token.Token.{Token}
use Rattle.f95_lexer.specs.declared.token.Token.TheVariants as token
use Rattle.f95_lexer.specs.declared.token.Mark.{Mark}
use Rattle.f95_lexer.specs.declared.token.Mark.TheVariants as mark
use Rattle.f95_tree.specs.declared.expression.Literal.TheVariants as literal
use Rattle.f95_tree.specs.declared.terminal.Terminal.{Terminal}
use Rattle.f95_tree.specs.declared.terminal.Terminal.TheVariants as terminal
use Rattle.f95_tree.specs.declared.terminal.Operator.TheVariants as operator
use Rattle.f95_tree.specs.declared.terminal.Relation.TheVariants as relation
use Rattle.f95_tree.specs.declared.terminal.Punctuation.TheVariants as p
use Rattle.f95_tree.specs.Forms.{Word}
use Rattle.f95_parts.specs.Views.{is}
use Rattle.f95_parser.specs.Words.{Keywords, reserved}

abbrev pub Text : Type 0
Text = List Terminal

abbrev pub words_of : Word → Option Keywords → Text
words_of w None = terminal.Name w ∷ []
words_of w (Some (k, None)) = terminal.Keyword k ∷ []
words_of w (Some (k, Some l)) = terminal.Keyword k ∷ terminal.Keyword l ∷ []

-- words between two points
abbrev pub dotted : Word → Terminal
dotted w =
    if is (codes "eq") w then terminal.Operator (operator.Relation relation.Equal)
    else (if is (codes "ne") w then terminal.Operator (operator.Relation relation.NotEqual)
    else (if is (codes "lt") w then terminal.Operator (operator.Relation relation.Less)
    else (if is (codes "le") w then terminal.Operator (operator.Relation relation.LessEqual)
    else (if is (codes "gt") w then terminal.Operator (operator.Relation relation.Greater)
    else (if is (codes "ge") w then terminal.Operator (operator.Relation relation.GreaterEqual)
    else (if is (codes "not") w then terminal.Not
    else (if is (codes "and") w then terminal.Operator operator.And
    else (if is (codes "or") w then terminal.Operator operator.Or
    else (if is (codes "eqv") w then terminal.Operator operator.Equivalent
    else (if is (codes "neqv") w then terminal.Operator operator.NotEquivalent
    else (if is (codes "true") w then terminal.Literal (literal.Logical true)
    else (if is (codes "false") w then terminal.Literal (literal.Logical false)
    else terminal.Stray))))))))))))

abbrev pub inside : ℕ → Terminal → Text
inside zero t = t ∷ []
inside (suc n) t = terminal.Punctuation p.Colon ∷ terminal.Punctuation p.Colon ∷ []

abbrev pub operated : Mark → Terminal
operated mark.Equal = terminal.Operator (operator.Relation relation.Equal)
operated mark.NotEqual = terminal.Operator (operator.Relation relation.NotEqual)
operated mark.Less = terminal.Operator (operator.Relation relation.Less)
operated mark.LessEqual = terminal.Operator (operator.Relation relation.LessEqual)
operated mark.Greater = terminal.Operator (operator.Relation relation.Greater)
operated mark.GreaterEqual = terminal.Operator (operator.Relation relation.GreaterEqual)
operated mark.Plus = terminal.Operator operator.Add
operated mark.Minus = terminal.Operator operator.Subtract
operated mark.Star = terminal.Operator operator.Multiply
operated mark.Power = terminal.Operator operator.Power
operated mark.Slash = terminal.Operator operator.Divide
operated mark.Concat = terminal.Operator operator.Concat
operated _ = terminal.Stray

-- symbols, with so many brackets open before
abbrev pub marked : ℕ → Mark → Text
marked n mark.Open = terminal.Punctuation p.Open ∷ []
marked n mark.Close = terminal.Punctuation p.Close ∷ []
marked n mark.OpenArray = terminal.Punctuation p.OpenArray ∷ []
marked n mark.CloseArray = terminal.Punctuation p.CloseArray ∷ []
marked n mark.Comma = terminal.Punctuation p.Comma ∷ []
marked n mark.Colon = terminal.Punctuation p.Colon ∷ []
marked n mark.DoubleColon = inside n (terminal.Punctuation p.DoubleColon)
marked n mark.Assign = terminal.Punctuation p.Assign ∷ []
marked n m = operated m ∷ []

abbrev pub terminals_at : ℕ → Token → Text
terminals_at n (token.Word w) = words_of w (reserved w)
terminals_at n (token.Number i) = terminal.Literal (literal.Number i) ∷ []
terminals_at n (token.Text t) = terminal.Literal (literal.Text t) ∷ []
terminals_at n (token.Dotted w) = dotted w ∷ []
terminals_at n (token.Mark m) = marked n m

-- how many brackets are open behind a symbol, and behind a token
abbrev pub marks_open : ℕ → Mark → ℕ
marks_open n mark.Open = n + 1
marks_open n mark.OpenArray = n + 1
marks_open n mark.Close = n - 1
marks_open n mark.CloseArray = n - 1
marks_open n _ = n

abbrev pub open_behind : ℕ → Token → ℕ
open_behind n (token.Mark m) = marks_open n m
open_behind n _ = n

abbrev pub terminals_from : ℕ → List Token → Text
terminals_from n [] = []
terminals_from n (t ∷ ts) = terminals_at n t ++ terminals_from (open_behind n t) ts

abbrev pub terminals_of : List Token → Text
terminals_of tokens = terminals_from 0 tokens
