-- How statements are written: gaps of blanks and spellings of tokens in turn, each spelling the longest that begins at its place.
use Rattle.std.specs.Prelude.{◌≡◌, ℕ, ℤ, pos, ◌<◌, ◌≤◌, Bool, true, false, cond, not, ◌==◌, List, [], ◌∷◌, ◌++◌, length, map, codes}
use Rattle.f95_lexer.specs.declared.character.Character.{Character}
use Rattle.f95_lexer.specs.declared.token.Mark.{Mark}
use Rattle.f95_lexer.specs.declared.token.Mark.TheVariants as mark
use Rattle.f95_lexer.specs.declared.token.Token.{Token}
use Rattle.f95_lexer.specs.declared.token.Token.TheVariants as token
use Rattle.f95_lexer.specs.declared.token.Statement.{Statement}
use Rattle.f95_lexer.specs.Characters.{AllPass, begins, is_blank, is_letter, is_name, is_delimiter, lower}
use Rattle.a95_base.specs.Lists.{Every, Member}
use Rattle.f95_lexer.specs.Continuation.{Ended, StatementLine, HasLines, all_characters, BreaksRule}
use Rattle.a95_base.specs.Limits.{longest_word}
use Rattle.a95_base.specs.Input.{is_digit}
use Rattle.f95_lexer.specs.Limits.{longest_file, longest_line}
use Rattle.f95_lexer.specs.Lines.{feeds_of, text_lines}
use Rattle.f95_lexer.specs.Lexeme.{bytes_of, value_from, clings, is_dotted}
use Rattle.f95_lexer.specs.Statements.{Item, Ends, Stands, statements_of}

-- Below, written is how a token stands, and rest is what directly follows it in the text.

-- a letter, then letters, digits and underscores
pub record SpellsWord (w written rest : List ℕ) : Type 0 where
  pub letter : ℕ
  pub more : List ℕ
  pub is : written ≡ letter ∷ more
  pub begun : is_letter letter ≡ true
  pub names : AllPass is_name more
  pub lowered : w ≡ lower letter ∷ map lower more
  pub short : length w ≤ longest_word
  pub longest : begins is_name rest ≡ false

-- digits, with nothing behind them that can't follow a number
pub record SpellsNumber (z : ℤ) (written rest : List ℕ) : Type 0 where
  pub digit : ℕ
  pub more : List ℕ
  pub is : written ≡ digit ∷ more
  pub begun : is_digit digit ≡ true
  pub digits : AllPass is_digit more
  pub value : z ≡ pos (value_from 0 written)
  pub small : value_from 0 written < 2147483648
  pub longest : begins is_digit rest ≡ false
  pub apart : clings rest ≡ false

-- the characters of a text, its delimiter twice
abbrev pub doubled : ℕ → List ℕ → List ℕ
doubled d [] = []
doubled d (c ∷ cs) = cond (c == d) (d ∷ d ∷ doubled d cs) (c ∷ doubled d cs)

abbrev pub is_inside : ℕ → Bool
is_inside c = not (c == 10)

-- the characters of a text between two delimiters; another one behind them would go on with it
pub record SpellsText (bytes written rest : List ℕ) : Type 0 where
  pub delimiter : ℕ
  pub begun : is_delimiter delimiter ≡ true
  pub is : written ≡ delimiter ∷ (doubled delimiter bytes ++ delimiter ∷ [])
  pub inside : AllPass is_inside bytes
  pub longest : begins (λ c. c == delimiter) rest ≡ false

-- the letters of a dotted word between two points
pub record SpellsDotted (w written rest : List ℕ) : Type 0 where
  pub letters : List ℕ
  pub is : written ≡ 46 ∷ (letters ++ 46 ∷ [])
  pub names : AllPass is_letter letters
  pub lowered : w ≡ map lower letters
  pub word : is_dotted w ≡ true

abbrev pub symbol_text : Mark → List ℕ
symbol_text mark.Open = codes "("
symbol_text mark.Close = codes ")"
symbol_text mark.OpenArray = codes "(/"
symbol_text mark.CloseArray = codes "/)"
symbol_text mark.Comma = codes ","
symbol_text mark.Colon = codes ":"
symbol_text mark.DoubleColon = codes "::"
symbol_text mark.Assign = codes "="
symbol_text mark.Equal = codes "=="
symbol_text mark.NotEqual = codes "/="
symbol_text mark.Less = codes "<"
symbol_text mark.LessEqual = codes "<="
symbol_text mark.Greater = codes ">"
symbol_text mark.GreaterEqual = codes ">="
symbol_text mark.Plus = codes "+"
symbol_text mark.Minus = codes "-"
symbol_text mark.Star = codes "*"
symbol_text mark.Power = codes "**"
symbol_text mark.Slash = codes "/"
symbol_text mark.Concat = codes "//"

-- the symbol, where no longer one begins
pub record SpellsMark (m : Mark) (written rest : List ℕ) : Type 0 where
  pub is : written ≡ symbol_text m
  pub longest : (other : Mark) (more : List ℕ) → written ++ rest ≡ symbol_text other ++ more
      → length (symbol_text other) ≤ length written

abbrev pub SpellsToken : Token → List ℕ → List ℕ → Type 0
SpellsToken (token.Word w) written rest = SpellsWord w written rest
SpellsToken (token.Number z) written rest = SpellsNumber z written rest
SpellsToken (token.Text bytes) written rest = SpellsText bytes written rest
SpellsToken (token.Dotted w) written rest = SpellsDotted w written rest
SpellsToken (token.Mark m) written rest = SpellsMark m written rest

abbrev pub BeginsOn : ℕ → List Character → Type 0
BeginsOn line [] = ⊥
BeginsOn line (c ∷ _) = c.line ≡ line

-- an end of a statement, or a token whose first character stands on the line
abbrev pub Spells : Item → List Character → List ℕ → Type 0
Spells Ends written rest = bytes_of written ≡ 10 ∷ []
Spells (Stands line t) written rest = BeginsOn line written × SpellsToken t (bytes_of written) rest

abbrev pub IsGap : List Character → Type 0
IsGap gap = AllPass is_blank (bytes_of gap)

-- gaps and spellings in turn, with a gap behind the last
pub data Spelled : List Character → List Item → Type 0 where
  nothing : (gap : List Character) → IsGap gap → Spelled gap []
  next : (gap written rest : List Character) {i : Item} {items : List Item} →
      IsGap gap → Spells i written (bytes_of rest) → Spelled rest items → Spelled (gap ++ (written ++ rest)) (i ∷ items)

-- The bytes cut into these statements, with so many line feeds: the file isn't too long, no line is, continuations and
-- texts are whole, the last statement ends, and what the lines leave spells the tokens of the statements.
pub record Cuts (bytes : List ℕ) (statements : List Statement) (feeds : ℕ) : Type 0 where
  pub short : length bytes ≤ longest_file
  pub narrow : Every (λ text. length text ≤ longest_line) (text_lines bytes)
  pub lines : List StatementLine
  pub read : HasLines bytes lines Ended
  pub whole : (l : StatementLine) (line rule : ℕ) → Member lines l → BreaksRule l line rule → ⊥
  pub items : List Item
  pub spelled : Spelled (all_characters lines) items
  pub are : statements ≡ statements_of items
  pub counted : feeds ≡ feeds_of bytes
