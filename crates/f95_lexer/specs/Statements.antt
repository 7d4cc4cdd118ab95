-- The statements of a text, and the rules of refusal that its characters break.
use Rattle.std.specs.Prelude.{ℕ, Bool, zero, suc, List, [], ◌∷◌, ◌++◌, length, map, Some, None, nat_lt, if◌then◌else◌}
use Rattle.std.specs.List.{flat_map}
use Rattle.f95_lexer.specs.declared.character.Character.{Character}
use Rattle.a95_base.specs.declared.breaks.Break.{Break}
use Rattle.f95_lexer.specs.declared.lexeme.Lexeme.{Lexeme}
use Rattle.f95_lexer.specs.declared.lexeme.Lexeme.TheVariants as lexeme
use Rattle.f95_lexer.specs.declared.token.Token.{Token}
use Rattle.f95_lexer.specs.declared.token.Token.TheVariants as token
use Rattle.f95_lexer.specs.declared.token.Statement.{Statement}
use Rattle.f95_lexer.specs.Lexeme.{bytes_of, found_at, is_dotted}
use Rattle.a95_base.specs.Rules as refusal
use Rattle.a95_base.specs.Limits.{longest_word}
use Rattle.a95_base.specs.Breaks.{broken_at}
use Rattle.f95_lexer.specs.Splicing.{spliced}

-- a lexeme on the line of its first character
pub record Placed : Type 0 where
  pub line : ℕ
  pub lexeme : Lexeme

-- what the characters are one after the other, when the first so many of them belong to what stands before
abbrev pub lexemes_behind : ℕ → List Character → List Placed
lexemes_behind n [] = []
lexemes_behind (suc n) (c ∷ cs) = lexemes_behind n cs
lexemes_behind zero (c ∷ cs) =
    let f = found_at c.byte (bytes_of cs) in
    (record { line = c.line; lexeme = f.lexeme }) ∷ lexemes_behind f.further cs

abbrev pub lexemes_of : List ℕ → List Placed
lexemes_of bytes = lexemes_behind 0 (spliced bytes).text

-- the rules that a lexeme breaks
abbrev pub if_clings : Bool → List ℕ
if_clings clings = if clings then refusal.number_runs_on ∷ [] else []

abbrev pub rules_of : Lexeme → List ℕ
rules_of (lexeme.Word w) = if nat_lt longest_word (length w) then refusal.word_too_long ∷ [] else []
rules_of (lexeme.Number None clings) = refusal.number_too_great ∷ if_clings clings
rules_of (lexeme.Number (Some z) clings) = if_clings clings
rules_of (lexeme.Pointed w) = if is_dotted w then [] else refusal.unknown_dotted_word ∷ []
rules_of lexeme.Stray = refusal.stray_byte ∷ []
rules_of l = []

abbrev pub token_breaks : List Placed → List Break
token_breaks places = flat_map (λ p. map (broken_at p.line) (rules_of p.lexeme)) places

-- a token on its line, or the end of a statement
pub data Item : Type 0 where
  Ends : Item
  Stands : (line : ℕ) (token : Token) → Item

abbrev pub items_at : ℕ → Lexeme → List Item
items_at line lexeme.End = Ends ∷ []
items_at line (lexeme.Word w) = Stands line (token.Word w) ∷ []
items_at line (lexeme.Number (Some z) clings) = Stands line (token.Number z) ∷ []
items_at line (lexeme.Text bytes) = Stands line (token.Text bytes) ∷ []
items_at line (lexeme.Pointed w) = Stands line (token.Dotted w) ∷ []
items_at line (lexeme.Symbol m) = Stands line (token.Mark m) ∷ []
items_at line l = []

abbrev pub items_of : List Placed → List Item
items_of places = flat_map (λ p. items_at p.line p.lexeme) places

-- the tokens up to the first end of a statement, the line of the first of them, and the statements behind it
pub record Parts : Type 0 where
  pub line : ℕ
  pub tokens : List Token
  pub behind : List Statement

abbrev pub statement : ℕ → List Token → Statement
statement line tokens = record { line = record { 0 = line }; tokens = tokens }

-- a statement without tokens is none
abbrev pub with_statement : ℕ → List Token → List Statement → List Statement
with_statement line [] behind = behind
with_statement line (t ∷ ts) behind = statement line (t ∷ ts) ∷ behind

abbrev pub whole : Parts → List Statement
whole p = with_statement p.line p.tokens p.behind

abbrev pub parts_of : List Item → Parts
parts_of [] = record { line = 0; tokens = []; behind = [] }
parts_of (Ends ∷ more) = record { line = 0; tokens = []; behind = whole (parts_of more) }
parts_of (Stands line t ∷ more) =
    let rest = parts_of more in
    record { line = line; tokens = t ∷ rest.tokens; behind = rest.behind }

abbrev pub statements_of : List Item → List Statement
statements_of items = whole (parts_of items)

-- Below, for the parts of the code: reading the items one after the other, the statements so far, and the tokens of the one that
-- isn't ended, with their line.
pub record Reading : Type 0 where
  pub list : List Statement
  pub line : ℕ
  pub tokens : List Token

abbrev pub reading : List Statement → ℕ → List Token → Reading
reading list line tokens = record { list = list; line = line; tokens = tokens }

abbrev pub first_line : ℕ → List Token → ℕ → ℕ
first_line old [] line = line
first_line old (t ∷ ts) line = old

abbrev pub next : Reading → Item → Reading
next r Ends = record { list = r.list ++ with_statement r.line r.tokens []; line = r.line; tokens = [] }
next r (Stands line t) = record { list = r.list; line = first_line r.line r.tokens line; tokens = r.tokens ++ t ∷ [] }

abbrev pub read_on : Reading → List Item → Reading
read_on r [] = r
read_on r (i ∷ items) = read_on (next r i) items
