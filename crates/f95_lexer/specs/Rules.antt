-- The ten rules of refusal of this phase, each with the line on which it is broken.
use Rattle.std.specs.Prelude.{◌≡◌, ℕ, ℤ, ◌+◌, ◌<◌, Bool, true}
use Rattle.std.specs.Prelude.{false, List, [], ◌∷◌, ◌++◌, length, Option, Some, None}
use Rattle.a95_base.specs.Lists.{Member}
use Rattle.a95_base.specs.declared.source.PhaseError.{PhaseError}
use Rattle.a95_base.specs.declared.source.PhaseError.TheVariants.{Memory, Broken}
use Rattle.a95_base.specs.declared.breaks.Break.{Break}
use Rattle.f95_lexer.specs.declared.lexeme.Lexeme.{Lexeme}
use Rattle.f95_lexer.specs.declared.lexeme.Lexeme.TheVariants as lexeme
use Rattle.f95_lexer.specs.Continuation.{Onward, GoesOn, StatementLine, HasLines, all_characters, BreaksRule}
use Rattle.f95_lexer.specs.Lexeme.{is_dotted}
use Rattle.a95_base.specs.Rules as refusal
use Rattle.a95_base.specs.Limits.{longest_word}
use Rattle.f95_lexer.specs.Limits.{longest_file, longest_line}
use Rattle.f95_lexer.specs.Lines.{text_lines}
use Rattle.a95_base.specs.Breaks.{IsLeast, broken_at}
use Rattle.f95_lexer.specs.Splicing.{line_breaks}
use Rattle.f95_lexer.specs.Statements.{lexemes_of, lexemes_behind, token_breaks}

-- a line with its number
pub record Numbered : Type 0 where
  pub line : ℕ
  pub text : List ℕ

abbrev pub numbered : ℕ → List ℕ → Numbered
numbered line text = record { line = line; text = text }

abbrev pub numbered_from : ℕ → List (List ℕ) → List Numbered
numbered_from n [] = []
numbered_from n (text ∷ texts) = numbered n text ∷ numbered_from (n + 1) texts

-- this is that line of the text
abbrev pub IsLine : List ℕ → ℕ → List ℕ → Type 0
IsLine bytes line text = Member (numbered_from 1 (text_lines bytes)) (numbered line text)

-- this begins on that line, in what the lines of statements leave
abbrev pub Stands : List ℕ → ℕ → Lexeme → Type 0
Stands bytes line l =
    (lines : List StatementLine) × (behind : Onward) × HasLines bytes lines behind
    × Member (lexemes_behind 0 (all_characters lines)) (record { line = line; lexeme = l })

-- one of the lines of statements breaks the rule, which names that line
abbrev pub BreaksInLine : List ℕ → ℕ → ℕ → Type 0
BreaksInLine bytes line rule =
    (lines : List StatementLine) × (behind : Onward) × (l : StatementLine) × HasLines bytes lines behind × Member lines l
    × BreaksRule l line rule

-- the statement that the `&` of that line continues finds no further line
abbrev pub FindsNoLine : List ℕ → ℕ → Type 0
FindsNoLine bytes from =
    (lines : List StatementLine) × (inside : Option ℕ) × (count : ℕ) × HasLines bytes lines (GoesOn inside from count)

-- the bytes break the rule on the line
pub data IsBroken (bytes : List ℕ) : ℕ → ℕ → Type 0 where
  -- rule 1: the file has more than 2^20 bytes
  long_file : longest_file < length bytes → IsBroken bytes 1 refusal.file_too_long
  -- rule 2: outside of comments and texts a byte belongs to nothing
  stray : {line : ℕ} → Stands bytes line lexeme.Stray → IsBroken bytes line refusal.stray_byte
  -- rule 3: a line has more than 132 characters
  long_line : {line : ℕ} (text : List ℕ) → IsLine bytes line text → longest_line < length text
      → IsBroken bytes line refusal.line_too_long
  -- rules 4, 5 and 6, as `BreaksRule` says of a line
  in_line : {line rule : ℕ} → BreaksInLine bytes line rule → IsBroken bytes line rule
  -- rule 6: a continuation finds no further line
  no_further_line : {line : ℕ} → FindsNoLine bytes line → IsBroken bytes line refusal.broken_continuation
  -- rule 7: a word has more than 31 characters
  long_word : {line : ℕ} (w : List ℕ) → Stands bytes line (lexeme.Word w) → longest_word < length w
      → IsBroken bytes line refusal.word_too_long
  -- rule 8: a number is greater than 2147483647
  large_number : {line : ℕ} (clings : Bool) → Stands bytes line (lexeme.Number None clings)
      → IsBroken bytes line refusal.number_too_great
  -- rule 9: a number is directly followed by a letter, an underscore or a point that begins no dotted word
  number_runs_on : {line : ℕ} (value : Option ℤ) → Stands bytes line (lexeme.Number value true)
      → IsBroken bytes line refusal.number_runs_on
  -- rule 10: letters stand between two points that are no dotted word
  no_dotted_word : {line : ℕ} (w : List ℕ) → Stands bytes line (lexeme.Pointed w) → is_dotted w ≡ false
      → IsBroken bytes line refusal.unknown_dotted_word

-- what a refusal of these bytes says
abbrev pub Refuses : List ℕ → PhaseError → Type 0
Refuses bytes Memory = Unit {0}
Refuses bytes (Broken line rule) = IsLeast (IsBroken bytes) line.0 rule.0

-- Below, for the parts of the code: all that the bytes break, but for the length of the file, as one list.
abbrev pub breaks_of : List ℕ → List Break
breaks_of bytes = line_breaks bytes ++ token_breaks (lexemes_of bytes)

abbrev pub RefusesBy : Option Break → PhaseError → Type 0
RefusesBy first Memory = Unit {0}
RefusesBy first (Broken line rule) = first ≡ Some (broken_at line.0 rule.0)
