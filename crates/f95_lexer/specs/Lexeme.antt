-- What stands at a place of the spliced characters: the longest word, number, text, dotted word or symbol that begins there.
use Rattle.std.specs.Prelude.{ℕ, ℤ, pos, ◌+◌, ◌-◌, ◌*◌, Bool, true, false, ◌&&◌, ◌||◌, not, ◌==◌, nat_lt, List, [], ◌∷◌, length}
use Rattle.std.specs.Prelude.{map, Option, Some, None, is_some, codes, if◌then◌else◌}
use Rattle.std.specs.Cmp.Lexicographic.{pointwise}
use Rattle.std.specs.Prelude.{nat_eq}
use Rattle.a95_base.specs.Input.{is_digit}
use Rattle.f95_lexer.specs.declared.character.Character.{Character}
use Rattle.f95_lexer.specs.declared.lexeme.Lexeme.{Lexeme}
use Rattle.f95_lexer.specs.declared.lexeme.Lexeme.TheVariants as lexeme
use Rattle.f95_lexer.specs.declared.lexeme.Found.{Found}
use Rattle.f95_lexer.specs.declared.token.Mark.{Mark}
use Rattle.f95_lexer.specs.declared.token.Mark.TheVariants as mark
use Rattle.f95_lexer.specs.Characters.{is_blank, is_letter, is_name, is_delimiter, lower}

abbrev pub bytes_of : List Character → List ℕ
bytes_of characters = map (λ c. c.byte) characters

-- the longest front of characters that pass, and what stands behind it
abbrev pub front : (ℕ → Bool) → List ℕ → List ℕ
front p [] = []
front p (c ∷ cs) = if p c then c ∷ front p cs else []

abbrev pub behind_front : (ℕ → Bool) → List ℕ → List ℕ
behind_front p [] = []
behind_front p (c ∷ cs) = if p c then behind_front p cs else c ∷ cs

abbrev pub is_nil : List ℕ → Bool
is_nil [] = true
is_nil (_ ∷ _) = false

abbrev pub begins_with : ℕ → List ℕ → Bool
begins_with e [] = false
begins_with e (c ∷ _) = c == e

abbrev pub found : Lexeme → ℕ → Found
found l n = record { lexeme = l; further = n }

-- Words.

abbrev pub word_at : ℕ → List ℕ → Found
word_at c cs = found (lexeme.Word (lower c ∷ map lower (front is_name cs))) (length (front is_name cs))

-- Dotted words: letters between two points.

abbrev pub is_word : List ℕ → List ℕ → Bool
is_word name word = pointwise nat_eq word name

abbrev pub is_dotted : List ℕ → Bool
is_dotted w =
    is_word (codes "eq") w || is_word (codes "ne") w || is_word (codes "lt") w || is_word (codes "le") w
    || is_word (codes "gt") w || is_word (codes "ge") w || is_word (codes "not") w || is_word (codes "and") w
    || is_word (codes "or") w || is_word (codes "eqv") w || is_word (codes "neqv") w || is_word (codes "true") w
    || is_word (codes "false") w

-- the letters up to a point, behind another point
abbrev pub word_to_point : List ℕ → Option (List ℕ)
word_to_point cs =
    if not (is_nil (front is_letter cs)) && begins_with 46 (behind_front is_letter cs) then Some
    (map lower (front is_letter cs)) else None

abbrev pub pointed : Option (List ℕ) → Found
pointed None = found lexeme.Stray 0
pointed (Some w) = found (lexeme.Pointed w) (length w + 1)

-- Numbers.

-- the number that some digits write, behind others that write n
abbrev pub value_from : ℕ → List ℕ → ℕ
value_from n [] = n
value_from n (d ∷ ds) = value_from (n * 10 + (d - 48)) ds

-- the number, where it is at most 2147483647
abbrev pub integer : ℕ → Option ℤ
integer n = if nat_lt n 2147483648 then Some (pos n) else None

abbrev pub begins_dotted : Option (List ℕ) → Bool
begins_dotted None = false
begins_dotted (Some w) = is_dotted w

-- whether a number can't stand directly before these characters
abbrev pub clings : List ℕ → Bool
clings [] = false
clings (c ∷ cs) = is_letter c || c == 95 || (c == 46 && not (begins_dotted (word_to_point cs)))

-- the underscore or the point that the number then takes with it
abbrev pub taken : List ℕ → ℕ
taken [] = 0
taken (c ∷ cs) = if c == 95 || (c == 46 && not (is_some (word_to_point cs))) then 1 else 0

abbrev pub number_at : ℕ → List ℕ → Found
number_at c cs =
    let rest = behind_front is_digit cs in
    found (lexeme.Number (integer (value_from (c - 48) (front is_digit cs))) (clings rest))
    (length (front is_digit cs) + taken rest)

-- Texts.

-- what a text holds, how many characters it takes, and whether it is closed
pub record Literal : Type 0 where
  pub bytes : List ℕ
  pub taken : ℕ
  pub closed : Bool

abbrev pub one_more : Literal → Literal
one_more t = record t { taken = t.taken + 1 }

abbrev pub holds : ℕ → Literal → Literal
holds c t = record { bytes = c ∷ t.bytes; taken = t.taken + 1; closed = t.closed }

abbrev pub ended : Bool → Literal
ended closed = record { bytes = []; taken = 0; closed = closed }

-- The rest of a text with this delimiter, right behind such a delimiter inside of it or not. Two of them stand for one,
-- one alone closes the text. The end of the statement leaves it open.
abbrev pub literal : ℕ → Bool → List ℕ → Literal
literal d behind [] = ended behind
literal d false (c ∷ cs) =
    if c == 10 then ended false else (if c == d then one_more (literal d true cs) else holds c (literal d false cs))
literal d true (c ∷ cs) = if c == d then holds d (literal d false cs) else ended true

abbrev pub text_lexeme : Literal → Lexeme
text_lexeme t = if t.closed then lexeme.Text t.bytes else lexeme.Unclosed

abbrev pub text_at : ℕ → List ℕ → Found
text_at d cs = found (text_lexeme (literal d false cs)) (literal d false cs).taken

-- Symbols.

abbrev pub symbol_of_two : ℕ → ℕ → Option Mark
symbol_of_two c d =
    if c == 40 && d == 47 then Some mark.OpenArray
    else (if c == 47 && d == 41 then Some mark.CloseArray
    else (if c == 58 && d == 58 then Some mark.DoubleColon
    else (if c == 61 && d == 61 then Some mark.Equal
    else (if c == 47 && d == 61 then Some mark.NotEqual
    else (if c == 60 && d == 61 then Some mark.LessEqual
    else (if c == 62 && d == 61 then Some mark.GreaterEqual
    else (if c == 42 && d == 42 then Some mark.Power
    else (if c == 47 && d == 47 then Some mark.Concat
    else None))))))))

abbrev pub symbol_of_one : ℕ → Option Mark
symbol_of_one c =
    if c == 40 then Some mark.Open
    else (if c == 41 then Some mark.Close
    else (if c == 44 then Some mark.Comma
    else (if c == 58 then Some mark.Colon
    else (if c == 61 then Some mark.Assign
    else (if c == 60 then Some mark.Less
    else (if c == 62 then Some mark.Greater
    else (if c == 43 then Some mark.Plus
    else (if c == 45 then Some mark.Minus
    else (if c == 42 then Some mark.Star
    else (if c == 47 then Some mark.Slash
    else None))))))))))

abbrev pub symbol : ℕ → Option Mark → Found
symbol n None = found lexeme.Stray 0
symbol n (Some m) = found (lexeme.Symbol m) n

abbrev pub longer_or : Option Mark → Option Mark → Found
longer_or None one = symbol 0 one
longer_or (Some m) one = symbol 1 (Some m)

abbrev pub symbol_at : ℕ → List ℕ → Found
symbol_at c [] = symbol 0 (symbol_of_one c)
symbol_at c (d ∷ _) = longer_or (symbol_of_two c d) (symbol_of_one c)

-- what begins with the character c, before the characters cs, and how many of them belong to it
abbrev pub found_at : ℕ → List ℕ → Found
found_at c cs =
    if is_blank c then found lexeme.Blank 0
    else (if c == 10 then found lexeme.End 0
    else (if is_letter c then word_at c cs
    else (if is_digit c then number_at c cs
    else (if is_delimiter c then text_at c cs
    else (if c == 46 then pointed (word_to_point cs)
    else symbol_at c cs)))))
