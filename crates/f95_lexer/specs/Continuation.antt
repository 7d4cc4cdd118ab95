-- How lines make statements: what of a line is comment, where a text is open, and where a statement goes on behind an `&`.
-- Every text is read so in one way, and one that breaks a rule too: what is then read of it is said with the rule.
use Rattle.std.specs.Prelude.{◌≡◌, ℕ, ◌+◌, Bool, true, false, ◌||◌, ◌==◌, List, [], ◌∷◌, ◌++◌, map, Option, Some, None}
use Rattle.std.specs.Prelude.{if◌then◌else◌}
use Rattle.std.specs.List.{flat_map}
use Rattle.f95_lexer.specs.declared.character.Character.{Character}
use Rattle.f95_lexer.specs.Characters.{is_blank, is_delimiter, AllPass, begins, from_blank, is_comment}
use Rattle.a95_base.specs.Rules as refusal
use Rattle.f95_lexer.specs.Limits.{too_many_lines}
use Rattle.f95_lexer.specs.Lines.{text_lines}

-- Texts. None is outside of texts, and Some is inside of one with that delimiter.

-- the text that a character outside of texts begins, and the text that is open behind a character inside of one
abbrev pub opened : ℕ → Option ℕ
opened c = if is_delimiter c then Some c else None

abbrev pub kept : ℕ → ℕ → Option ℕ
kept delimiter c = if c == delimiter then None else Some delimiter

-- the text that is open behind some characters
abbrev pub open_behind : Option ℕ → List ℕ → Option ℕ
open_behind inside [] = inside
open_behind None (c ∷ cs) = open_behind (opened c) cs
open_behind (Some d) (c ∷ cs) = open_behind (kept d c) cs

-- Comments. Outside of texts `!` begins a comment.

abbrev pub HasNoComment : Option ℕ → List ℕ → Type 0
HasNoComment inside text = (front comment : List ℕ) → text ≡ front ++ 33 ∷ comment → open_behind inside front ≡ None → ⊥

-- the code of a text is what stands before its comment
pub data IsCode (inside : Option ℕ) : (text code : List ℕ) → Type 0 where
  whole : (code : List ℕ) → HasNoComment inside code → IsCode inside code code
  commented : (code comment : List ℕ) → HasNoComment inside code → open_behind inside code ≡ None
      → IsCode inside (code ++ 33 ∷ comment) code

-- Continuation. An `&` that is the last character of the code, but for blanks, continues the statement.

pub data IsContinued : (code body : List ℕ) (continued : Bool) → Type 0 where
  goes_on : (body gap : List ℕ) → AllPass is_blank gap → IsContinued (body ++ 38 ∷ gap) body true
  ends : (code : List ℕ) → ((body gap : List ℕ) → AllPass is_blank gap → code ≡ body ++ 38 ∷ gap → ⊥) → IsContinued code code false

-- the body of a text is what is left without comment and `&`
pub record HasBody (inside : Option ℕ) (text body : List ℕ) (continued : Bool) : Type 0 where
  pub code : List ℕ
  pub uncommented : IsCode inside text code
  pub ending : IsContinued code body continued

-- Lines.

-- What goes on behind a line: nothing, or a statement, outside of texts or inside of one, from the `&` of the line `from` on. So
-- many continuation lines of it have come.
pub data Onward : Type 0 where
  Ended : Onward
  GoesOn : (inside : Option ℕ) (from lines : ℕ) → Onward

abbrev pub context : Onward → Option ℕ
context Ended = None
context (GoesOn inside from lines) = inside

-- which continuation line of its statement the next line is, or 0 where it continues nothing
abbrev pub continuation_number : Onward → ℕ
continuation_number Ended = 0
continuation_number (GoesOn inside from lines) = lines + 1

-- A line that is neither blank nor a comment, after what goes on before it, from its first character that is no blank. Its body
-- begins outside of texts or inside of one, and `lead` parts it from the line before.
pub record StatementLine : Type 0 where
  pub number : ℕ
  pub before : Onward
  pub text : List ℕ
  pub lead : List ℕ
  pub inside : Option ℕ
  pub body : List ℕ
  pub continued : Bool

abbrev pub begins_with_ampersand : List ℕ → Bool
begins_with_ampersand text = begins (λ c. c == 38) text

-- nothing stands on the line but an `&`, and outside of texts a comment
abbrev pub IsAlone : Onward → List ℕ → Type 0
IsAlone before text = HasBody (context before) text [] true

-- What parts a line from the line before, and what is read of it. A continuation line that begins with `&` goes on right behind
-- it. Without one it stands apart by a blank.
pub data Begins : Onward → (text lead : List ℕ) (inside : Option ℕ) (rest : List ℕ) → Type 0 where
  initial : (text : List ℕ) → begins_with_ampersand text ≡ false → Begins Ended text [] None text
  joined : (inside : Option ℕ) (from lines : ℕ) (rest : List ℕ) → Begins (GoesOn inside from lines) (38 ∷ rest) [] inside rest
  apart : (from lines : ℕ) (text : List ℕ) → begins_with_ampersand text ≡ false
      → Begins (GoesOn None from lines) text (32 ∷ []) None text
  -- where rule 6 is broken: an `&` that continues nothing is left out, and a text that is continued without one ends its statement
  continues_nothing : (rest : List ℕ) → Begins Ended (38 ∷ rest) [] None rest
  cut_off : (d from lines : ℕ) (text : List ℕ) → begins_with_ampersand text ≡ false
      → Begins (GoesOn (Some d) from lines) text (10 ∷ []) None text

-- a line is read so: an `&` alone continues what goes on before it
pub data IsRead (l : StatementLine) : Type 0 where
  alone : IsAlone l.before l.text → l.lead ≡ [] → l.inside ≡ context l.before → l.body ≡ [] → l.continued ≡ true → IsRead l
  more : (rest : List ℕ) → (IsAlone l.before l.text → ⊥) → Begins l.before l.text l.lead l.inside rest
      → HasBody l.inside rest l.body l.continued → IsRead l

-- a `;` stands outside of texts
abbrev pub has_semicolon : Option ℕ → List ℕ → Bool
has_semicolon inside [] = false
has_semicolon None (c ∷ cs) = c == 59 || has_semicolon (opened c) cs
has_semicolon (Some d) (c ∷ cs) = has_semicolon (kept d c) cs

-- What goes on behind a line. The statement that a `;` begins has no continuation lines yet.
abbrev pub after : StatementLine → Onward
after l =
    if l.continued
    then GoesOn (open_behind l.inside l.body) l.number (if has_semicolon l.inside l.body then 0 else continuation_number l.before)
    else Ended

-- a body with a line feed for each `;` outside of texts, which ends a statement
abbrev pub parted : Option ℕ → List ℕ → List ℕ
parted inside [] = []
parted None (c ∷ cs) = (if c == 59 then 10 else c) ∷ parted (opened c) cs
parted (Some d) (c ∷ cs) = c ∷ parted (kept d c) cs

abbrev pub character : ℕ → ℕ → Character
character c line = record { byte = c; line = line }

-- what a line leaves: its characters, with a line feed for each end of a statement
abbrev pub characters : StatementLine → List Character
characters l = map (λ c. character c l.number) (l.lead ++ (parted l.inside l.body ++ (if l.continued then [] else 10 ∷ [])))

-- The lines of statements among some lines that are counted from a number on, after what goes on before them, and what goes on
-- behind them. Blank lines and comments are passed over.
pub data AreRead : Onward → ℕ → List (List ℕ) → List StatementLine → Onward → Type 0 where
  none : (before : Onward) (n : ℕ) → AreRead before n [] [] before
  passed : (before : Onward) (n : ℕ) (text : List ℕ) (texts : List (List ℕ)) (lines : List StatementLine) (behind : Onward) →
      is_comment (from_blank text) ≡ true → AreRead before (n + 1) texts lines behind → AreRead before n (text ∷ texts) lines behind
  stands : (l : StatementLine) (text : List ℕ) (texts : List (List ℕ)) (lines : List StatementLine) (behind : Onward) →
      is_comment (from_blank text) ≡ false → l.text ≡ from_blank text → IsRead l →
      AreRead (after l) (l.number + 1) texts lines behind → AreRead l.before l.number (text ∷ texts) (l ∷ lines) behind

-- the lines of statements of a whole text, and what goes on behind the last
abbrev pub HasLines : List ℕ → List StatementLine → Onward → Type 0
HasLines bytes lines behind = AreRead Ended 1 (text_lines bytes) lines behind

-- what the lines of a text leave
abbrev pub all_characters : List StatementLine → List Character
all_characters lines = flat_map characters lines

-- the rules that a line of a statement breaks, each with the line that it names
pub data BreaksRule (l : StatementLine) : (line rule : ℕ) → Type 0 where
  -- rule 4: the line is the 40th continuation line of its statement
  many_lines : continuation_number l.before ≡ too_many_lines → BreaksRule l l.number refusal.too_many_continuations
  -- rule 5: a text isn't closed on its line, and no `&` ends the line
  open_text : (d : ℕ) → l.continued ≡ false → open_behind l.inside l.body ≡ Some d → BreaksRule l l.number refusal.open_text
  -- rule 6: the line has `&` alone
  alone : IsAlone l.before l.text → BreaksRule l l.number refusal.broken_continuation
  -- rule 6: the line continues nothing and begins with `&`
  continues_nothing : l.before ≡ Ended → begins_with_ampersand l.text ≡ true → BreaksRule l l.number refusal.broken_continuation
  -- rule 6: the line continues a text and doesn't begin with `&`; it is the line of the `&` before
  no_second : (d from lines : ℕ) → l.before ≡ GoesOn (Some d) from lines → begins_with_ampersand l.text ≡ false
      → BreaksRule l from refusal.broken_continuation
