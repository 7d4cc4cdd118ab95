-- What comments and continuations leave of the lines of a text: one run of characters, in which a line feed ends each statement.
use Rattle.std.specs.Prelude.{ℕ, ◌+◌, ◌-◌, ◌&&◌, ◌==◌, nat_lt, List, [], ◌∷◌, ◌++◌, length, Option, Some, None, if◌then◌else◌}
use Rattle.f95_lexer.specs.declared.character.Character.{Character}
use Rattle.a95_base.specs.declared.breaks.Break.{Break}
use Rattle.a95_base.specs.Breaks.{broken_at}
use Rattle.f95_lexer.specs.declared.splice.Mode.{Mode}
use Rattle.f95_lexer.specs.declared.splice.Mode.TheVariants.{Fresh, Goes, Inside}
use Rattle.f95_lexer.specs.declared.splice.Next.{Next}
use Rattle.f95_lexer.specs.declared.splice.Next.TheVariants as following
use Rattle.f95_lexer.specs.Characters.{from_blank, is_empty, is_comment}
use Rattle.f95_lexer.specs.Continuation.{opened, kept, character}
use Rattle.a95_base.specs.Rules as refusal
use Rattle.f95_lexer.specs.Limits.{longest_line, too_many_lines}
use Rattle.f95_lexer.specs.Lines.{text_lines}

-- characters, the rules broken so far, and how the last line ended
pub record Spliced : Type 0 where
  pub text : List Character
  pub breaks : List Break
  pub mode : Mode

abbrev pub ends : Mode → Spliced
ends m = record { text = []; breaks = []; mode = m }

-- the character c on that line, and then the rest
abbrev pub put : ℕ → ℕ → Spliced → Spliced
put c line rest = record rest { text = character c line ∷ rest.text }

-- the end of a statement, and then the rest
abbrev pub close : ℕ → Spliced → Spliced
close line rest = put 10 line rest

-- rule r is broken on that line, and then the rest
abbrev pub breaks_rule : ℕ → ℕ → Spliced → Spliced
breaks_rule line r rest = record rest { breaks = broken_at line r ∷ rest.breaks }

-- rule 5: a text is neither closed on the line nor continued
abbrev pub open_text : ℕ → Spliced → Spliced
open_text line rest = breaks_rule line refusal.open_text rest

-- rule 6: the continuation that begins or stands on the line isn't whole
abbrev pub bad_continuation : ℕ → Spliced → Spliced
bad_continuation line rest = breaks_rule line refusal.broken_continuation rest

-- The rest of a line, outside of texts or inside of one with that delimiter. Outside, `!` begins a comment and `;` ends
-- a statement. Behind an `&` that is the last character, but for blanks and outside of texts a comment, the statement goes on.
-- left: the 40th continuation line of the statement is so many lines ahead, or 0 once it has passed.
abbrev pub scan : Option ℕ → ℕ → ℕ → List ℕ → Spliced
scan None line left [] = close line (ends Fresh)
scan (Some d) line left [] = open_text line (close line (ends Fresh))
scan None line left (c ∷ cs) =
    if c == 33 then close line (ends Fresh)
    else (if c == 59 then close line (scan None line too_many_lines cs)
    else (if c == 38 && is_comment (from_blank cs) then ends (Goes line left)
    else put c line (scan (opened c) line left cs)))
scan (Some d) line left (c ∷ cs) =
    if c == 38 && is_empty (from_blank cs) then ends (Inside d line left)
    else put c line (scan (kept d c) line left cs)

-- for a part of the code: a line after one of its characters
abbrev pub scanned : Next → ℕ → List ℕ → Spliced
scanned (following.Ends m) line cs = ends m
scanned (following.Goes inside left) line cs = scan inside line left cs

-- rule 4: a statement has a 40th continuation line
abbrev pub fortieth : ℕ → ℕ → List Break
fortieth line left = if left == 1 then broken_at line refusal.too_many_continuations ∷ [] else []

-- these rules are broken, and then the rest
abbrev pub all_broken : List Break → Spliced → Spliced
all_broken breaks rest = record rest { breaks = breaks ++ rest.breaks }

-- A line that begins with c, neither blank nor a comment, after a line that ended so. A continuation line that begins
-- with `&` goes on right behind it; another one stands apart by a blank, and can't go on with a text.
abbrev pub begun : Mode → ℕ → ℕ → List ℕ → Spliced
begun Fresh line c cs =
    if c == 38
    then bad_continuation line (
    if is_comment (from_blank cs) then ends (Goes line too_many_lines) else scan None line too_many_lines cs)
    else scan None line too_many_lines (c ∷ cs)
begun (Goes from left) line c cs = all_broken (fortieth line left) (
    if c == 38
    then (if is_comment (from_blank cs) then bad_continuation line (ends (Goes line (left - 1))) else scan None line (left - 1) cs)
    else put 32 line (scan None line (left - 1) (c ∷ cs)))
begun (Inside d from left) line c cs = all_broken (fortieth line left) (
    if c == 38
    then (if is_empty (from_blank cs) then bad_continuation line (ends (Inside d line (left - 1)))
    else scan (Some d) line (left - 1) cs)
    else bad_continuation from (close line (scan None line (left - 1) (c ∷ cs))))

-- a line without the blanks at its front: a blank line and a comment are passed over
abbrev pub line_read : Mode → ℕ → List ℕ → Spliced
line_read m line [] = ends m
line_read m line (c ∷ cs) = if c == 33 then ends m else begun m line c cs

-- what stands behind what was read before
abbrev pub behind : List Character → List Break → Spliced → Spliced
behind text breaks rest = record { text = text ++ rest.text; breaks = breaks ++ rest.breaks; mode = rest.mode }

-- rule 3: a line has more than 132 characters
abbrev pub too_long : ℕ → List ℕ → List Break
too_long line text = if nat_lt longest_line (length text) then broken_at line refusal.line_too_long ∷ [] else []

-- one part, and then the rest
abbrev pub after : List Break → Spliced → Spliced → Spliced
after breaks first rest =
    record { text = first.text ++ rest.text; breaks = (breaks ++ first.breaks) ++ rest.breaks; mode = rest.mode }

abbrev pub splice : Mode → ℕ → List (List ℕ) → Spliced
splice m line [] = ends m
splice m line (text ∷ texts) =
    let first = line_read m line (from_blank text) in
    after (too_long line text) first (splice first.mode (line + 1) texts)

-- rule 6: a continuation that finds no further line
abbrev pub unfinished : Mode → List Break
unfinished Fresh = []
unfinished (Goes line left) = broken_at line refusal.broken_continuation ∷ []
unfinished (Inside d line left) = broken_at line refusal.broken_continuation ∷ []

-- the whole text
abbrev pub spliced : List ℕ → Spliced
spliced bytes = splice Fresh 1 (text_lines bytes)

-- the rules that its lines break
abbrev pub line_breaks : List ℕ → List Break
line_breaks bytes = (spliced bytes).breaks ++ unfinished (spliced bytes).mode
