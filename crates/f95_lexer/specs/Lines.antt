-- The lines of a text.
use Rattle.std.specs.Prelude.{ℕ, Bool, false, ◌&&◌, ◌==◌, List, [], ◌∷◌, count_by, if◌then◌else◌}

-- the lines, with this character at the front of the first
abbrev pub onto : ℕ → List (List ℕ) → List (List ℕ)
onto c [] = (c ∷ []) ∷ []
onto c (line ∷ lines) = (c ∷ line) ∷ lines

abbrev pub begins_with_feed : List ℕ → Bool
begins_with_feed [] = false
begins_with_feed (c ∷ _) = c == 10

-- A line feed ends a line, and a carriage return before it belongs to neither. Behind the last line feed a line stands only where
-- characters do.
abbrev pub text_lines : List ℕ → List (List ℕ)
text_lines [] = []
text_lines (c ∷ cs) =
    if c == 10 then [] ∷ text_lines cs
    else (if c == 13 && begins_with_feed cs then text_lines cs else onto c (text_lines cs))

-- how many line feeds a text has
abbrev pub feeds_of : List ℕ → ℕ
feeds_of text = count_by (λ c. c == 10) text
