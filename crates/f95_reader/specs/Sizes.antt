-- How much there is of statements and of forms.
use Rattle.std.specs.Prelude.{ℕ, ◌+◌, List, [], ◌∷◌, length}
use Rattle.f95_lexer.specs.declared.token.Statement.{Statement}
use Rattle.f95_tree.specs.Forms.{spell_form}
use Rattle.f95_nesting.specs.Nesting.{Lined}

-- the tokens of statements
abbrev pub token_count : List Statement → ℕ
token_count [] = 0
token_count (s ∷ ss) = length s.tokens + token_count ss

-- the terminals that spell forms
abbrev pub terminal_count : List Lined → ℕ
terminal_count [] = 0
terminal_count (f ∷ fs) = length (spell_form f.1) + terminal_count fs
