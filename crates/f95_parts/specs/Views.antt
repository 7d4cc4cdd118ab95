-- What stands first, and what stands behind it.
use Rattle.std.specs.Prelude.{ℕ, Bool, true, false, ◌==◌, nat_eq, List, [], ◌∷◌, Option, Some, None, option_map, option_and_then}
use Rattle.std.specs.Prelude.{if◌then◌else◌}
use Rattle.std.specs.Cmp.Lexicographic.{pointwise}
use Rattle.f95_tree.specs.declared.expression.Literal.{Literal}
use Rattle.f95_tree.specs.declared.terminal.Terminal.{Terminal}
use Rattle.f95_tree.specs.declared.terminal.Terminal.TheVariants as terminal
use Rattle.f95_tree.specs.declared.terminal.Operator.TheVariants as operator
use Rattle.f95_tree.specs.declared.terminal.Keyword.{Keyword}
use Rattle.f95_tree.specs.declared.terminal.Punctuation.{Punctuation}
use Rattle.f95_tree.specs.declared.terminal.Punctuation.TheVariants as mark
use Rattle.f95_tree.specs.Forms.{Word}
use Rattle.f95_tree.specs.Spelling.{Text}

abbrev pub is : Word → Word → Bool
is name word = pointwise nat_eq word name

abbrev pub is_nil : Text → Bool
is_nil [] = true
is_nil (_ ∷ _) = false

abbrev pub mark_number : Punctuation → ℕ
mark_number mark.Open = 0
mark_number mark.Close = 1
mark_number mark.OpenArray = 2
mark_number mark.CloseArray = 3
mark_number mark.Comma = 4
mark_number mark.Colon = 5
mark_number mark.DoubleColon = 6
mark_number mark.Assign = 7

abbrev pub is_mark : Punctuation → Terminal → Bool
is_mark p (terminal.Punctuation q) = mark_number p == mark_number q
is_mark p _ = false

abbrev pub is_star : Terminal → Bool
is_star (terminal.Operator operator.Multiply) = true
is_star _ = false

abbrev pub behind : Punctuation → Text → Option Text
behind p [] = None
behind p (t ∷ ts) = if is_mark p t then Some ts else None

abbrev pub behind_star : Text → Option Text
behind_star [] = None
behind_star (t ∷ ts) = if is_star t then Some ts else None

abbrev pub as_name : Terminal → Option Word
as_name (terminal.Name n) = Some n
as_name _ = None

abbrev pub as_keyword : Terminal → Option Keyword
as_keyword (terminal.Keyword k) = Some k
as_keyword _ = None

abbrev pub as_literal : Terminal → Option Literal
as_literal (terminal.Literal l) = Some l
as_literal _ = None

abbrev pub behind_name : Text → Option (Word × Text)
behind_name [] = None
behind_name (t ∷ ts) = option_map (λ n. (n, ts)) (as_name t)

abbrev pub behind_keyword : Text → Option (Keyword × Text)
behind_keyword [] = None
behind_keyword (t ∷ ts) = option_map (λ k. (k, ts)) (as_keyword t)

abbrev pub behind_literal : Text → Option (Literal × Text)
behind_literal [] = None
behind_literal (t ∷ ts) = option_map (λ l. (l, ts)) (as_literal t)

-- what stands behind this word, if it stands first
abbrev pub behind_word : Word → Text → Option Text
behind_word w ts = option_and_then (λ p. if is w p.0 then Some p.1 else None) (behind_name ts)

-- what may stand with nothing behind it
abbrev pub at_end : {A : Type 0} → A × Text → Option A
at_end p = if is_nil p.1 then Some p.0 else None

abbrev pub nothing_more : {A : Type 0} → A → Text → Option A
nothing_more a ts = if is_nil ts then Some a else None

-- a name, or nothing
abbrev pub name_at_end : Text → Option (Option Word)
name_at_end ts = if is_nil ts then Some None else option_map Some (option_and_then at_end (behind_name ts))
