-- Where a text is refused: what the clauses of `read` say of bytes that are the text of no program.
-- `IsRefusedAt` is all that a reader must believe beside `ReadsText` of `loop_tree`.
use Rattle.std.specs.Prelude.{◌≡◌, ℕ, ◌+◌, ◌-◌, ◌<◌, ◌≤◌, ◌^◌, ◌==◌, min, Bool, true, not, get_or, if◌then◌else◌, List, [], ◌∷◌}
use Rattle.std.specs.Prelude.{◌++◌, length, take}
use Rattle.std.specs.List.{list_all}
use Rattle.loop_tree.specs.declared.tree.Function.{Function}
use Rattle.loop_tree.specs.Text.{text_lines}
use Rattle.loop_tree.specs.Program.{IsProgram, ReadsText}
use Rattle.loop_text.specs.declared.reading.NoText.{NoText}
use Rattle.loop_text.specs.declared.reading.NoText.TheVariants as no_text

-- bytes cut at their line feeds: the lines that one ends, and what stands behind the last one
pub record Split : Type 0 where
  pub lines : List (List ℕ)
  pub tail : List ℕ

-- no line feed is among the bytes
abbrev pub is_one_line : List ℕ → Bool
is_one_line bytes = list_all (λ c. not (c == 10)) bytes

-- the place of the first line feed
pub record IsLineOf (rest : List ℕ) (end : ℕ) : Type 0 where
  pub within : end < length rest
  pub feed : get_or rest end 0 ≡ 10
  pub line : is_one_line (take end rest) ≡ true

-- one more byte at the front
abbrev pub byte_onto : ℕ → List (List ℕ) → List ℕ → Split
byte_onto c [] tail = record { lines = []; tail = c ∷ tail }
byte_onto c (line ∷ lines) tail = record { lines = (c ∷ line) ∷ lines; tail = tail }

abbrev pub feed_onto : Split → Split
feed_onto p = record { lines = [] ∷ p.lines; tail = p.tail }

abbrev pub split_of : List ℕ → Split
split_of [] = record { lines = []; tail = [] }
split_of (c ∷ cs) = if c == 10 then feed_onto (split_of cs) else byte_onto c ((split_of cs).lines) ((split_of cs).tail)

-- some text begins with these lines
pub record BeginsText (lines : List (List ℕ)) : Type 0 where
  pub program : List Function
  pub more : List (List ℕ)
  pub is_program : IsProgram program
  pub begins : text_lines program ≡ lines ++ more

-- the bytes are no text. The lines before line n begin one, but no text begins with line n behind them: n is the
-- least such number, or that of the lines and one more where there is none. What stands behind the last line feed is a
-- line that no text begins with.
pub record IsRefusedAt (bytes : List ℕ) (n : ℕ) : Type 0 where
  pub counted : 0 < n
  pub within : n ≤ length ((split_of bytes).lines) + 1
  pub before : BeginsText (take (n - 1) ((split_of bytes).lines))
  pub here : n ≤ length ((split_of bytes).lines) → BeginsText (take n ((split_of bytes).lines)) → ⊥
  pub no_text : (program : List Function) → ReadsText bytes program → ⊥

-- the line that is answered: its number, or the greatest of 32 bits
pub record IsRefusedLine (bytes : List ℕ) (line : ℕ) : Type 0 where
  pub number : ℕ
  pub refused : IsRefusedAt bytes number
  pub given : line ≡ min number (2 ^ 32 - 1)

-- what each answer says of the bytes
abbrev pub Refuses : List ℕ → NoText → Type 0
Refuses bytes (no_text.At line) = IsRefusedLine bytes line.0
Refuses bytes no_text.Memory = Unit {0}

-- a text is that of one program
abbrev pub OneProgram : Type 0
OneProgram = (bytes : List ℕ) (program other : List Function) → ReadsText bytes program → ReadsText bytes other → program ≡ other

-- bytes are refused at one line
abbrev pub OneLine : Type 0
OneLine = (bytes : List ℕ) (n m : ℕ) → IsRefusedAt bytes n → IsRefusedAt bytes m → n ≡ m
