-- What the language sets a limit to.
use Rattle.std.specs.Prelude.{ℕ, ◌^◌}

-- the characters of a word
abbrev pub longest_word : ℕ
longest_word = 31

-- the dimensions of an array
abbrev pub greatest_rank : ℕ
greatest_rank = 7

-- the elements of an array, and the cells of a block
abbrev pub most_elements : ℕ
most_elements = 2 ^ 24

-- the bytes of a text
abbrev pub longest_text : ℕ
longest_text = 255
