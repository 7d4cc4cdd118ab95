-- What a text is allowed at most.
use Rattle.std.specs.Prelude.{ℕ}

-- the bytes of a file
abbrev pub longest_file : ℕ
longest_file = 1048576

-- the characters of a line
abbrev pub longest_line : ℕ
longest_line = 132

-- the first continuation line of a statement that is one too many
abbrev pub too_many_lines : ℕ
too_many_lines = 40
