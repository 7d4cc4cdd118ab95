-- CHARACTER values: texts of bytes, in which the blank is the byte 32. Places are counted from 1.
use Rattle.std.specs.Prelude.{ℕ, ℤ, pos, negsuc, ◌+◌, ◌-◌, ◌==◌, max, Bool, nat_lt, nat_eq, if◌then◌else◌, Option, Some, None, List}
use Rattle.std.specs.Prelude.{[], ◌∷◌, ◌++◌, length, take, drop, replicate}
use Rattle.std.specs.List.{list_all, starts_with}
use Rattle.std.specs.Ordering.{nat_cmp}
use Rattle.std.specs.declared.cmp.Ordering.{Ordering}
use Rattle.std.specs.Cmp.Lexicographic.{slice_cmp}

abbrev pub is_blank : ℕ → Bool
is_blank c = c == 32

-- cut to n bytes, or padded with blanks on the right
abbrev pub fit : ℕ → List ℕ → List ℕ
fit n text = take n text ++ replicate (n - length text) 32

-- the order of two texts, the shorter padded with blanks: the first byte that differs decides, by number
abbrev pub compare_padded : List ℕ → List ℕ → Ordering
compare_padded a b = slice_cmp nat_cmp (fit (max (length a) (length b)) a) (fit (max (length a) (length b)) b)

-- TRIM: without the blanks at the end
abbrev pub trim : List ℕ → List ℕ
trim [] = []
trim (c ∷ cs) = if list_all is_blank (c ∷ cs) then [] else (c ∷ trim cs)

-- LEN_TRIM
abbrev pub trimmed_length : List ℕ → ℕ
trimmed_length text = length (trim text)

-- without the blanks at the front
abbrev pub trim_front : List ℕ → List ℕ
trim_front [] = []
trim_front (c ∷ cs) = if is_blank c then trim_front cs else (c ∷ cs)

-- ADJUSTL: the leading blanks moved to the end. ADJUSTR: the trailing ones to the front
abbrev pub adjust_left : List ℕ → List ℕ
adjust_left text = fit (length text) (trim_front text)

abbrev pub adjust_right : List ℕ → List ℕ
adjust_right text = replicate (length text - length (trim text)) 32 ++ trim text

-- the first place of `part` in a text whose first byte has this place, or 0
abbrev pub place_from : ℕ → List ℕ → List ℕ → ℕ
place_from place [] part = if starts_with nat_eq [] part then place else 0
place_from place (c ∷ cs) part = if starts_with nat_eq (c ∷ cs) part then place else place_from (place + 1) cs part

-- INDEX
abbrev pub first_place : List ℕ → List ℕ → ℕ
first_place text part = place_from 1 text part

-- ICHAR: the number of the byte of a text of one byte. CHAR: the text of one byte with this number
abbrev pub code_of : List ℕ → Option ℤ
code_of [] = None
code_of (c ∷ []) = Some (pos c)
code_of (c ∷ d ∷ more) = None

abbrev pub char_of : ℤ → Option (List ℕ)
char_of (pos n) = if nat_lt n 256 then Some (n ∷ []) else None
char_of (negsuc n) = None

-- the bytes from one place to another
abbrev pub part_of : List ℕ → ℕ → ℕ → List ℕ
part_of text from to = drop (from - 1) (take to text)

-- the bytes from a place on replaced by those of `new`
abbrev pub over : List ℕ → ℕ → List ℕ → List ℕ
over text from new = take (from - 1) text ++ (new ++ drop (from - 1 + length new) text)
