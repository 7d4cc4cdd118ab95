-- The input rule of READ: how INTEGER values stand in the bytes that are left.
use Rattle.std.specs.Prelude.{ℕ, ℤ, pos, neg_ℤ, ◌+◌, ◌-◌, ◌*◌, ◌^◌, min, Bool, true, false, ◌&&◌, ◌||◌, ◌==◌, nat_lt, nat_le}
use Rattle.std.specs.Prelude.{if◌then◌else◌, Option, Some, None, List, [], ◌∷◌, length, fold}
use Rattle.std.specs.List.{list_all, position_or_len}

-- what is found next: an INTEGER, with the number of bytes through its last digit; nothing more; or anything else
pub data Reading : Type 0 where
  Integer : (value : ℤ) (used : ℕ) → Reading
  NoMore : Reading
  NoInteger : Reading

-- whitespace: a blank, a tab, a carriage return, or the line feed that ends a record
abbrev pub is_whitespace : ℕ → Bool
is_whitespace c = (c == 32) || (c == 9) || (c == 13) || (c == 10)

-- what ends a value: the same, or a comma
abbrev pub is_separator : ℕ → Bool
is_separator c = is_whitespace c || (c == 44)

-- what stands behind the whitespace at the front
abbrev pub past_whitespace : List ℕ → List ℕ
past_whitespace [] = []
past_whitespace (c ∷ cs) = if is_whitespace c then past_whitespace cs else (c ∷ cs)

-- what stands behind a comma at the front, if there is one
abbrev pub past_comma : List ℕ → List ℕ
past_comma [] = []
past_comma (c ∷ cs) = if c == 44 then cs else (c ∷ cs)

-- what stands behind the gap between two values: whitespace, and where a comma may stand, one comma at most in it
abbrev pub past_gap : Bool → List ℕ → List ℕ
past_gap false text = past_whitespace text
past_gap true text = past_whitespace (past_comma (past_whitespace text))

-- the bytes up to the next separator or the end
abbrev pub word_of : List ℕ → List ℕ
word_of [] = []
word_of (c ∷ cs) = if is_separator c then [] else (c ∷ word_of cs)

abbrev pub is_digit : ℕ → Bool
is_digit c = nat_le 48 c && nat_le c 57

-- one digit or more, and nothing else
abbrev pub is_number : List ℕ → Bool
is_number [] = false
is_number (c ∷ cs) = is_digit c && list_all is_digit cs

-- the number that digits write
abbrev pub number_of : List ℕ → ℕ
number_of digits = fold (λ n c. 10 * n + (c - 48)) 0 digits

-- the INTEGER that digits write behind a minus, and behind a plus or no sign; None where it doesn't fit 32 bits
abbrev pub negative_of : List ℕ → Option ℤ
negative_of digits = if is_number digits && nat_le (number_of digits) (2 ^ 31) then Some (neg_ℤ (pos (number_of digits))) else None

abbrev pub positive_of : List ℕ → Option ℤ
positive_of digits = if is_number digits && nat_lt (number_of digits) (2 ^ 31) then Some (pos (number_of digits)) else None

-- the INTEGER that a word writes: a sign or none, and digits
abbrev pub integer_of : List ℕ → Option ℤ
integer_of [] = None
integer_of (c ∷ cs) = if c == 45 then negative_of cs else (if c == 43 then positive_of cs else positive_of (c ∷ cs))

-- an INTEGER that was written, or not, and the bytes through its end
abbrev pub reading_of : Option ℤ → ℕ → Reading
reading_of None used = NoInteger
reading_of (Some value) used = Integer value used

-- what a text holds whose front is no gap, `before` bytes behind the place where the gap began
abbrev pub reading_at : ℕ → List ℕ → Reading
reading_at before [] = NoMore
reading_at before (c ∷ cs) = reading_of (integer_of (word_of (c ∷ cs))) (before + length (word_of (c ∷ cs)))

-- what READ finds next in the bytes that are left, where a comma may be passed or not
abbrev pub next_value : Bool → List ℕ → Reading
next_value comma rest = reading_at (length rest - length (past_gap comma rest)) (past_gap comma rest)

-- the number of bytes through the next line feed, or of all where there is none
abbrev pub record_length : List ℕ → ℕ
record_length rest = min (position_or_len (λ c. c == 10) rest + 1) (length rest)
