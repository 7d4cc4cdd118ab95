-- Kinds of characters, and what of a list of them is of a kind.
use Rattle.std.specs.Prelude.{◌≡◌, ℕ, ◌+◌, Bool, true, false, ◌&&◌, ◌||◌, ◌==◌, nat_le, List, [], ◌∷◌, if◌then◌else◌}
use Rattle.a95_base.specs.Input.{is_digit}
use Rattle.a95_base.specs.Lists.{Every}

-- a tab counts as a blank
abbrev pub is_blank : ℕ → Bool
is_blank c = c == 32 || c == 9

abbrev pub is_letter : ℕ → Bool
is_letter c = (nat_le 97 c && nat_le c 122) || (nat_le 65 c && nat_le c 90)

-- what may stand in a word behind its first letter
abbrev pub is_name : ℕ → Bool
is_name c = is_letter c || is_digit c || c == 95

-- the apostrophe and the quotation mark
abbrev pub is_delimiter : ℕ → Bool
is_delimiter c = c == 39 || c == 34

-- the small letter of a capital
abbrev pub lower : ℕ → ℕ
lower c = if nat_le 65 c && nat_le c 90 then c + 32 else c

-- every character passes
abbrev pub AllPass : (ℕ → Bool) → List ℕ → Type 0
AllPass p cs = Every (λ c. p c ≡ true) cs

-- these begin with a character that passes
abbrev pub begins : (ℕ → Bool) → List ℕ → Bool
begins p [] = false
begins p (c ∷ _) = p c

-- the characters from the first that is no blank
abbrev pub from_blank : List ℕ → List ℕ
from_blank [] = []
from_blank (c ∷ cs) = if is_blank c then from_blank cs else c ∷ cs

abbrev pub is_empty : List ℕ → Bool
is_empty [] = true
is_empty (_ ∷ _) = false

-- nothing, or a comment
abbrev pub is_comment : List ℕ → Bool
is_comment [] = true
is_comment (c ∷ _) = c == 33
