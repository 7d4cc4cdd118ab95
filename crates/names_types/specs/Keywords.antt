-- The place of an argument's keyword, and the intrinsic of a name.
use Rattle.std.specs.Prelude.{ℕ, ◌+◌, ◌*◌, ◌-◌, ◌==◌, nat_le, Bool, ◌&&◌, if◌then◌else◌, List, [], ◌∷◌, ◌++◌, fold, Option, Some}
use Rattle.std.specs.Prelude.{None}
use Rattle.std.specs.List.{list_all, position_from}
use Rattle.a95_base.specs.Input.{is_digit}
use Rattle.f95_tree.specs.Forms.{Word}
use Rattle.intrinsic_table.specs.declared.intrinsic.Intrinsic.{Intrinsic}
use Rattle.intrinsic_table.specs.Finding.{is_word, first_named, beginning}
use Rattle.intrinsic_table.specs.Interface.{most_numbered}
use Rattle.intrinsic_table.specs.Standing.{begins_number}
use Rattle.intrinsic_table.specs.Table.{Arguments, Takes, Numbered, row_of}

-- the intrinsic of a name, whether the name is declared or not
abbrev pub intrinsic_named : Word → Option Intrinsic
intrinsic_named [] = None
intrinsic_named (byte ∷ more) = first_named (beginning byte) (byte ∷ more)

-- the number that digits write
abbrev pub number_written : List ℕ → ℕ
number_written digits = fold (λ n digit. n * 10 + (digit - 48)) 0 digits

-- the digits of a number of at most 32 bits, the first of which isn't 0
abbrev pub is_numeral : List ℕ → Bool
is_numeral digits = begins_number digits && (list_all is_digit digits && nat_le (number_written digits) most_numbered)

-- a1 has place 0, a2 place 1, and so on
abbrev pub numbered_place : Word → Option ℕ
numbered_place [] = None
numbered_place (letter ∷ digits) = if letter == 97 && is_numeral digits then Some (number_written digits - 1) else None

abbrev pub keyword_place_in : Arguments → Word → Option ℕ
keyword_place_in (Takes needed optional) word = position_from (is_word word) 0 (needed ++ optional)
keyword_place_in Numbered word = numbered_place word

abbrev pub keyword_place : Intrinsic → Word → Option ℕ
keyword_place which word = keyword_place_in (row_of which).arguments word
