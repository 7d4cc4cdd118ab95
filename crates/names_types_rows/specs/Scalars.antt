-- Names and constants of a main program, and what each program breaks.
use Rattle.std.specs.Prelude.{◌≡◌, pos, true, [], ◌∷◌}
use Rattle.a95_base.specs.Breaks.{broken_at}
use Rattle.names_types.specs.Plain.{Integer, Logical, Character, Number, Upper, Parameter, Source}
use Rattle.names_types.specs.Listed.{breaks_of}
use Rattle.names_types_rows.specs.Build.{number, truth, name, plus, times, over, call, constructor, scalar_entity, array_entity}
use Rattle.names_types_rows.specs.Build.{initial_entity, initial_array, declares, mentions, main}

-- 1 program p
-- 2 integer :: n, m
-- 3 logical :: n
-- 4 m = abs(n) + x
-- 5 end
abbrev pub twice : Source
twice = main (declares 2 Integer [] (scalar_entity "n" ∷ scalar_entity "m" ∷ []) ∷ declares 3 Logical [] (scalar_entity "n"
    ∷ []) ∷ [])
    (mentions 4 ("m" ∷ "abs" ∷ "n" ∷ "x" ∷ []))

abbrev pub Twice : Type 0
Twice = breaks_of twice ≡ broken_at 3 18 ∷ broken_at 4 19 ∷ []

-- 1 program p
-- 2 x = 1
-- 3 end
abbrev pub undeclared : Source
undeclared = main [] (mentions 2 ("x" ∷ []))

abbrev pub Undeclared : Type 0
Undeclared = breaks_of undeclared ≡ broken_at 2 19 ∷ []

-- 1 program p
-- 2 integer, parameter :: n = 3, m = mod(n * 2, 4)
-- 3 integer :: a(n, m + 1)
-- 4 logical, parameter :: l = .true.
-- 5 end
abbrev pub constants : Source
constants = main (declares 2 Integer (Parameter ∷ []) (initial_entity "n" (number 3)
    ∷ initial_entity "m" (call "mod" (times (name "n") (number 2) ∷ number 4 ∷ [])) ∷ [])
    ∷ declares 3 Integer [] (array_entity "a" (Upper (name "n") ∷ Upper (plus (name "m") (number 1)) ∷ []) ∷ [])
    ∷ declares 4 Logical (Parameter ∷ []) (initial_entity "l" (truth true) ∷ []) ∷ []) []

abbrev pub Constants : Type 0
Constants = breaks_of constants ≡ []

-- 1 program p
-- 2 integer, parameter :: m = n, n = 1
-- 3 end
abbrev pub too_early : Source
too_early = main (declares 2 Integer (Parameter ∷ []) (initial_entity "m" (name "n") ∷ initial_entity "n" (number 1) ∷ []) ∷ []) []

abbrev pub TooEarly : Type 0
TooEarly = breaks_of too_early ≡ broken_at 2 22 ∷ []

-- 1 program p
-- 2 integer, parameter :: n = .true.
-- 3 integer :: a(1 + .true.)
-- 4 end
abbrev pub other_kind : Source
other_kind = main (declares 2 Integer (Parameter ∷ []) (initial_entity "n" (truth true) ∷ [])
    ∷ declares 3 Integer [] (array_entity "a" (Upper (plus (number 1) (truth true)) ∷ []) ∷ []) ∷ []) []

abbrev pub OtherKind : Type 0
OtherKind = breaks_of other_kind ≡ broken_at 2 22 ∷ broken_at 3 22 ∷ []

-- 1 program p
-- 2 integer, parameter :: n = 2147483647
-- 3 integer, parameter :: m = n + 1
-- 4 end
abbrev pub overflow : Source
overflow = main (declares 2 Integer (Parameter ∷ []) (initial_entity "n" (number 2147483647) ∷ [])
    ∷ declares 3 Integer (Parameter ∷ []) (initial_entity "m" (plus (name "n") (number 1)) ∷ []) ∷ []) []

abbrev pub Overflow : Type 0
Overflow = breaks_of overflow ≡ broken_at 3 23 ∷ []

-- 1 program p
-- 2 integer, parameter :: n = 1 / 0, m = n + 1
-- 3 integer :: a(m)
-- 4 end
abbrev pub one_fault : Source
one_fault = main (declares 2 Integer (Parameter ∷ []) (initial_entity "n" (over (number 1) (number 0))
    ∷ initial_entity "m" (plus (name "n") (number 1)) ∷ [])
    ∷ declares 3 Integer [] (array_entity "a" (Upper (name "m") ∷ []) ∷ []) ∷ []) []

abbrev pub OneFault : Type 0
OneFault = breaks_of one_fault ≡ broken_at 2 23 ∷ []

-- 1 program p
-- 2 character, parameter :: c = char(255), d = char(256)
-- 3 end
abbrev pub char_range : Source
char_range = main (declares 2 (Character (Number (pos 1))) (Parameter ∷ []) (initial_entity "c" (call "char" (number 255 ∷ []))
    ∷ initial_entity "d" (call "char" (number 256 ∷ [])) ∷ []) ∷ []) []

abbrev pub CharRange : Type 0
CharRange = breaks_of char_range ≡ broken_at 2 23 ∷ []

-- 1 program p
-- 2 integer :: a(2) = (/ 1, 2 /)
-- 3 integer :: b(2) = (/ 1, .true. /)
-- 4 integer :: c = (/ 1 /)
-- 5 end
abbrev pub constructors : Source
constructors = main (declares 2 Integer [] (initial_array "a" (Upper (number 2) ∷ []) (constructor (number 1 ∷ number 2 ∷ [])) ∷ [])
    ∷ declares 3 Integer [] (initial_array "b" (Upper (number 2) ∷ []) (constructor (number 1 ∷ truth true ∷ [])) ∷ [])
    ∷ declares 4 Integer [] (initial_entity "c" (constructor (number 1 ∷ [])) ∷ []) ∷ []) []

abbrev pub Constructors : Type 0
Constructors = breaks_of constructors ≡ broken_at 3 22 ∷ broken_at 4 22 ∷ []
