-- Attributes, ranks, lengths and shapes of a main program.
use Rattle.std.specs.Prelude.{◌≡◌, [], ◌∷◌}
use Rattle.a95_base.specs.Breaks.{broken_at}
use Rattle.names_types.specs.Plain.{Integer, Character, Computed, Assumed, Upper, Both, Deferred, Parameter, Allocatable, Dimension}
use Rattle.names_types.specs.Plain.{Source}
use Rattle.names_types.specs.Listed.{breaks_of}
use Rattle.names_types_rows.specs.Build.{number, text, name, plus, call, scalar_entity, array_entity, initial_entity, declares}
use Rattle.names_types_rows.specs.Build.{taken, main}

-- 1 program p
-- 2 integer, parameter :: n
-- 3 integer, allocatable :: a
-- 4 integer :: b(:)
-- 5 integer, allocatable :: c(:), d(2)
-- 6 integer, allocatable, allocatable :: e(:)
-- 7 end
abbrev pub attributes : Source
attributes = main (declares 2 Integer (Parameter ∷ []) (scalar_entity "n" ∷ [])
    ∷ declares 3 Integer (Allocatable ∷ []) (scalar_entity "a" ∷ [])
    ∷ declares 4 Integer [] (array_entity "b" (Deferred ∷ []) ∷ [])
    ∷ declares 5 Integer (Allocatable ∷ []) (array_entity "c" (Deferred ∷ []) ∷ array_entity "d" (Upper (number 2) ∷ []) ∷ [])
    ∷ declares 6 Integer (Allocatable ∷ Allocatable ∷ []) (array_entity "e" (Deferred ∷ []) ∷ []) ∷ []) []

abbrev pub Attributes : Type 0
Attributes = breaks_of attributes ≡ broken_at 2 20 ∷ broken_at 3 20 ∷ broken_at 4 20 ∷ broken_at 5 20 ∷ broken_at 6 20 ∷ []

-- 1 program p
-- 2 integer, dimension(n) :: a(2), b(3)
-- 3 end
abbrev pub entity_bounds_win : Source
entity_bounds_win = main (declares 2 Integer (Dimension (Upper (name "n") ∷ []) ∷ []) (array_entity "a" (Upper (number 2) ∷ [])
    ∷ array_entity "b" (Upper (number 3) ∷ []) ∷ []) ∷ []) []

abbrev pub EntityBoundsWin : Type 0
EntityBoundsWin = breaks_of entity_bounds_win ≡ broken_at 2 19 ∷ []

-- 1 program p
-- 2 integer, intent(in) :: x
-- 3 end
abbrev pub intended : Source
intended = main (declares 2 Integer (taken ∷ []) (scalar_entity "x" ∷ []) ∷ []) []

abbrev pub Intended : Type 0
Intended = breaks_of intended ≡ broken_at 2 21 ∷ []

-- 1 program p
-- 2 integer :: a(1, 1, 1, 1, 1, 1, 1)
-- 3 integer :: b(1, 1, 1, 1, 1, 1, 1, 1)
-- 4 end
abbrev pub ranks : Source
ranks = main (declares 2 Integer [] (array_entity "a" (Upper (number 1) ∷ Upper (number 1) ∷ Upper (number 1) ∷ Upper (number 1)
    ∷ Upper (number 1) ∷ Upper (number 1) ∷ Upper (number 1) ∷ []) ∷ [])
    ∷ declares 3 Integer [] (array_entity "b" (Upper (number 1) ∷ Upper (number 1) ∷ Upper (number 1) ∷ Upper (number 1)
    ∷ Upper (number 1) ∷ Upper (number 1) ∷ Upper (number 1) ∷ Upper (number 1) ∷ []) ∷ []) ∷ []) []

abbrev pub Ranks : Type 0
Ranks = breaks_of ranks ≡ broken_at 3 24 ∷ []

-- 1 program p
-- 2 character(255) :: c
-- 3 character(256) :: d
-- 4 character(*) :: e
-- 5 character(*), parameter :: f = 'ab'
-- 6 character(ichar('a') + 200) :: g
-- 7 end
abbrev pub lengths : Source
lengths = main (declares 2 (Character (Computed (number 255))) [] (scalar_entity "c" ∷ [])
    ∷ declares 3 (Character (Computed (number 256))) [] (scalar_entity "d" ∷ [])
    ∷ declares 4 (Character Assumed) [] (scalar_entity "e" ∷ [])
    ∷ declares 5 (Character Assumed) (Parameter ∷ []) (initial_entity "f" (text "ab") ∷ [])
    ∷ declares 6 (Character (Computed (plus (call "ichar" (text "a" ∷ [])) (number 200)))) [] (scalar_entity "g" ∷ []) ∷ []) []

abbrev pub Lengths : Type 0
Lengths = breaks_of lengths ≡ broken_at 3 25 ∷ broken_at 4 25 ∷ broken_at 6 25 ∷ []

-- 1 program p
-- 2 character(*), parameter :: c = 'a', d = 'ab'
-- 3 integer, parameter :: n = ichar(c), m = ichar(d)
-- 4 end
abbrev pub known_lengths : Source
known_lengths = main (declares 2 (Character Assumed) (Parameter ∷ []) (initial_entity "c" (text "a")
    ∷ initial_entity "d" (text "ab") ∷ [])
    ∷ declares 3 Integer (Parameter ∷ []) (initial_entity "n" (call "ichar" (name "c" ∷ []))
    ∷ initial_entity "m" (call "ichar" (name "d" ∷ [])) ∷ []) ∷ []) []

abbrev pub KnownLengths : Type 0
KnownLengths = breaks_of known_lengths ≡ broken_at 3 22 ∷ []

-- 1 program p
-- 2 integer :: a(16777216)
-- 3 integer :: b(16777217)
-- 4 integer :: c(4096, 0:4096), d(0, 16777217)
-- 5 end
abbrev pub sizes : Source
sizes = main (declares 2 Integer [] (array_entity "a" (Upper (number 16777216) ∷ []) ∷ [])
    ∷ declares 3 Integer [] (array_entity "b" (Upper (number 16777217) ∷ []) ∷ [])
    ∷ declares 4 Integer [] (array_entity "c" (Upper (number 4096) ∷ Both (number 0) (number 4096) ∷ [])
    ∷ array_entity "d" (Upper (number 0) ∷ Upper (number 16777217) ∷ []) ∷ []) ∷ []) []

abbrev pub Sizes : Type 0
Sizes = breaks_of sizes ≡ broken_at 3 26 ∷ broken_at 4 26 ∷ []
