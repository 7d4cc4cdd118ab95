-- Dummies, results, hosts and bounds of procedures.
use Rattle.std.specs.Prelude.{◌≡◌, [], ◌∷◌, Some, None}
use Rattle.a95_base.specs.Breaks.{broken_at}
use Rattle.names_types.specs.Plain.{Integer, Upper, Deferred, Parameter, Allocatable, Source}
use Rattle.names_types.specs.Listed.{breaks_of}
use Rattle.names_types_rows.specs.Build.{number, name, over, call, scalar_entity, array_entity, initial_entity, declares, taken}
use Rattle.names_types_rows.specs.Build.{given, mentions, part, subroutine, function, with_one}

-- 1 program p
-- 2 contains
-- 3 subroutine s(x, y)
-- 4 integer :: y
-- 5 y = x
-- 6 end subroutine
-- 7 end
abbrev pub dummy_alone : Source
dummy_alone = with_one [] (subroutine 3 "s" ("x" ∷ "y" ∷ []) (part [] (declares 4 Integer [] (scalar_entity "y" ∷ []) ∷ [])
    (mentions 5 ("y" ∷ "x" ∷ []))))

abbrev pub DummyAlone : Type 0
DummyAlone = breaks_of dummy_alone ≡ broken_at 5 19 ∷ broken_at 3 21 ∷ broken_at 4 21 ∷ []

-- 1 program p
-- 2 contains
-- 3 subroutine s(x)
-- 4 integer :: x
-- 5 integer, intent(in) :: x
-- 6 end subroutine
-- 7 end
abbrev pub intent_later : Source
intent_later = with_one [] (subroutine 3 "s" ("x" ∷ []) (part [] (declares 4 Integer [] (scalar_entity "x" ∷ [])
    ∷ declares 5 Integer (taken ∷ []) (scalar_entity "x" ∷ []) ∷ []) []))

abbrev pub IntentLater : Type 0
IntentLater = breaks_of intent_later ≡ broken_at 5 18 ∷ []

-- 1 program p
-- 2 contains
-- 3 subroutine s(x, x)
-- 4 integer, intent(in) :: x
-- 5 end subroutine
-- 6 end
abbrev pub listed_twice : Source
listed_twice = with_one [] (subroutine 3 "s" ("x" ∷ "x" ∷ []) (part [] (declares 4 Integer (taken ∷ []) (scalar_entity "x" ∷ [])
    ∷ []) []))

abbrev pub ListedTwice : Type 0
ListedTwice = breaks_of listed_twice ≡ broken_at 3 21 ∷ broken_at 3 21 ∷ []

-- 1 program p
-- 2 contains
-- 3 pure function f() result(r)
-- 4 r = f()
-- 5 end function
-- 6 end
abbrev pub no_result : Source
no_result = with_one [] (function 3 None "f" [] "r" (part [] [] (mentions 4 ("r" ∷ "f" ∷ []))))

abbrev pub NoResult : Type 0
NoResult = breaks_of no_result ≡ broken_at 4 19 ∷ broken_at 3 29 ∷ []

-- 1 program p
-- 2 contains
-- 3 pure integer function f()
-- 4 integer :: f
-- 5 f = 1
-- 6 end function
-- 7 end
abbrev pub typed_twice : Source
typed_twice = with_one [] (function 3 (Some Integer) "f" [] "f" (part [] (declares 4 Integer [] (scalar_entity "f" ∷ []) ∷ [])
    (mentions 5 ("f" ∷ []))))

abbrev pub TypedTwice : Type 0
TypedTwice = breaks_of typed_twice ≡ broken_at 4 18 ∷ []

-- 1 program p
-- 2 contains
-- 3 pure function f()
-- 4 integer, allocatable :: f(:)
-- 5 end function
-- 6 end
abbrev pub assumed_result : Source
assumed_result = with_one [] (function 3 None "f" [] "f" (part [] (declares 4 Integer (Allocatable
    ∷ []) (array_entity "f" (Deferred ∷ []) ∷ []) ∷ []) []))

abbrev pub AssumedResult : Type 0
AssumedResult = breaks_of assumed_result ≡ broken_at 4 29 ∷ []

-- 1 program p
-- 2 integer :: n, abs
-- 3 integer, parameter :: k = 2
-- 4 contains
-- 5 subroutine s()
-- 6 integer, parameter :: m = n
-- 7 integer :: a(k)
-- 8 a = abs(k)
-- 9 end subroutine
-- 10 end
abbrev pub of_the_host : Source
of_the_host = with_one (declares 2 Integer [] (scalar_entity "n" ∷ scalar_entity "abs" ∷ []) ∷ declares 3 Integer (Parameter
    ∷ []) (initial_entity "k" (number 2) ∷ []) ∷ [])
    (subroutine 5 "s" [] (part [] (declares 6 Integer (Parameter ∷ []) (initial_entity "m" (name "n") ∷ [])
    ∷ declares 7 Integer [] (array_entity "a" (Upper (name "k") ∷ []) ∷ []) ∷ []) (mentions 8 ("a" ∷ "abs" ∷ "k" ∷ []))))

abbrev pub OfTheHost : Type 0
OfTheHost = breaks_of of_the_host ≡ broken_at 6 28 ∷ broken_at 8 28 ∷ []

-- 1 program p
-- 2 contains
-- 3 subroutine s(n, w)
-- 4 integer :: a(n), b(n, size(w, 1))
-- 5 integer, intent(in) :: n, w(:)
-- 6 integer :: c(size(w, 1)), d(n / 0)
-- 7 integer :: e(size(w))
-- 8 end subroutine
-- 9 end
abbrev pub bounds : Source
bounds = with_one [] (subroutine 3 "s" ("n" ∷ "w" ∷ []) (part []
    (declares 4 Integer [] (array_entity "a" (Upper (name "n") ∷ []) ∷ array_entity "b" (Upper (name "n")
    ∷ Upper (call "size" (name "w" ∷ number 1 ∷ [])) ∷ []) ∷ [])
    ∷ declares 5 Integer (taken ∷ []) (scalar_entity "n" ∷ array_entity "w" (Deferred ∷ []) ∷ [])
    ∷ declares 6 Integer [] (array_entity "c" (Upper (call "size" (name "w" ∷ number 1 ∷ [])) ∷ [])
    ∷ array_entity "d" (Upper (over (name "n") (number 0)) ∷ []) ∷ [])
    ∷ declares 7 Integer [] (array_entity "e" (Upper (call "size" (name "w" ∷ [])) ∷ []) ∷ []) ∷ []) []))

abbrev pub Bounds : Type 0
Bounds = breaks_of bounds ≡ broken_at 4 30 ∷ broken_at 7 30 ∷ []

-- 1 program p
-- 2 contains
-- 3 subroutine s(n, m)
-- 4 integer, intent(out) :: n
-- 5 integer, intent(in) :: m(2)
-- 6 integer :: a(n), b(m)
-- 7 end subroutine
-- 8 end
abbrev pub unread : Source
unread = with_one [] (subroutine 3 "s" ("n" ∷ "m" ∷ []) (part [] (declares 4 Integer (given ∷ []) (scalar_entity "n" ∷ [])
    ∷ declares 5 Integer (taken ∷ []) (array_entity "m" (Upper (number 2) ∷ []) ∷ [])
    ∷ declares 6 Integer [] (array_entity "a" (Upper (name "n") ∷ []) ∷ array_entity "b" (Upper (name "m") ∷ []) ∷ []) ∷ []) []))

abbrev pub Unread : Type 0
Unread = breaks_of unread ≡ broken_at 6 30 ∷ broken_at 6 30 ∷ []
