-- Corners of the rules: what a prefix says, what hides an intrinsic, which module is meant, and which rule speaks alone.
use Rattle.std.specs.Prelude.{◌≡◌, true, [], ◌∷◌, Some}
use Rattle.a95_base.specs.Breaks.{broken_at}
use Rattle.names_types.specs.Plain.{Integer, Character, Computed, Assumed, Upper, Deferred, Parameter, Allocatable, Source}
use Rattle.names_types.specs.Listed.{breaks_of}
use Rattle.names_types_rows.specs.Build.{number, truth, name, plus, times, over, call, keyed_call, scalar_entity, array_entity}
use Rattle.names_types_rows.specs.Build.{initial_entity, declares, taken, uses, uses_only, mentions, part, subroutine, function}
use Rattle.names_types_rows.specs.Build.{a_module, source, main, with_one}

-- 1 program p
-- 2 contains
-- 3 pure character(*) function f()
-- 4 end function
-- 5 end
abbrev pub assumed_prefix : Source
assumed_prefix =
    with_one [] (function 3 (Some (Character Assumed)) "f" [] "f" (part [] [] []))

abbrev pub AssumedPrefix : Type 0
AssumedPrefix = breaks_of assumed_prefix ≡ broken_at 3 25 ∷ broken_at 3 29 ∷ []

-- 1 program p
-- 2 contains
-- 3 subroutine s(w)
-- 4 integer, intent(in) :: w(:)
-- 5 integer :: a(size(w, 1))
-- 6 end subroutine
-- 7 pure integer function size(x)
-- 8 integer, intent(in) :: x
-- 9 size = x
-- 10 end function
-- 11 end
abbrev pub hidden_size : Source
hidden_size =
    source [] (part [] [] [])
    (subroutine 3 "s" ("w" ∷ []) (part [] (declares 4 Integer (taken ∷ []) (array_entity "w" (Deferred ∷ []) ∷ [])
    ∷ declares 5 Integer [] (array_entity "a" (Upper (call "size" (name "w" ∷ number 1 ∷ [])) ∷ []) ∷ []) ∷ []) [])
    ∷ function 7 (Some Integer) "size" ("x" ∷ []) "size" (part [] (declares 8 Integer (taken ∷ []) (scalar_entity "x" ∷ []) ∷ [])
    (mentions 9 ("size" ∷ "x" ∷ []))) ∷ [])

abbrev pub HiddenSize : Type 0
HiddenSize = breaks_of hidden_size ≡ broken_at 5 30 ∷ []

-- 1 module m
-- 2 contains
-- 3 subroutine s()
-- 4 use m
-- 5 end subroutine
-- 6 end module
-- 7 program p
-- 8 end
abbrev pub own_module : Source
own_module =
    source (a_module "m" (part [] [] []) (subroutine 3 "s" [] (part (uses 4 "m" ∷ []) [] []) ∷ []) ∷ []) (part [] [] []) []

abbrev pub OwnModule : Type 0
OwnModule = breaks_of own_module ≡ broken_at 4 27 ∷ []

-- 1 module a
-- 2 integer, parameter :: n = 1
-- 3 end module
-- 4 module a
-- 5 integer, parameter :: m = 2
-- 6 end module
-- 7 program p
-- 8 use a, only : m
-- 9 use a, only : n
-- 10 end
abbrev pub nearest_module : Source
nearest_module =
    source (a_module "a" (part [] (declares 2 Integer (Parameter ∷ []) (initial_entity "n" (number 1) ∷ []) ∷ []) []) []
    ∷ a_module "a" (part [] (declares 5 Integer (Parameter ∷ []) (initial_entity "m" (number 2) ∷ []) ∷ []) []) [] ∷ [])
    (part (uses_only 8 "a" ("m" ∷ []) ∷ uses_only 9 "a" ("n" ∷ []) ∷ []) [] []) []

abbrev pub NearestModule : Type 0
NearestModule = breaks_of nearest_module ≡ broken_at 9 27 ∷ []

-- 1 program p
-- 2 contains
-- 3 subroutine s()
-- 4 integer :: a(16777217)
-- 5 integer :: b(1 / 0)
-- 6 end subroutine
-- 7 end
abbrev pub constant_bounds : Source
constant_bounds =
    with_one [] (subroutine 3 "s" [] (part [] (declares 4 Integer [] (array_entity "a" (Upper (number 16777217) ∷ []) ∷ [])
    ∷ declares 5 Integer [] (array_entity "b" (Upper (over (number 1) (number 0)) ∷ []) ∷ []) ∷ []) []))

abbrev pub ConstantBounds : Type 0
ConstantBounds = breaks_of constant_bounds ≡ broken_at 4 26 ∷ []

-- 1 program p
-- 2 integer :: a(x + .true.)
-- 3 end
abbrev pub undeclared_bound : Source
undeclared_bound =
    main (declares 2 Integer [] (array_entity "a" (Upper (plus (name "x") (truth true)) ∷ []) ∷ []) ∷ []) []

abbrev pub UndeclaredBound : Type 0
UndeclaredBound = breaks_of undeclared_bound ≡ broken_at 2 19 ∷ []

-- 1 module a
-- 2 integer, parameter :: f = 1
-- 3 end module
-- 4 program p
-- 5 contains
-- 6 pure integer function f()
-- 7 use a
-- 8 end function
-- 9 end
abbrev pub prefix_before_use : Source
prefix_before_use =
    source (a_module "a" (part [] (declares 2 Integer (Parameter ∷ []) (initial_entity "f" (number 1) ∷ []) ∷ []) []) [] ∷ [])
    (part [] [] []) (function 6 (Some Integer) "f" [] "f" (part (uses 7 "a" ∷ []) [] []) ∷ [])

abbrev pub PrefixBeforeUse : Type 0
PrefixBeforeUse = breaks_of prefix_before_use ≡ broken_at 7 18 ∷ []

-- 1 program p
-- 2 contains
-- 3 subroutine s(x, y, z)
-- 4 integer, intent(in) :: x(:, 2), local
-- 5 integer, allocatable, intent(in) :: y(:)
-- 6 integer, parameter, intent(in) :: z = 1
-- 7 end subroutine
-- 8 end
abbrev pub no_dummies : Source
no_dummies =
    with_one [] (subroutine 3 "s" ("x" ∷ "y" ∷ "z" ∷ []) (part []
    (declares 4 Integer (taken ∷ []) (array_entity "x" (Deferred ∷ Upper (number 2) ∷ []) ∷ scalar_entity "local" ∷ [])
    ∷ declares 5 Integer (Allocatable ∷ taken ∷ []) (array_entity "y" (Deferred ∷ []) ∷ [])
    ∷ declares 6 Integer (Parameter ∷ taken ∷ []) (initial_entity "z" (number 1) ∷ []) ∷ []) []))

abbrev pub NoDummies : Type 0
NoDummies = breaks_of no_dummies ≡ broken_at 4 20 ∷ broken_at 5 20 ∷ broken_at 6 20 ∷ broken_at 4 21 ∷ []

-- 1 program p
-- 2 integer, parameter :: n = max(a4 = 3, a2 = 5, a1 = 1)
-- 3 character(n * 60) :: c
-- 4 integer, parameter :: m = max(a1 = 1, a3 = 2)
-- 5 end
abbrev pub keywords : Source
keywords =
    main (declares 2 Integer (Parameter ∷ []) (initial_entity "n"
    (keyed_call "max" (("a4", number 3) ∷ ("a2", number 5) ∷ ("a1", number 1) ∷ [])) ∷ [])
    ∷ declares 3 (Character (Computed (times (name "n") (number 60)))) [] (scalar_entity "c" ∷ [])
    ∷ declares 4 Integer (Parameter ∷ []) (initial_entity "m"
    (keyed_call "max" (("a1", number 1) ∷ ("a3", number 2) ∷ [])) ∷ []) ∷ []) []

abbrev pub Keywords : Type 0
Keywords = breaks_of keywords ≡ broken_at 4 22 ∷ broken_at 3 25 ∷ []
