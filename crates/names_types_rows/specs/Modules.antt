-- Modules: what USE brings.
use Rattle.std.specs.Prelude.{◌≡◌, [], ◌∷◌, Some}
use Rattle.a95_base.specs.Breaks.{broken_at}
use Rattle.names_types.specs.Plain.{Integer, Character, Computed, Upper, Deferred, Parameter, Source}
use Rattle.names_types.specs.Listed.{breaks_of}
use Rattle.names_types_rows.specs.Build.{number, name, call, scalar_entity, array_entity, initial_entity, declares, taken, uses}
use Rattle.names_types_rows.specs.Build.{uses_only, mentions, part, subroutine, function, a_module, source}

-- 1 module life
-- 2 contains
-- 3 subroutine step(w)
-- 4 integer, intent(inout) :: w(:, :)
-- 5 integer :: n(size(w, 1), size(w, 2))
-- 6 n = cshift(w, 1, 1)
-- 7 end subroutine step
-- 8 end module life
-- 9 program p
-- 10 use life
-- 11 integer :: w(5, 5), i
-- 12 do i = 1, 2
-- 13 call step(w)
-- 14 end do
-- 15 end program p
abbrev pub life : Source
life = source (a_module "life" (part [] [] [])
    (subroutine 3 "step" ("w" ∷ []) (part [] (declares 4 Integer (taken ∷ []) (array_entity "w" (Deferred ∷ Deferred ∷ []) ∷ [])
    ∷ declares 5 Integer [] (array_entity "n" (Upper (call "size" (name "w" ∷ number 1 ∷ [])) ∷ Upper (call "size" (name "w"
    ∷ number 2 ∷ [])) ∷ []) ∷ []) ∷ [])
    (mentions 6 ("n" ∷ "cshift" ∷ "w" ∷ []))) ∷ []) ∷ [])
    (part (uses 10 "life" ∷ []) (declares 11 Integer [] (array_entity "w" (Upper (number 5) ∷ Upper (number 5) ∷ [])
    ∷ scalar_entity "i" ∷ []) ∷ [])
    (mentions 13 ("step" ∷ "w" ∷ []))) []

abbrev pub Life : Type 0
Life = breaks_of life ≡ []

-- 1 module a
-- 2 integer, parameter :: n = 4
-- 3 end module
-- 4 module b
-- 5 use a
-- 6 integer, parameter :: m = n
-- 7 end module
-- 8 program p
-- 9 use a
-- 10 use b, only : n, m
-- 11 integer :: x(n, m)
-- 12 end
abbrev pub brought_again : Source
brought_again = source (a_module "a" (part [] (declares 2 Integer (Parameter ∷ []) (initial_entity "n" (number 4) ∷ []) ∷ []) []) []
    ∷ a_module "b" (part (uses 5 "a" ∷ []) (declares 6 Integer (Parameter ∷ []) (initial_entity "m" (name "n") ∷ [])
    ∷ []) []) [] ∷ [])
    (part (uses 9 "a" ∷ uses_only 10 "b" ("n" ∷ "m" ∷ []) ∷ []) (declares 11 Integer [] (array_entity "x" (Upper (name "n")
    ∷ Upper (name "m") ∷ []) ∷ []) ∷ []) []) []

abbrev pub BroughtAgain : Type 0
BroughtAgain = breaks_of brought_again ≡ []

-- 1 module a
-- 2 integer, parameter :: n = 4
-- 3 end module
-- 4 module b
-- 5 integer, parameter :: n = 4
-- 6 end module
-- 7 program p
-- 8 use a
-- 9 use b
-- 10 end
abbrev pub brought_twice : Source
brought_twice = source (a_module "a" (part [] (declares 2 Integer (Parameter ∷ []) (initial_entity "n" (number 4) ∷ []) ∷ []) []) []
    ∷ a_module "b" (part [] (declares 5 Integer (Parameter ∷ []) (initial_entity "n" (number 4) ∷ []) ∷ []) []) [] ∷ [])
    (part (uses 8 "a" ∷ uses 9 "b" ∷ []) [] []) []

abbrev pub BroughtTwice : Type 0
BroughtTwice = breaks_of brought_twice ≡ broken_at 9 18 ∷ []

-- 1 module a
-- 2 use b
-- 3 integer, parameter :: n = 4
-- 4 end module
-- 5 module b
-- 6 end module
-- 7 program p
-- 8 use a, only : n, m
-- 9 use p
-- 10 end
abbrev pub not_above : Source
not_above = source (a_module "a" (part (uses 2 "b" ∷ []) (declares 3 Integer (Parameter ∷ []) (initial_entity "n" (number 4)
    ∷ []) ∷ []) []) []
    ∷ a_module "b" (part [] [] []) [] ∷ [])
    (part (uses_only 8 "a" ("n" ∷ "m" ∷ []) ∷ uses 9 "p" ∷ []) [] []) []

abbrev pub NotAbove : Type 0
NotAbove = breaks_of not_above ≡ broken_at 2 27 ∷ broken_at 8 27 ∷ broken_at 9 27 ∷ []

-- 1 module a
-- 2 integer :: n
-- 3 end module
-- 4 program p
-- 5 end
abbrev pub module_variable : Source
module_variable = source (a_module "a" (part [] (declares 2 Integer [] (scalar_entity "n" ∷ []) ∷ []) []) [] ∷ [])
    (part [] [] []) []

abbrev pub ModuleVariable : Type 0
ModuleVariable = breaks_of module_variable ≡ broken_at 2 20 ∷ []

-- 1 module a
-- 2 integer, parameter :: n = 4
-- 3 end module
-- 4 program p
-- 5 contains
-- 6 pure character(n) function f()
-- 7 use a
-- 8 f = 'x'
-- 9 end function
-- 10 end
abbrev pub prefix_of_use : Source
prefix_of_use = source (a_module "a" (part [] (declares 2 Integer (Parameter ∷ []) (initial_entity "n" (number 4) ∷ [])
    ∷ []) []) [] ∷ [])
    (part [] [] []) (function 6 (Some (Character (Computed (name "n")))) "f" [] "f" (part (uses 7 "a" ∷ []) [] (mentions 8 ("f"
    ∷ []))) ∷ [])

abbrev pub PrefixOfUse : Type 0
PrefixOfUse = breaks_of prefix_of_use ≡ []
