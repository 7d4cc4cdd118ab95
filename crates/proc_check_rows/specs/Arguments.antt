-- Arguments that match their dummies, and arguments that don't. Each unit stands below its source; variables and procedures are
-- numbered from 0.
use Rattle.std.specs.Prelude.{◌≡◌, [], ◌∷◌}
use Rattle.a95_base.specs.Breaks.{broken_at}
use Rattle.f95_unit.specs.declared.unit.Intent.TheVariants as intent
use Rattle.f95_unit.specs.Plain.{typed, Named, at, Whole, Subscripted, no_subscript, subscript, Vector, SubscriptTriplet, One}
use Rattle.f95_unit.specs.Plain.{Absent, AllOf, BytesOf, Given, Brackets, Trim, no_argument, argument, call, Calls, Do, Program}
use Rattle.proc_check.specs.Listed.{breaks_of}
use Rattle.proc_check_rows.specs.Build.{ints, texts, some_text, number, truth, variable, function_call, actuals, stmts, calls, sets}
use Rattle.proc_check_rows.specs.Build.{integer, character, character_star, own, dummy, no_prefix, with_pure, with_elemental}
use Rattle.proc_check_rows.specs.Build.{subroutine, function, program}

-- 1 program p
-- 2 integer :: a
-- 3 call s(a)
-- 4 call s(a, 1)
-- 5 call s(a, 1, 2)
-- 6 call s(y = 1, x = a)
-- 7 call s(a, x = 1)
-- 8 call s
-- 9 contains
-- 10 subroutine s(x, y)
-- 11 integer, intent(in) :: x, y
-- 12 end subroutine
-- 13 end
abbrev pub numbers : Program
numbers = program (own 2 integer 0 ∷ [])
    (calls 3 0 (variable 0 0 ∷ []) ∷ calls 4 0 (variable 0 0 ∷ number 1 ∷ []) ∷ calls 5 0 (variable 0 0 ∷ number 1 ∷ number 2 ∷ [])
    ∷ Calls 6 (call 0 (argument 1 (number 1) (argument 0 (variable 0 0) no_argument)))
    ∷ Calls 7 (call 0 (argument 0 (variable 0 0) (argument 0 (number 1) no_argument))) ∷ calls 8 0 [] ∷ [])
    (subroutine no_prefix 10 (dummy 11 integer 0 0 intent.In ∷ dummy 11 integer 0 1 intent.In ∷ []) [] ∷ [])

abbrev pub Numbers : Type 0
Numbers = breaks_of numbers ≡ broken_at 3 41 ∷ broken_at 5 41 ∷ broken_at 7 41 ∷ broken_at 8 41 ∷ []

-- 1 program p
-- 2 integer :: a(3), i
-- 3 call s(a)
-- 4 call s(i)
-- 5 call s(.true.)
-- 6 call f(i)
-- 7 i = s(i)
-- 8 i = f(i)
-- 9 call p
-- 10 contains
-- 11 subroutine s(x)
-- 12 integer, intent(in) :: x
-- 13 end subroutine
-- 14 pure function f(x)
-- 15 integer, intent(in) :: x
-- 16 integer :: f
-- 17 end function
-- 18 end
abbrev pub kinds : Program
kinds = program (own 2 integer 1 ∷ own 2 integer 0 ∷ [])
    (calls 3 0 (variable 1 0 ∷ []) ∷ calls 4 0 (variable 0 1 ∷ []) ∷ calls 5 0 (truth ∷ []) ∷ calls 6 1 (variable 0 1 ∷ [])
    ∷ sets 7 1 (function_call 0 0 (actuals (variable 0 1 ∷ []))) ∷ sets 8 1 (function_call 0 1 (actuals (variable 0 1 ∷ [])))
    ∷ calls 9 2 [] ∷ [])
    (subroutine no_prefix 11 (dummy 12 integer 0 0 intent.In ∷ []) []
    ∷ function with_pure 14 (dummy 15 integer 0 0 intent.In ∷ own 16 integer 0 ∷ []) 1 [] ∷ [])

abbrev pub Kinds : Type 0
Kinds = breaks_of kinds ≡ broken_at 3 41 ∷ broken_at 5 41 ∷ broken_at 6 41 ∷ broken_at 7 41 ∷ broken_at 9 41 ∷ []

-- 1 program p
-- 2 integer :: a(3), b(3, 3)
-- 3 call s(f(a, 1))
-- 4 call s(f(a, b))
-- 5 call t(1)
-- 6 call t(a)
-- 7 contains
-- 8 subroutine s(x)
-- 9 integer, intent(in) :: x(3)
-- 10 end subroutine
-- 11 elemental function f(x, y)
-- 12 integer, intent(in) :: x, y
-- 13 integer :: f
-- 14 f = x
-- 15 end function
-- 16 elemental subroutine t(x)
-- 17 integer, intent(in) :: x
-- 18 end subroutine
-- 19 end
abbrev pub elementals : Program
elementals = program (own 2 integer 1 ∷ own 2 integer 2 ∷ [])
    (calls 3 0 (function_call 1 1 (actuals (variable 1 0 ∷ number 1 ∷ [])) ∷ [])
    ∷ calls 4 0 (function_call 1 1 (actuals (variable 1 0 ∷ variable 2 1 ∷ [])) ∷ []) ∷ calls 5 2 (number 1 ∷ [])
    ∷ calls 6 2 (variable 1 0 ∷ []) ∷ [])
    (subroutine no_prefix 8 (dummy 9 integer 1 0 intent.In ∷ []) []
    ∷ function with_elemental 11 (dummy 12 integer 0 0 intent.In ∷ dummy 12 integer 0 1 intent.In ∷ own 13 integer 0 ∷ []) 2
    (sets 14 2 (variable 0 0) ∷ [])
    ∷ subroutine with_elemental 16 (dummy 17 integer 0 0 intent.In ∷ []) [] ∷ [])

abbrev pub Elementals : Type 0
Elementals = breaks_of elementals ≡ broken_at 4 41 ∷ broken_at 6 44 ∷ []

-- 1 program p
-- 2 integer :: a(3), i
-- 3 call s(i)
-- 4 call s(a(1))
-- 5 call s(1)
-- 6 call s((i))
-- 7 do i = 1, 2
-- 8 call s(i)
-- 9 end do
-- 10 call s(i)
-- 11 contains
-- 12 subroutine s(x)
-- 13 integer, intent(out) :: x
-- 14 end subroutine
-- 15 end
abbrev pub outs : Program
outs = program (own 2 integer 1 ∷ own 2 integer 0 ∷ [])
    (calls 3 0 (variable 0 1 ∷ [])
    ∷ calls 4 0 (typed (ints 0) (Named (at 0 (Subscripted (subscript (One (number 1)) no_subscript)) AllOf)) ∷ [])
    ∷ calls 5 0 (number 1 ∷ []) ∷ calls 6 0 (typed (ints 0) (Brackets (variable 0 1)) ∷ [])
    ∷ Do 7 1 (number 1) (number 2) Absent (stmts (calls 8 0 (variable 0 1 ∷ []) ∷ [])) ∷ calls 10 0 (variable 0 1 ∷ []) ∷ [])
    (subroutine no_prefix 12 (dummy 13 integer 0 0 intent.Out ∷ []) [] ∷ [])

abbrev pub Outs : Type 0
Outs = breaks_of outs ≡ broken_at 5 42 ∷ broken_at 6 42 ∷ broken_at 8 42 ∷ []

-- 1 program p
-- 2 integer :: a(3), v(3)
-- 3 call s(a)
-- 4 call s(a(:))
-- 5 call s(a(v))
-- 6 contains
-- 7 subroutine s(x)
-- 8 integer, intent(inout) :: x(3)
-- 9 end subroutine
-- 10 subroutine t(y)
-- 11 integer, intent(in) :: y(3)
-- 12 call s(y)
-- 13 end subroutine
-- 14 end
abbrev pub sections : Program
sections = program (own 2 integer 1 ∷ own 2 integer 1 ∷ [])
    (calls 3 0 (variable 1 0 ∷ [])
    ∷ calls 4 0 (typed (ints 1) (Named (at 0 (Subscripted (subscript (SubscriptTriplet Absent Absent Absent) no_subscript)) AllOf))
    ∷ [])
    ∷ calls 5 0 (typed (ints 1) (Named (at 0 (Subscripted (subscript (Vector (variable 1 1)) no_subscript)) AllOf)) ∷ []) ∷ [])
    (subroutine no_prefix 7 (dummy 8 integer 1 0 intent.InOut ∷ []) []
    ∷ subroutine no_prefix 10 (dummy 11 integer 1 0 intent.In ∷ []) (calls 12 0 (variable 1 0 ∷ []) ∷ []) ∷ [])

abbrev pub Sections : Type 0
Sections = breaks_of sections ≡ broken_at 5 42 ∷ broken_at 12 42 ∷ []

-- 1 program p
-- 2 character(4) :: c
-- 3 call s(c, c)
-- 4 call s(c(1:3), c)
-- 5 call s(c, c(1:3))
-- 6 call s(trim(c), c)
-- 7 contains
-- 8 subroutine s(x, y)
-- 9 character(3), intent(in) :: x
-- 10 character(*), intent(inout) :: y
-- 11 end subroutine
-- 12 end
abbrev pub lengths : Program
lengths = program (own 2 (character 4) 0 ∷ [])
    (calls 3 0 (typed (texts 4) (Named (at 0 Whole AllOf)) ∷ typed (texts 4) (Named (at 0 Whole AllOf)) ∷ [])
    ∷ calls 4 0 (typed (texts 3) (Named (at 0 Whole (BytesOf (Given (number 1)) (Given (number 3)))))
    ∷ typed (texts 4) (Named (at 0 Whole AllOf)) ∷ [])
    ∷ calls 5 0 (typed (texts 4) (Named (at 0 Whole AllOf))
    ∷ typed (texts 3) (Named (at 0 Whole (BytesOf (Given (number 1)) (Given (number 3))))) ∷ [])
    ∷ calls 6 0 (typed some_text (Trim (typed (texts 4) (Named (at 0 Whole AllOf))))
    ∷ typed (texts 4) (Named (at 0 Whole AllOf)) ∷ []) ∷ [])
    (subroutine no_prefix 8 (dummy 9 (character 3) 0 0 intent.In ∷ dummy 10 character_star 0 1 intent.InOut ∷ []) [] ∷ [])

abbrev pub Lengths : Type 0
Lengths = breaks_of lengths ≡ broken_at 3 46 ∷ broken_at 5 42 ∷ broken_at 5 46 ∷ []
