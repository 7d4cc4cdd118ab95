-- What procedures may be by their prefixes. Each unit stands below its source; variables and procedures are numbered from 0.
use Rattle.std.specs.Prelude.{◌≡◌, [], ◌∷◌}
use Rattle.a95_base.specs.Breaks.{broken_at}
use Rattle.f95_unit.specs.declared.unit.Intent.TheVariants as intent
use Rattle.f95_unit.specs.Plain.{Print, Read, Stop, Return, If, no_branch, branch, Program}
use Rattle.proc_check.specs.Listed.{breaks_of}
use Rattle.proc_check_rows.specs.Build.{truth, stmts, calls, integer, own, dummy, no_prefix, with_recursive, with_pure}
use Rattle.proc_check_rows.specs.Build.{with_elemental, subroutine, function, program}

-- 1 program p
-- 2 contains
-- 3 function f(x)
-- 4 integer, intent(in) :: x
-- 5 integer :: f
-- 6 end function
-- 7 pure function g(x)
-- 8 integer, intent(inout) :: x
-- 9 integer :: g
-- 10 end function
-- 11 subroutine s(x)
-- 12 integer, intent(inout) :: x
-- 13 end subroutine
-- 14 end
abbrev pub functions : Program
functions = program [] []
    (function no_prefix 3 (dummy 4 integer 0 0 intent.In ∷ own 5 integer 0 ∷ []) 1 []
    ∷ function with_pure 7 (dummy 8 integer 0 0 intent.InOut ∷ own 9 integer 0 ∷ []) 1 []
    ∷ subroutine no_prefix 11 (dummy 12 integer 0 0 intent.InOut ∷ []) [] ∷ [])

abbrev pub Functions : Type 0
Functions = breaks_of functions ≡ broken_at 3 43 ∷ broken_at 8 43 ∷ []

-- 1 program p
-- 2 print *
-- 3 stop
-- 4 contains
-- 5 pure subroutine s
-- 6 if (.true.) then
-- 7 print *
-- 8 end if
-- 9 read *
-- 10 call t
-- 11 call s2
-- 12 stop
-- 13 end subroutine
-- 14 subroutine t
-- 15 print *
-- 16 end subroutine
-- 17 elemental subroutine s2
-- 18 return
-- 19 end subroutine
-- 20 end
abbrev pub transfers : Program
transfers = program [] (Print 2 [] ∷ Stop 3 ∷ [])
    (subroutine with_pure 5 []
    (If (branch 6 truth (stmts (Print 7 [] ∷ [])) no_branch) (stmts []) ∷ Read 9 [] ∷ calls 10 1 [] ∷ calls 11 2 []
    ∷ Stop 12 ∷ [])
    ∷ subroutine no_prefix 14 [] (Print 15 [] ∷ []) ∷ subroutine with_elemental 17 [] (Return 18 ∷ []) ∷ [])

abbrev pub Transfers : Type 0
Transfers = breaks_of transfers ≡ broken_at 7 43 ∷ broken_at 9 43 ∷ broken_at 10 43 ∷ broken_at 12 43 ∷ []

-- 1 program p
-- 2 contains
-- 3 elemental function f(x)
-- 4 integer, intent(in) :: x(3)
-- 5 integer :: f(3)
-- 6 integer :: y(3)
-- 7 end function
-- 8 pure function g(x)
-- 9 integer, intent(in) :: x(3)
-- 10 integer :: g(3)
-- 11 end function
-- 12 end
abbrev pub elementals : Program
elementals = program [] []
    (function with_elemental 3 (dummy 4 integer 1 0 intent.In ∷ own 5 integer 1 ∷ own 6 integer 1 ∷ []) 1 []
    ∷ function with_pure 8 (dummy 9 integer 1 0 intent.In ∷ own 10 integer 1 ∷ []) 1 [] ∷ [])

abbrev pub ScalarsAlone : Type 0
ScalarsAlone = breaks_of elementals ≡ broken_at 4 44 ∷ broken_at 5 44 ∷ []

-- 1 program p
-- 2 contains
-- 3 subroutine s
-- 4 call s
-- 5 call t
-- 6 end subroutine
-- 7 recursive subroutine t
-- 8 call s
-- 9 call t
-- 10 end subroutine
-- 11 end
abbrev pub recursions : Program
recursions = program [] []
    (subroutine no_prefix 3 [] (calls 4 0 [] ∷ calls 5 1 [] ∷ [])
    ∷ subroutine with_recursive 7 [] (calls 8 0 [] ∷ calls 9 1 [] ∷ []) ∷ [])

abbrev pub Recursions : Type 0
Recursions = breaks_of recursions ≡ broken_at 4 45 ∷ []
